-- The eight numbers by which C names an instruction: op code (15 for NOOP), engine select, write flag, then the table's fields
-- left to right (RETURN and LOAD_CMP: the payload; WAIT and SYNC: none), and zeros after.
use Rattle.std.specs.Prelude.{◌≡◌, ℕ, zero, suc, ◌-◌, Bool, false, ◌||◌, ◌&&◌, List, [], ◌∷◌, eqb, leb, get_or, length}
use Rattle.instruction.specs.Bits.{pick, all_fit}
use Rattle.instruction.specs.Table.{engine_select, write_flag, code_of, last_code, values_of, body_of}
use Rattle.instruction.specs.Form.{filled}
use Rattle.instruction.specs.declared.Instruction.{Instruction}
use Rattle.instruction.specs.declared.Rules.{Rules}
use Rattle.instruction.specs.declared.Body.{Body}
use Rattle.instruction.specs.declared.Body.TheVariants.{Wait, Sync, Noop}
use Rattle.reader.specs.Reading.{Reading, refusal_of, number_of}
use Rattle.std.specs.declared.result.Result.TheVariants.{Ok, Err}
use Rattle.writer.specs.Writing.{not_written, written_of}
use Rattle.writer.specs.declared.Written.{Written}

abbrev pub field_count : ℕ
field_count = 8

-- ---- reading

-- "WAIT and SYNC: none": their op is their own
abbrev pub is_own : ℕ → Bool
is_own code = eqb code (code_of Wait) || eqb code (code_of Sync)

-- n numbers, zeros after those given
abbrev pub padded_to : ℕ → List ℕ → List ℕ
padded_to zero vs = []
padded_to (suc n) [] = 0 ∷ padded_to n []
padded_to (suc n) (v ∷ vs) = v ∷ padded_to n vs

abbrev pub numbers_of : Body → List ℕ
numbers_of b = pick (is_own (code_of b)) [] (values_of b)

abbrev pub fields_of : Instruction → List ℕ
fields_of i = code_of i.body ∷ i.engine ∷ i.write ∷ padded_to (field_count - 3) (numbers_of i.body)

-- the fields of a reading; "A refused word leaves zeros"
abbrev pub told : Reading → List ℕ
told (Ok i) = fields_of i
told (Err r) = padded_to field_count []

-- what `aps2_read` answers, and what it leaves in the fields and in the bit
pub record Read (reading : Reading) (r : ℕ) (fs given : List ℕ) : Type 0 where
  pub number : r ≡ number_of reading
  pub fields : fs ≡ told reading
  pub bit : given ≡ (refusal_of reading).bit ∷ []

-- ---- writing

abbrev pub is_name : ℕ → Bool
is_name code = leb code last_code || eqb code (code_of Noop)

-- so far, or a number past the first n is not zero; k numbers went before
abbrev pub filled_past : Bool → ℕ → ℕ → List ℕ → Bool
filled_past sofar n k [] = sofar
filled_past sofar n k (v ∷ vs) = filled_past (sofar || (leb n k && filled v)) n (suc k) vs

abbrev pub values_asked : List ℕ → List ℕ
values_asked fs = get_or fs 3 0 ∷ get_or fs 4 0 ∷ get_or fs 5 0 ∷ get_or fs 6 0 ∷ get_or fs 7 0 ∷ []

abbrev pub asked : List ℕ → Instruction
asked fs = record { engine = get_or fs 1 0; write = get_or fs 2 0; body = body_of (get_or fs 0 0) (values_asked fs) }

-- "a code that is none is 10; anything but zero past the fields its name has is 23, and 23 is tested first"
unfoldable pub wish_of : Rules → List ℕ → Written
wish_of rules fs =
    pick (filled_past false (length (numbers_of (asked fs).body)) 0 (values_asked fs)) (not_written 23)
    (pick (is_name (get_or fs 0 0)) (written_of rules (asked fs))
    (pick (all_fit (engine_select ∷ write_flag ∷ []) (get_or fs 1 0 ∷ get_or fs 2 0 ∷ [])) (not_written 10) (not_written 23)))

-- what `aps2_write` answers
pub record Wrote (written : Written) (r : ℕ) (ws : List ℕ) : Type 0 where
  pub number : r ≡ written.number
  pub word : ws ≡ written.word ∷ []
