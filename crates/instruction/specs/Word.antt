-- The word that an instruction is laid into, and the instruction that a word's fields spell.
-- Neither judges: numbers are given by form, reader and writer.
use Rattle.std.specs.Prelude.{ℕ, Bool, ◌&&◌, List, [], ◌∷◌, eqb, get_or}
use Rattle.instruction.specs.Bits.{pick, held, held_in, laid, laid_onto, all_fit}
use Rattle.instruction.specs.Table.{op_code, engine_select, write_flag, payload_of, code_of, is_noop, is_ignored, noop_word, values_of, body_of}
use Rattle.instruction.specs.declared.Body.{Body}
use Rattle.instruction.specs.declared.Body.TheVariants.{Noop}
use Rattle.instruction.specs.declared.Instruction.{Instruction}

-- ---- raw bytes

-- "raw words .., eight bytes each"
abbrev pub word_bytes : ℕ
word_bytes = 8

-- how many values a byte has
abbrev pub byte_span : ℕ
byte_span = 256

-- ---- from a word

abbrev pub code_in : ℕ → ℕ
code_in word = held word op_code

-- what the payload fields of an op code hold; what is ignored is not read
abbrev pub values_in : ℕ → ℕ → List ℕ
values_in code word = pick (is_ignored code) [] (held_in word (payload_of code))

-- "Engine select and write flag are kept as read, in every instruction except NOOP"
unfoldable pub spelled_by : ℕ → Instruction
spelled_by word = record {
  engine = held word engine_select;
  write = held word write_flag;
  body = body_of (code_in word) (values_in (code_in word) word);
}

-- "except NOOP, which has neither"
abbrev pub noop : Instruction
noop = record { engine = 0; write = 0; body = Noop }

-- ---- to a word

-- op code, engine select, write flag and the payload's fields, each in its place; NOOP is the word of 64 ones
unfoldable pub word_of : Instruction → ℕ
word_of i =
    pick (is_noop i.body)
    noop_word
    (laid_onto (laid op_code (code_of i.body)) (engine_select ∷ write_flag ∷ payload_of (code_of i.body)) (i.engine ∷ i.write ∷ values_of i.body))

-- ---- 23

-- "a field too wide for its bits"; also "a payload asked of RETURN or LOAD_CMP"
abbrev pub body_fits : Body → Bool
body_fits b = pick (is_ignored (code_of b)) (eqb (get_or (values_of b) 0 0) 0) (all_fit (payload_of (code_of b)) (values_of b))

-- what 23 is not given for; also "an engine select or write flag of NOOP"
unfoldable pub fits_of : Instruction → Bool
fits_of i =
    pick (is_noop i.body)
    (eqb i.engine 0 && eqb i.write 0)
    (all_fit (engine_select ∷ write_flag ∷ []) (i.engine ∷ i.write ∷ []) && body_fits i.body)
