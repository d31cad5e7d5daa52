-- What a word reads as: one instruction, or a form number. Document 01, "The word" and "Numbers given back"; document 02, CR 2 and 3.
-- What only a word can have wrong is judged here (10, 111 to 113, 12); 13 to 19 and 24 are the instruction's.
use Rattle.std.specs.Prelude.{ℕ, zero, suc, ◌+◌, Bool, true, false, not, ◌||◌, ◌&&◌, List, [], ◌∷◌, eqb, ltb, leb}
use Rattle.instruction.specs.Bits.{pick, ◌gives◌else◌, is_set, is_in, held}
use Rattle.instruction.specs.Table.{word_bits, op_code, engine_select, reserved, write_flag, engine_op, payload_of, code_of, last_code, noop_word, wait_op, sync_op}
use Rattle.instruction.specs.Form.{numbered, tells_bit, form_of}
use Rattle.instruction.specs.Word.{code_in, spelled_by, noop}
use Rattle.instruction.specs.declared.Field.{Field}
use Rattle.instruction.specs.declared.Instruction.{Instruction}
use Rattle.instruction.specs.declared.Refusal.{Refusal}
use Rattle.instruction.specs.declared.Rules.{Rules}
use Rattle.instruction.specs.declared.Body.TheVariants.{Wait, Sync}
use Rattle.std.specs.declared.result.Result.{Result}
use Rattle.std.specs.declared.result.Result.TheVariants.{Ok, Err}

-- some number below n passes a test
abbrev pub some_below : ℕ → (ℕ → Bool) → Bool
some_below zero test = false
some_below (suc n) test = test n || some_below n test

-- bit k is in one of the fields
abbrev pub is_in_one : ℕ → List Field → Bool
is_in_one k [] = false
is_in_one k (f ∷ fs) = is_in k f || is_in_one k fs

-- "The bits each op code names": the header's fields, and its payload's
abbrev pub is_named : ℕ → ℕ → Bool
is_named code k = is_in_one k (op_code ∷ engine_select ∷ write_flag ∷ payload_of code)

-- "10 op code 13 to 15, not NOOP"
abbrev pub no_such_code : ℕ → Bool
no_such_code word = ltb last_code (code_in word)

-- "a bit set that is not named": bit k of a word is one
abbrev pub is_stray : ℕ → ℕ → Bool
is_stray word k = is_set k word && not (is_named (code_in word) k)

-- bit k "lies above the highest field": above every one of them
abbrev pub is_above : ℕ → List Field → Bool
is_above k [] = true
is_above k (f ∷ fs) = leb (f.low + f.width) k && is_above k fs

-- "header bit 57, a payload bit that no field of this op code reaches because it lies above the highest field, or a gap between or below fields"
abbrev pub kind_of : ℕ → ℕ → ℕ
kind_of code k =
    is_in k reserved gives 111
    else is_above k (payload_of code) gives 112
    else 113

-- a bit of this kind is set that is not named
unfoldable pub has_kind : ℕ → ℕ → Bool
has_kind kind word = some_below word_bits (λ k. is_stray word k && eqb (kind_of (code_in word) k) kind)

-- "12 WAIT or SYNC whose payload op is not its own"
unfoldable pub not_its_op : ℕ → Bool
not_its_op word =
    (eqb (code_in word) (code_of Wait) && not (eqb (held word engine_op) wait_op))
    || (eqb (code_in word) (code_of Sync) && not (eqb (held word engine_op) sync_op))

-- "Form, from the word alone, lowest number wins", 111 to 113 "in that order and at 11's place"; 0 where none is given
unfoldable pub form_in : Rules → ℕ → ℕ
form_in rules word =
    no_such_code word gives 10
    else has_kind 111 word gives 111
    else has_kind 112 word gives 112
    else has_kind 113 word gives 113
    else not_its_op word gives 12
    else form_of rules (spelled_by word)

-- the highest number below n that passes a test; 0 where none does
abbrev pub highest_below : ℕ → (ℕ → Bool) → ℕ
highest_below zero test = 0
highest_below (suc n) test = pick (test n) n (highest_below n test)

-- "the highest offending bit as a number"
unfoldable pub highest_stray : ℕ → ℕ
highest_stray word = highest_below word_bits (is_stray word)

-- "Tell the highest offending bit as a number, 0 beside any other refusal": of a word with this number
abbrev pub refused_with : ℕ → ℕ → Refusal
refused_with word number = record { number = number; bit = pick (tells_bit number) (highest_stray word) 0 }

-- what a word spells, with H2: NOOP is "tested before all else"
abbrev pub instruction_in : ℕ → Instruction
instruction_in word = pick (eqb word noop_word) noop (spelled_by word)

-- a word reads as one instruction, or is refused
abbrev pub Reading : Type 0
Reading = Result Instruction Refusal

-- an instruction where the number is 0, and else the refusal, whole
abbrev pub judged : Refusal → Instruction → Reading
judged refusal i = pick (eqb refusal.number 0) (Ok i) (Err refusal)

-- H2: NOOP is "tested before all else"
unfoldable pub reading_of : Rules → ℕ → Reading
reading_of rules word = pick (eqb word noop_word) (Ok noop) (judged (refused_with word (form_in rules word)) (spelled_by word))

-- the refusal of a reading; number 0 is accepted
abbrev pub refusal_of : Reading → Refusal
refusal_of (Ok i) = numbered 0
refusal_of (Err r) = r

abbrev pub number_of : Reading → ℕ
number_of reading = (refusal_of reading).number
