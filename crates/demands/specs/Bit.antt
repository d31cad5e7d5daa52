-- Document 02, CR 2: "Tell the highest offending bit as a number, 0 beside any other refusal."
-- Said of the reading of a word, of check and of a run alike.
use Rattle.std.specs.Prelude.{◌≡◌, true, false, List, ℕ, ◌<◌, get_or}
use Rattle.instruction.specs.Bits.{is_set}
use Rattle.instruction.specs.Table.{word_bits}
use Rattle.instruction.specs.Form.{tells_bit}
use Rattle.instruction.specs.Word.{code_in}
use Rattle.instruction.specs.declared.Refusal.{Refusal}
use Rattle.instruction.specs.declared.Rules.{Rules}
use Rattle.reader.specs.Reading.{is_named, kind_of, reading_of, refusal_of}
use Rattle.jumps.specs.State.{Fixed}
use Rattle.rehearsal.specs.Run.{rehearse}
use Rattle.verdict.specs.Check.{CheckIs}
use Rattle.verdict.specs.declared.Verdict.{Verdict}

-- the bit told is set, no field of the op code names it, no higher bit is so, and the number is its kind
pub record Offends (word : ℕ) (r : Refusal) : Type 0 where
  pub inside : r.bit < word_bits
  pub set : is_set r.bit word ≡ true
  pub unnamed : is_named (code_in word) r.bit ≡ false
  pub highest : (k : ℕ) → k < word_bits → r.bit < k → is_set k word ≡ true → is_named (code_in word) k ≡ true
  pub kind : r.number ≡ kind_of (code_in word) r.bit

-- beside 111, 112 and 113 that bit, and "0 beside any other refusal"
pub record SaysBit (word : ℕ) (r : Refusal) : Type 0 where
  pub told : tells_bit r.number ≡ true → Offends word r
  pub none : tells_bit r.number ≡ false → r.bit ≡ 0

-- of every word
abbrev pub WhichBit : Type 0
WhichBit = (rules : Rules) (word : ℕ) → SaysBit word (refusal_of (reading_of rules word))

-- of every check: of the word at the place told
abbrev pub WhichBitChecked : Type 0
WhichBitChecked =
    (rules : Rules) (wave : ℕ) (words marks marks' : List ℕ) (v : Verdict) → CheckIs rules wave words marks v marks'
    → SaysBit (get_or words v.place.0 0) v.refusal

-- of every run: of the word at the address where it ended
abbrev pub WhichBitRun : Type 0
WhichBitRun =
    (e : Fixed) (budget : ℕ)
    → SaysBit (get_or e.words (rehearse budget e).state.core.address.0 0) (rehearse budget e).end
