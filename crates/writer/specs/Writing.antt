-- What an instruction is written as: a word with number 0, or a number with word zero. Document 01, "Numbers given back".
-- The writer "judges no placing".
use Rattle.std.specs.Prelude.{ℕ, not, eqb}
use Rattle.instruction.specs.Bits.{pick, ◌gives◌else◌}
use Rattle.instruction.specs.Form.{form_of}
use Rattle.instruction.specs.Word.{fits_of, word_of}
use Rattle.instruction.specs.declared.Instruction.{Instruction}
use Rattle.instruction.specs.declared.Rules.{Rules}
use Rattle.writer.specs.declared.Written.{Written}

-- "The writer gives 23 for a field too wide for its bits, tested first, then form numbers"
unfoldable pub asked_of : Rules → Instruction → ℕ
asked_of rules i = not (fits_of i) gives 23 else form_of rules i

-- "each with word zero"
abbrev pub not_written : ℕ → Written
not_written number = record { number = number; word = 0 }

-- "A word written has number 0"
unfoldable pub written_of : Rules → Instruction → Written
written_of rules i = record { number = asked_of rules i; word = pick (eqb (asked_of rules i) 0) (word_of i) 0 }
