-- Demand 2, the word: "An accepted word reads as one instruction, and writing that instruction gives the word back;
-- only RETURN and LOAD_CMP, whose payload the module ignores, come back with it zeroed."
use Rattle.std.specs.Prelude.{◌≡◌, ℕ, ◌*◌, ◌/◌, ◌^◌, ◌<◌}
use Rattle.instruction.specs.Bits.{pick, span}
use Rattle.instruction.specs.Table.{whole_payload, is_ignored}
use Rattle.instruction.specs.Word.{code_in}
use Rattle.instruction.specs.declared.Instruction.{Instruction}
use Rattle.instruction.specs.declared.Rules.{Rules}
use Rattle.reader.specs.Reading.{reading_of}
use Rattle.std.specs.declared.result.Result.TheVariants.{Ok}
use Rattle.writer.specs.Writing.{written_of}

-- the word, with the payload of RETURN and LOAD_CMP zeroed
abbrev pub zeroed : ℕ → ℕ
zeroed word = pick (is_ignored (code_in word)) (word / span whole_payload * span whole_payload) word

-- a 64-bit word that reads as an instruction is what that instruction writes
abbrev pub ReadWrite : Type 0
ReadWrite =
    (rules : Rules) (word : ℕ) → word < 2 ^ 64
    → (i : Instruction) → reading_of rules word ≡ Ok i
    → written_of rules i ≡ record { number = 0; word = zeroed word }

-- what is written with number 0 reads back as the instruction asked for
abbrev pub WriteRead : Type 0
WriteRead =
    (rules : Rules) (i : Instruction) → (written_of rules i).number ≡ 0
    → reading_of rules (written_of rules i).word ≡ Ok i
