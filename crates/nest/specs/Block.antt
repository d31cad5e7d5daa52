-- What block the lines of a text are. Document 02, CR 5: "A block is a list of items, and an item may be a repeat around a block."
-- Every list of lines is some block; which texts are refused is the judge's to say.
use Rattle.std.specs.Prelude.{ℕ, zero, suc, List, [], ◌∷◌}
use Rattle.instruction.specs.Bits.{◌gives◌else◌}
use Rattle.instruction.specs.Form.{filled}
use Rattle.instruction.specs.Rules.{current}
use Rattle.instruction.specs.declared.WaveformFields.{WaveformFields}
use Rattle.instruction.specs.declared.Instruction.{Instruction}
use Rattle.instruction.specs.declared.Body.{Body}
use Rattle.instruction.specs.declared.Body.TheVariants.{Waveform}
use Rattle.sequence.specs.Bounds.{stack_depth}
use Rattle.sequence.specs.Placing.{placing_of}
use Rattle.writer.specs.Writing.{asked_of}
use Rattle.nest.specs.declared.Line.{Line}
use Rattle.nest.specs.declared.Line.TheVariants.{Pulse, Repeat, End, Unshaped}

-- nothing more; a play or hold, and what follows; N times a block, and what follows
pub data Block : Type 0 where
  done : Block
  pulse : WaveformFields → Block → Block
  repeat : ℕ → Block → Block → Block

-- from a line on, what is left of the block that is so many levels out: 0 is the innermost one that is open there
abbrev pub block_in : List Line → ℕ → Block
block_in [] out = done
block_in (Pulse f ∷ lines) zero = pulse f (block_in lines zero)
block_in (Pulse f ∷ lines) (suc out) = block_in lines (suc out)
block_in (Repeat n ∷ lines) zero = repeat n (block_in lines zero) (block_in lines (suc zero))
block_in (Repeat n ∷ lines) (suc out) = block_in lines (suc (suc out))
block_in (End ∷ lines) zero = done
block_in (End ∷ lines) (suc out) = block_in lines out
block_in (Unshaped ∷ lines) out = block_in lines out

-- ---- what a block may hold

-- "N from 1 to 65,536"
abbrev pub repeat_limit : ℕ
repeat_limit = 65536

-- "nest deeper than 16": each level takes an entry of the stack
abbrev pub nest_limit : ℕ
nest_limit = stack_depth

-- "engine select 0, the write flag high on SYNC, play and hold only"
abbrev pub high : Body → Instruction
high b = record { engine = 0; write = 1; body = b }

abbrev pub low : Body → Instruction
low b = record { engine = 0; write = 0; body = b }

-- "then the writer's numbers and 20", of a play or hold; a word of one engine op is the same for either firmware
unfoldable pub pulse_number : ℕ → WaveformFields → ℕ
pulse_number wave f =
    filled (asked_of current (high (Waveform f))) gives asked_of current (high (Waveform f))
    else placing_of wave 0 (Waveform f)
