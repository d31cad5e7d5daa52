-- What the code computes: the masks of a mark, all depths at once, and the test of an op code. Not for a reader of the contracts:
-- proofs/Bits.antt says what each bit of them means, and proofs/Codes.antt what the test tells.
use Rattle.std.specs.Prelude.{◌≡◌, ℕ, ◌*◌, ◌/◌, ◌%◌, ◌^◌, Bool, ◌||◌, ltb}
use Rattle.std.specs.Int.Bits.{bit_and, bit_or}
use Rattle.instruction.specs.Table.{code_of}
use Rattle.instruction.specs.Word.{code_in}
use Rattle.instruction.specs.declared.Body.TheVariants.{Repeat, Return}
use Rattle.flow.specs.declared.Move.{Move}
use Rattle.flow.specs.declared.Moves.{Moves}
use Rattle.flow.specs.declared.Move.TheVariants.{Other, Compare, Jump, Enter, Leave, Loop}

-- the depths reached, at bit 2d
unfoldable pub bare_of : ℕ → ℕ
bare_of m = bit_and (bit_or m (m / 2)) 0x5555_5555_5555_5555

-- the depths reached with a condition, at bit 2d
unfoldable pub held_of : ℕ → ℕ
held_of m = bit_and (m / 2) 0x5555_5555_5555_5555

-- one deeper, without a condition
unfoldable pub deeper_of : ℕ → ℕ → ℕ
deeper_of lim m = (bare_of m % 2 ^ (2 * lim)) * 4

-- what a mark, and the depths at which a RETURN is marked, put at the next address
abbrev pub next_of : Move → ℕ → ℕ → ℕ
next_of Other m r = m
next_of Compare m r = bare_of m * 2
next_of (Jump t) m r = held_of m
next_of (Enter t) m r = bit_or (held_of m) (bit_and (bare_of m) (r / 4))
next_of Leave m r = held_of m
next_of (Loop t) m r = m

-- and at the target
abbrev pub jump_of : ℕ → Move → ℕ → ℕ
jump_of lim Other m = 0
jump_of lim Compare m = 0
jump_of lim (Jump t) m = bare_of m
jump_of lim (Enter t) m = deeper_of lim m
jump_of lim Leave m = 0
jump_of lim (Loop t) m = m

abbrev pub to_of : Move → ℕ
to_of Other = 0
to_of Compare = 0
to_of (Jump t) = t.0
to_of (Enter t) = t.0
to_of Leave = 0
to_of (Loop t) = t.0

-- what the moves of a word come to
pub record Follows (lim : ℕ) (o : Move) (m r : ℕ) (f : Moves) : Type 0 where
  pub next : f.next ≡ next_of o m r
  pub jump : f.jump ≡ jump_of lim o m
  pub to : f.to.0 ≡ to_of o

-- an op code below REPEAT's or above RETURN's: the word goes on to the next address
abbrev pub goes_on : ℕ → Bool
goes_on word = ltb (code_in word) (code_of (Repeat (record { 0 = 0 }))) || ltb (code_of (Return (record { 0 = 0 }))) (code_in word)
