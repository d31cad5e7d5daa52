-- `writes_alike`: what the older kind does not refuse with 24 is written alike for the current one. `writes_alone`: what it does is written for that.
-- Assumes nothing.
use mathlib.Core.Path.{◌≡◌, ap}
use mathlib.Core.Bool.{not}
use native.Mathlib.Omega.{arith}
use Prim.Native.Nat.{ℕ}
use lib.Dec.{eqb}
use Rattle.instruction.specs.Bits.{pick}
use Rattle.instruction.specs.Rules.{older, current}
use Rattle.instruction.specs.Word.{fits_of, word_of}
use Rattle.instruction.specs.declared.Instruction.{Instruction}
use Rattle.instruction.proofs.Alike.{before_24, only_24, form_alike, form_alone}
use Rattle.writer.specs.Writing.{asked_of, written_of}

asked_alike : (i : Instruction) → (asked_of older i ≡ 24 → ⊥) → asked_of current i ≡ asked_of older i
unfolding asked_of
asked_alike i = before_24 (not (fits_of i)) 23 (form_alike i)

asked_alone : (i : Instruction) → asked_of older i ≡ 24 → asked_of current i ≡ 0
unfolding asked_of
asked_alone i = only_24 (not (fits_of i)) 23 (λ z. omega (arith, z)) (form_alone i)

pub writes_alike : (i : Instruction) → ((written_of older i).number ≡ 24 → ⊥) → written_of current i ≡ written_of older i
unfolding written_of
writes_alike i h = ap (λ (k : ℕ). record { number = k; word = pick (eqb k 0) (word_of i) 0 }) (asked_alike i h)

pub writes_alone : (i : Instruction) → (written_of older i).number ≡ 24 → written_of current i ≡ record { number = 0; word = word_of i }
unfolding written_of
writes_alone i h = ap (λ (k : ℕ). record { number = k; word = pick (eqb k 0) (word_of i) 0 }) (asked_alone i h)
