-- Laws of writing: what an instruction is written as, by its tests.
-- Assumes nothing.
use mathlib.Core.Path.{◌≡◌}
use mathlib.Core.Bool.{true, false}
use borrow.Author.Tests.{eq-eqb, ne_eqb}
use Rattle.instruction.specs.Form.{form_of}
use Rattle.instruction.specs.Word.{fits_of, word_of}
use Rattle.instruction.specs.declared.Instruction.{Instruction}
use Rattle.instruction.specs.declared.Rules.{Rules}
use Rattle.writer.specs.Writing.{asked_of, written_of}

pub asked_wide : (rules : Rules) (i : Instruction) → fits_of i ≡ false → asked_of rules i ≡ 23
unfolding asked_of
asked_wide rules i e = rw e

pub asked_fitting : (rules : Rules) (i : Instruction) → fits_of i ≡ true → asked_of rules i ≡ form_of rules i
unfolding asked_of
asked_fitting rules i e = rw e

pub written_good : (rules : Rules) (i : Instruction) → asked_of rules i ≡ 0 → written_of rules i ≡ record { number = asked_of rules i; word = word_of i }
unfolding written_of
written_good rules i e = simp (eq-eqb _ _ e)

pub written_bad : (rules : Rules) (i : Instruction) → (asked_of rules i ≡ 0 → ⊥) → written_of rules i ≡ record { number = asked_of rules i; word = 0 }
unfolding written_of
written_bad rules i h = simp (ne_eqb _ _ h)
