-- The write flag of what the word spells.
use mathlib.Core.Path.{ap}
use mathlib.Core.Bool.{not}
use lib.Dec.{eqb}
use Rattle.instruction.specs.declared.Instruction.{Instruction}
use Rattle.verdict.specs.Words.{is_high}
use Rattle.verdict.proofs.is_high.Goals as goal

pub returns : goal.returns
unfolding is_high
returns c = ap (λ (i : Instruction). not (eqb i.write 0)) c.spelled_by-i.ensures
