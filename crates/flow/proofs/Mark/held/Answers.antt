-- The mask is the definition.
use mathlib.Core.Path.{refl}
use Rattle.flow.specs.Masks.{held_of}
use Rattle.flow.proofs.Mark.held.Goals as goal

pub returns : goal.returns
unfolding held_of
returns c = refl
