-- The mask is the definition.
use mathlib.Core.Path.{refl}
use Rattle.flow.specs.Masks.{bare_of}
use Rattle.flow.proofs.Mark.bare.Goals as goal

pub returns : goal.returns
unfolding bare_of
returns c = refl
