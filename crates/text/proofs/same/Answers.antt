-- By pairs, as the library compares.
use mathlib.Core.Path.{◌∙◌}
use Rattle.text.proofs.Alike.{same_pairs}
use Rattle.text.proofs.same.Goals as goal

pub returns : goal.returns
returns c = c.eq.ensures ∙ same_pairs c.args.a.now c.args.b.now
