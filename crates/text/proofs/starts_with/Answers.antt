-- By pairs, as the library compares.
use mathlib.Core.Path.{◌∙◌}
use Rattle.text.proofs.Alike.{starts_at}
use Rattle.text.proofs.starts_with.Goals as goal

pub returns : goal.returns
returns c = c.starts_with.ensures.value ∙ starts_at c.args.name.now c.args.text.now c.args.at
