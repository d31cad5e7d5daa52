-- A name, and the number.
use mathlib.Core.List.{[], ◌∷◌}
use Rattle.text.specs.Line.{number, rest_text}
use Rattle.buffer.proofs.Laws.{puts_both}
use Rattle.listing.proofs.put_pair.Goals as goal

pub returns : goal.returns
returns c = puts_both c.args.text.now (rest_text (number c.args.n ∷ [])) c.args.page.now 0 c.requires c.lay-end.ensures c.put_numbers.ensures
