-- The front, an `L`, and the target.
use mathlib.Core.List.{[], ◌∷◌, ◌++◌}
use Rattle.text.specs.Cut.{line_feed}
use Rattle.text.specs.Line.{letters}
use Rattle.buffer.proofs.Laws.{puts_three}
use Rattle.to_labels.proofs.put_jump.Goals as goal

pub returns : goal.returns
returns c = puts_three c.args.front.now (letters "L") (c.args.target.now ++ (line_feed ∷ [])) c.args.out.now c.args.at c.requires c.lay-end.ensures c.put_byte-next.ensures c.put_last.ensures
