-- The number, and the end of the line.
use mathlib.Core.List.{[], ◌∷◌}
use Rattle.text.specs.Cut.{line_feed}
use Rattle.text.specs.Line.{decimal}
use Rattle.buffer.proofs.Laws.{puts_both}
use Rattle.to_addresses.proofs.put_target.Goals as goal

pub returns : goal.returns
returns c = puts_both (decimal c.args.means) (line_feed ∷ []) c.args.out.now c.args.at c.requires c.put_number-end.ensures c.put_end.ensures
