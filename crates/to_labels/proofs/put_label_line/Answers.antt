-- What stands before the number, the number, and the line feed.
use mathlib.Core.List.{[], ◌∷◌}
use Rattle.text.specs.Cut.{line_feed}
use Rattle.text.specs.Line.{decimal}
use Rattle.buffer.proofs.Laws.{puts_three}
use Rattle.to_labels.proofs.Laying.{label_front}
use Rattle.to_labels.proofs.put_label_line.Goals as goal

pub returns : goal.returns
returns c = puts_three label_front (decimal c.args.a) (line_feed ∷ []) c.args.out.now c.args.at c.requires c.lay-from.ensures c.put_number-end.ensures c.put_end.ensures
