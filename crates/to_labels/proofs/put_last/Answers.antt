-- The text, and its line feed.
use mathlib.Core.List.{[], ◌∷◌}
use Rattle.text.specs.Cut.{line_feed}
use Rattle.buffer.proofs.Laws.{puts_both}
use Rattle.to_labels.proofs.put_last.Goals as goal

pub returns : goal.returns
returns c = puts_both c.args.text.now (line_feed ∷ []) c.args.out.now c.args.at c.requires c.lay-end.ensures c.put_end.ensures
