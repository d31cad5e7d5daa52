-- A tab, and the letters.
use mathlib.Core.List.{[], ◌∷◌}
use Rattle.text.specs.Cut.{tab}
use Rattle.buffer.proofs.Laws.{puts_both}
use Rattle.page.proofs.put_word.Goals as goal

pub returns : goal.returns
returns c = puts_both (tab ∷ []) c.args.text.now c.args.page.now c.args.at c.requires c.put_byte-from.ensures c.lay.ensures
