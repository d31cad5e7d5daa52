-- A tab, and the digits.
use mathlib.Core.List.{[], ◌∷◌}
use Rattle.text.specs.Cut.{tab}
use Rattle.text.specs.Line.{decimal}
use Rattle.buffer.proofs.Laws.{puts_both}
use Rattle.page.proofs.put_value.Goals as goal

pub returns : goal.returns
returns c = puts_both (tab ∷ []) (decimal c.args.n) c.args.page.now c.args.at c.requires c.put_byte-from.ensures c.put_number.ensures
