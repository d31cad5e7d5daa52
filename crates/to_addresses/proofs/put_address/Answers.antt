-- The number, and the tab.
use mathlib.Core.List.{[], ◌∷◌}
use Rattle.text.specs.Cut.{tab}
use Rattle.text.specs.Line.{decimal}
use Rattle.buffer.proofs.Laws.{puts_both}
use Rattle.to_addresses.proofs.put_address.Goals as goal

pub returns : goal.returns
returns c = puts_both (decimal c.args.a) (tab ∷ []) c.args.out.now c.args.at c.requires c.put_number-end.ensures c.put_byte.ensures
