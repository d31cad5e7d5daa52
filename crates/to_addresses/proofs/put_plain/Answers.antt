-- The address, the line, and its end.
use mathlib.Core.List.{[], ◌∷◌, ◌++◌}
use Rattle.text.specs.Cut.{tab, line_feed}
use Rattle.text.specs.Line.{decimal}
use Rattle.buffer.proofs.Laws.{puts_three}
use Rattle.to_addresses.proofs.put_plain.Goals as goal

pub returns : goal.returns
returns c = puts_three (decimal c.args.a ++ (tab ∷ [])) c.args.line.now (line_feed ∷ []) c.args.out.now c.args.at c.requires c.put_address-next.ensures c.lay-end.ensures c.put_end.ensures
