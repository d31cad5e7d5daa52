-- By the name that stands there.
use mathlib.Core.Path.{sym, ◌∙◌}
use Rattle.block_line.proofs.Taking.{nameless, end_taken}
use Rattle.block_line.proofs.take_line.Goals as goal

pub returns-then-starts_with-2 : goal.returns-then-starts_with-2
returns-then-starts_with-2 c = end_taken c.args.text.now c.args.at (sym c.starts_with-2.ensures ∙ c.if-starts_with-2.true)

pub returns : goal.returns
returns c = nameless c.args.text.now c.args.at c.requires c.unshaped.ensures c.in_default.ensures (sym c.starts_with.ensures ∙ c.if-starts_with.false) (sym c.starts_with-2.ensures ∙ c.if-starts_with-2.false)
