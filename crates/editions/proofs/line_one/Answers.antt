-- Without its shape, without a target, past the last word, or a jump.
use mathlib.Core.Path.{sym, ◌∙◌}
use Rattle.text.specs.Cut.{tab, cut}
use Rattle.editions.proofs.One.{one_past, one_jump}
use Rattle.editions.proofs.line_one.Goals as goal

pub returns-then-n-target : goal.returns-then-n-target
returns-then-n-target c = one_past c.args.n c.args.a (cut tab c.args.line.now) c.line_shape-shape.ensures c.if-shape-ne0.false (sym c.is_jump.ensures ∙ c.if-not-is_jump.false) c.if-n-target.true c.refused-then-n-target.ensures

pub returns : goal.returns
returns c = one_jump c.args.n c.args.a (cut tab c.args.line.now) c.line_shape-shape.ensures c.if-shape-ne0.false (sym c.is_jump.ensures ∙ c.if-not-is_jump.false) c.if-n-target.false
