-- Its bytes decide, where their number does not.
use mathlib.Core.Path.{◌∙◌}
use native.Mathlib.Omega.{arith}
use Rattle.label.proofs.Shapes.{label_sized}
use Rattle.label.proofs.is_label.Goals as goal

pub returns-in-1-to-16 : goal.returns-in-1-to-16
returns-in-1-to-16 c = c.are_label_bytes.ensures ∙ label_sized c.args.name.now (omega (arith, c.in-1-to-16)) (omega (arith, c.in-1-to-16))
