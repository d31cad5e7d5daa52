-- What stands behind the field to the end of the line.
use mathlib.Core.Path.{sym, ap, ◌∙◌}
use Rattle.label.specs.Label.{is_label}
use Rattle.editions.proofs.Two.{label_here, label_not, rest_all}
use Rattle.editions.proofs.label_from.Goals as goal

pub returns-then-is_label : goal.returns-then-is_label
returns-then-is_label c = label_here c.args.line.now c.args.end c.if-line-end.false (ap is_label (sym (rest_all c.args.line.now _)) ∙ sym c.is_label.ensures ∙ c.if-is_label.true)

pub returns : goal.returns
returns c = label_not c.args.line.now c.args.end c.if-line-end.false (ap is_label (sym (rest_all c.args.line.now _)) ∙ sym c.is_label.ensures ∙ c.if-is_label.false)
