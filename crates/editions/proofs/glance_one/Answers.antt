-- The address, the name, and whether it is a jump's.
use mathlib.Core.Path.{refl, sym, ◌∙◌}
use Rattle.editions.proofs.Glances.{one_field, stop_order, stop_inside, glance_jump, glance_plain}
use native.Mathlib.Omega.{arith}
use Rattle.editions.proofs.glance_one.Goals as goal

pub returns-then-line-end : goal.returns-then-line-end
returns-then-line-end c = one_field c.args.line.now c.find-end.ensures c.if-line-end.true _

pub returns-then-names_jump : goal.returns-then-names_jump
returns-then-names_jump c = glance_jump c.args.line.now c.find-end.ensures c.if-line-end.false c.find-stop.ensures refl (sym c.names_jump.ensures ∙ c.if-names_jump.true)

pub returns : goal.returns
returns c = glance_plain c.args.line.now c.find-end.ensures c.if-line-end.false c.find-stop.ensures refl (sym c.names_jump.ensures ∙ c.if-names_jump.false)

pub slice_bounds-names_jump-end : goal.slice_bounds-names_jump-end
slice_bounds-names_jump-end c =
    omega (arith, stop_order c.args.line.now c.find-end.ensures c.if-line-end.false c.find-stop.ensures, stop_inside c.args.line.now c.find-end.ensures c.if-line-end.false c.find-stop.ensures)
