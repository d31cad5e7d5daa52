-- The first field, and whether it is a jump's.
use mathlib.Core.Path.{refl, sym, ◌∙◌}
use lib.Seq.{length-take-le}
use Rattle.editions.proofs.Two.{end_inside}
use Rattle.editions.proofs.Glances.{glance_label, glance_aimed, glance_word}
use Rattle.editions.proofs.glance_two.Goals as goal

pub returns-then-kind : goal.returns-then-kind
returns-then-kind c = glance_label c.args.line.now c.kind_of-kind.ensures c.if-kind.true

pub slice_bounds-names_jump-end : goal.slice_bounds-names_jump-end
slice_bounds-names_jump-end c = sym (length-take-le c.kind_of-kind.result.end c.args.line.now (end_inside c.args.line.now c.kind_of-kind.ensures.end))

pub returns-then-names_jump : goal.returns-then-names_jump
returns-then-names_jump c = glance_aimed c.args.line.now c.kind_of-kind.ensures c.if-kind.false refl (sym c.names_jump.ensures ∙ c.if-names_jump.true) c.last_field.ensures

pub returns : goal.returns
returns c = glance_word c.args.line.now c.kind_of-kind.ensures c.if-kind.false refl (sym c.names_jump.ensures ∙ c.if-names_jump.false) c.plain.ensures
