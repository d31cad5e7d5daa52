-- By its name, and by its last field where it jumps.
use native.Mathlib.Omega.{arith}
use Rattle.text.specs.Cut.{line_feed}
use Rattle.text.proofs.Cuts.{found_inside}
use Rattle.to_labels.proofs.Parting.{name_inside, plain_parts, jump_parts, seen_named}
use Rattle.to_labels.proofs.parts_seen.Goals as goal

pub overflow_add-from : goal.overflow_add-from
overflow_add-from c = omega (arith, name_inside c.args.text.now c.args.at c.find-end.ensures c.requires.here c.glance_one-told.result (seen_named c.args.text.now c.args.at c.requires c.find-end.ensures c.glance_one-told.ensures))

pub returns-then-told : goal.returns-then-told
returns-then-told c = plain_parts c.args.text.now c.args.at c.find-end.ensures c.requires.here c.glance_one-told.result (seen_named c.args.text.now c.args.at c.requires c.find-end.ensures c.glance_one-told.ensures) c.if-told.true

pub returns : goal.returns
returns c = jump_parts c.args.text.now c.args.at c.find-end.ensures c.requires.here c.glance_one-told.result (seen_named c.args.text.now c.args.at c.requires c.find-end.ensures c.glance_one-told.ensures) c.if-told.false c.last_field.ensures

pub slice_bounds-glance_one-end : goal.slice_bounds-glance_one-end
slice_bounds-glance_one-end c = omega (arith, found_inside line_feed c.args.at c.args.text.now c.find-end.ensures (omega (arith, c.requires.here)))
