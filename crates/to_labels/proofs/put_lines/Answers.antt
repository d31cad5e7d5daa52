-- Line after line.
use lib.ListN.{drop}
use Rattle.text.specs.Cut.{rows_in}
use Rattle.to_labels.proofs.Marks.{near_told}
use Rattle.to_labels.proofs.Placing.{placing_start, placing_end, placing_below, placing_movable, placing_noted, placing_fits, placing_next}
use Rattle.to_labels.proofs.put_lines.Goals as goal

pub loop-at-init : goal.loop-at-init
loop-at-init c = (placing_start c.args.n c.args.text.now c.args.from c.args.marks.now c.args.notes.now c.args.out.now c.args.start c.requires, c.requires.known)

pub parts_at-parts-requires : goal.parts_at-parts-requires
parts_at-parts-requires c = (placing_movable c.args.n c.args.text.now c.args.from c.args.marks.now c.args.notes.now c.args.out.now c.args.start c.requires c.loop-at.invariant.0 c.loop-at-test.true, placing_noted c.args.n c.args.text.now c.args.from c.args.marks.now c.args.notes.now c.args.out.now c.args.start c.requires c.loop-at.invariant.0 c.loop-at-test.true)

pub base_for-base-requires : goal.base_for-base-requires
base_for-base-requires c = (c.loop-at.invariant.1, placing_below c.args.n c.args.text.now c.args.from c.args.marks.now c.args.notes.now c.args.out.now c.args.start c.requires c.loop-at.invariant.0 c.loop-at-test.true)

pub put_row-place-requires : goal.put_row-place-requires
put_row-place-requires c = (c.parts_at-parts.ensures.lies, placing_fits c.args.n c.args.text.now c.args.from c.args.marks.now c.args.notes.now c.args.out.now c.args.start c.requires c.loop-at.invariant.0 c.loop-at-test.true (near_told c.args.n (rows_in (drop c.args.from c.args.text.now)) c.loop-at.a c.base_for-base.ensures) c.parts_at-parts.ensures)

pub loop-at-preserved : goal.loop-at-preserved
loop-at-preserved c = (placing_next c.args.n c.args.text.now c.args.from c.args.marks.now c.args.notes.now c.args.out.now c.args.start c.requires c.loop-at.invariant.0 c.loop-at-test.true (near_told c.args.n (rows_in (drop c.args.from c.args.text.now)) c.loop-at.a c.base_for-base.ensures) c.parts_at-parts.ensures c.put_row-place.ensures, c.base_for-base.ensures.known)

pub returns : goal.returns
returns c = placing_end c.args.n c.args.text.now c.args.from c.args.marks.now c.args.notes.now c.args.out.now c.args.start c.requires c.loop-at.invariant.0 c.loop-at-test.false
