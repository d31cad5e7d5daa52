-- Line after line, each in the room that those before it left.
use native.Mathlib.Omega.{arith}
use Rattle.text.specs.Cut.{line_feed}
use Rattle.text.proofs.Cuts.{found_inside}
use Rattle.to_labels.proofs.Marking.{judging_end, judging_bad, judging_size, judging_fit, judging_next}
use Rattle.to_labels.proofs.judge_lines.Goals as goal

pub overflow_add-next : goal.overflow_add-next
overflow_add-next c = omega (arith, found_inside line_feed c.loop-at.at c.args.text.now c.find-end.ensures (omega (arith, c.loop-at-test.true)), c.well_formed)

pub returns-then-told-ne0 : goal.returns-then-told-ne0
returns-then-told-ne0 c = judging_bad c.args.n c.args.text.now c.args.from c.args.room c.args.marks.now c.args.notes.now c.requires c.loop-at.invariant c.find-end.ensures c.loop-at-test.true c.tell_line-told.ensures c.if-told-ne0.true

pub named_size-requires : goal.named_size-requires
named_size-requires c = judging_size c.args.n c.args.text.now c.args.from c.args.room c.args.marks.now c.args.notes.now c.requires c.loop-at.invariant c.find-end.ensures c.loop-at-test.true c.tell_line-told.ensures c.if-told-ne0.false

pub parts_of-requires : goal.parts_of-requires
parts_of-requires c = judging_fit c.args.n c.args.text.now c.args.from c.args.room c.args.marks.now c.args.notes.now c.requires c.loop-at.invariant c.find-end.ensures c.loop-at-test.true c.tell_line-told.ensures c.if-told-ne0.false

pub loop-at-preserved : goal.loop-at-preserved
loop-at-preserved c = judging_next c.args.n c.args.text.now c.args.from c.args.room c.args.marks.now c.args.notes.now c.requires c.loop-at.invariant c.find-end.ensures c.loop-at-test.true c.tell_line-told.ensures c.if-told-ne0.false c.named_size.ensures c.take-left.ensures c.mark.ensures c.parts_of.ensures c.keep_note.ensures

pub returns : goal.returns
returns c = judging_end c.args.n c.args.text.now c.args.from c.args.room c.args.marks.now c.args.notes.now c.requires c.loop-at.invariant c.loop-at-test.false
