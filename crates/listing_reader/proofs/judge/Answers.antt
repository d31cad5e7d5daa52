-- Line after line.
use native.Mathlib.Omega.{arith}
use Rattle.listing_reader.proofs.Lines.{judging_bad, judging_inside, judging_next, judging_end}
use Rattle.listing_reader.proofs.judge.Goals as goal

pub overflow_add-next : goal.overflow_add-next
overflow_add-next c = omega (arith, judging_inside c.args.rules c.args.text.now c.args.from c.args.room c.loop-at.invariant c.loop-at-test.true c.find-end.ensures, c.well_formed)

pub returns-then-number-ne0 : goal.returns-then-number-ne0
returns-then-number-ne0 c = judging_bad c.args.rules c.args.text.now c.args.from c.args.room c.loop-at.invariant c.loop-at-test.true c.find-end.ensures c.line_number-number.ensures c.if-number-ne0.true

pub loop-at-preserved : goal.loop-at-preserved
loop-at-preserved c = judging_next c.args.rules c.args.text.now c.args.from c.args.room c.loop-at.invariant c.loop-at-test.true c.find-end.ensures c.line_number-number.ensures c.if-number-ne0.false

pub returns : goal.returns
returns c = judging_end c.args.rules c.args.text.now c.args.from c.args.room c.loop-at.invariant c.loop-at-test.false
