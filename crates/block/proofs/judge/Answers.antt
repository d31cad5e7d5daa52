-- Line by line, with a level.
use mathlib.Core.Path.{refl}
use native.Mathlib.Omega.{arith}
use Rattle.block.proofs.Judging.{judging_open, judging_end, judging_bad, judging_few, judging_next}
use Rattle.block.proofs.judge.Goals as goal

pub returns-then-number-ne0 : goal.returns-then-number-ne0
returns-then-number-ne0 c = judging_bad c.args.wave.0 c.args.text.now c.args.sizes.now c.loop-at.invariant c.loop-at-test.true c.take_line-taken.ensures c.line_number-number.ensures c.if-number-ne0.true c.refused.ensures

pub overflow_add-sizes : goal.overflow_add-sizes
overflow_add-sizes c = omega (arith, c.well_formed, judging_few c.args.wave.0 c.args.text.now c.args.sizes.now c.loop-at.invariant c.loop-at-test.true c.take_line-taken.ensures c.line_number-number.ensures c.if-number-ne0.false c.words_for.ensures)

pub loop-at-preserved : goal.loop-at-preserved
loop-at-preserved c = judging_next c.args.wave.0 c.args.text.now c.args.sizes.now c.loop-at.invariant c.loop-at-test.true c.take_line-taken.ensures c.line_number-number.ensures c.if-number-ne0.false c.words_for.ensures c.level_after-level.ensures

pub returns-then-level-ne0 : goal.returns-then-level-ne0
returns-then-level-ne0 c = judging_open c.args.wave.0 c.args.text.now c.args.sizes.now c.loop-at.invariant c.loop-at-test.false c.if-level-ne0.true c.refused-then-level-ne0.ensures

pub returns : goal.returns
returns c = judging_end c.args.wave.0 c.args.text.now c.args.sizes.now c.loop-at.invariant c.loop-at-test.false c.if-level-ne0.false refl
