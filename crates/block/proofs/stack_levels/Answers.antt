-- One level after the other.
use native.Mathlib.Omega.{arith}
use Rattle.block.proofs.Fitting.{stacking_few, stacking_next}
use Rattle.block.proofs.stack_levels.Goals as goal

pub overflow_add-place : goal.overflow_add-place
overflow_add-place c = omega (arith, c.requires.1, stacking_few c.args.heads.now c.requires.0 c.loop-head.invariant c.loop-head-test.true)

pub loop-head-preserved : goal.loop-head-preserved
loop-head-preserved c = stacking_next c.args.heads.now c.requires.0 c.loop-head.invariant c.loop-head-test.true
