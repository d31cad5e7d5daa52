-- One level after the other.
use Rattle.block.proofs.Fitting.{Stacking}
use Rattle.block.proofs.stack_levels.Given as goal

abbrev pub invariant-loop-head : goal.invariant-loop-head
invariant-loop-head l = Stacking l.initial.heads l.heads l.place l.head-index
