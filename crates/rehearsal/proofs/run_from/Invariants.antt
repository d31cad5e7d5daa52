-- The loop has come along the run as far as its state and trace, with so much of the budget left.
use lib.ListN.{length}
use Rattle.jumps.specs.State.{fixed_by}
use Rattle.jumps.specs.Lent.{state_in}
use Rattle.rehearsal.proofs.Runs.{Along}
use Rattle.rehearsal.proofs.run_from.Given as goal

abbrev pub invariant-loop-left : goal.invariant-loop-left
invariant-loop-left l = Along (fixed_by l.words l.messages (length l.initial.trace) l.setting) l.budget (state_in l.initial.at l.initial.arrays) l.initial.trace l._left (state_in l.at l.arrays) l.trace
