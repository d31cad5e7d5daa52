-- No step, or the loop, of as many as the pace takes.
use mathlib.Core.Path.{refl}
use lib.ListN.{length}
use Rattle.jumps.specs.State.{fixed_by}
use Rattle.jumps.specs.Lent.{state_in}
use Rattle.jumps.proofs.Laws.{stopped_done}
use Rattle.machine.proofs.Laws.{quiet}
use Rattle.paused.proofs.Pauses.{done_spent, loop_left}
use Rattle.paused.proofs.goes_on.Goals as goal

pub returns-then-budget-done : goal.returns-then-budget-done
returns-then-budget-done c = let a = c.args in
    rw (done_spent a.budget (fixed_by a.words.now a.messages.now (length a.trace.now) a.setting) (state_in a.s a.arrays.now) a.pace c.if-budget-done.true) (quiet a.s.sent a.trace.now refl (stopped_done c.stop_for.ensures))

pub returns : goal.returns
returns c = let a = c.args in
    loop_left a.budget (fixed_by a.words.now a.messages.now (length a.trace.now) a.setting) (state_in a.s a.arrays.now) a.s.sent a.trace.now _ _ _ _ _ _ c.if-budget-done.false a.pace _ c.steps.ensures _ c.ends.ensures c.run_from-r.ensures
