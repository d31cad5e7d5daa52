-- Each return is where the tests before it failed and its own held.
use mathlib.Core.Path.{refl, sym}
use lib.ListN.{length}
use Rattle.sequence.proofs.Laws.{place_some}
use Rattle.jumps.specs.State.{Fixed, fixed_by}
use Rattle.jumps.specs.Lent.{state_in}
use Rattle.jumps.specs.declared.State.{State}
use Rattle.jumps.proofs.Laws.{stopped_done}
use Rattle.machine.proofs.Laws.{quiet, execute_placed, execute_acts, group_refused_lem, group_whole}
use Rattle.machine.proofs.execute.Goals as goal

pub returns-in-Err : goal.returns-in-Err
returns-in-Err c = let a = c.args in
    rw (group_refused_lem (fixed_by a.words.now a.messages.now (length a.trace.now) a.setting) (state_in a.s a.arrays.now) a.i _ c.in-Err.ensures (place_some c.in-Err.misplaced))
    (quiet a.s.sent a.trace.now refl (stopped_done c.stop_for.ensures))

pub returns-in-Err-placing : goal.returns-in-Err-placing
returns-in-Err-placing c = let a = c.args in
    rw (execute_placed (fixed_by a.words.now a.messages.now (length a.trace.now) a.setting) (state_in a.s a.arrays.now) a.i _ c.in-Err-placing.ensures (place_some c.in-Err-placing.misplaced))
    (quiet a.s.sent a.trace.now refl (stopped_done c.stop_for-in-Err-placing.ensures))

pub returns : goal.returns
returns c = let a = c.args in
    let e : Fixed = (fixed_by a.words.now a.messages.now (length a.trace.now) a.setting) in
    let s : State = (state_in a.s a.arrays.now) in
    rw (execute_acts e s a.i (sym c.in_default-placing.ensures) (group_whole e s a.i (sym c.in_default.ensures))) c.act.ensures
