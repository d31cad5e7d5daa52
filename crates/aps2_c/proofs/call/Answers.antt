-- A condition that is none, or the call by value on the state that the numbers are.
use mathlib.Core.Path.{refl}
use lib.ListN.{length}
use Rattle.jumps.specs.State.{fixed_by}
use Rattle.paused.specs.Pause.{setting_of}
use Rattle.aps2_c.proofs.Calls.{none_made, call_answered}
use Rattle.aps2_c.proofs.call.Goals as goal

pub returns-then-state-ge-CONDITIONS : goal.returns-then-state-ge-CONDITIONS
returns-then-state-ge-CONDITIONS c = let a = c.args in
    let e = fixed_by a.words.now a.messages.now (length a.trace.now) (setting_of a.asked) in
    none_made a.pace a.asked.budget e a.state.now c.if-state-ge-CONDITIONS.true _ (c.condition_refused.ensures e refl refl) a.trace.now

pub returns : goal.returns
returns c = let a = c.args in
    let r = c.advance-r in
    call_answered a.pace a.words.now a.messages.now a.trace.now _ a.state.now _ a.asked a.asked _ r.result.paused r.result.end c.if-state-ge-CONDITIONS.false refl c.held_in.ensures r.ensures c.held_numbers.ensures
