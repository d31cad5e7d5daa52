-- By condition and depth.
use mathlib.Core.Path.{sym, ap, ◌∙◌}
use Rattle.jumps.specs.State.{with_condition, stopped}
use Rattle.jumps.specs.Lent.{state_in}
use Rattle.jumps.specs.declared.Condition.TheVariants.{Absent}
use Rattle.jumps.proofs.Laws.{moved_done, stopped_done, call_not, call_full, call_taken}
use Rattle.jumps.proofs.call.Goals as goal

pub returns-then-not-acts : goal.returns-then-not-acts
returns-then-not-acts c =
    let a = c.args in
    rw (call_not (state_in a.s a.arrays.now) a.to.0 (sym c.acts.ensures ∙ c.if-not-acts.true))
    (moved_done (c.moves.ensures ∙ ap (stopped 0) (c.with_condition.ensures ∙ ap (with_condition Absent) c.nexts.ensures)))

pub returns-then-depth-ge-STACK : goal.returns-then-depth-ge-STACK
returns-then-depth-ge-STACK c =
    let a = c.args in
    rw (call_full (state_in a.s a.arrays.now) a.to.0 (sym c.acts.ensures ∙ c.if-not-acts.false) c.if-depth-ge-STACK.true)
    (stopped_done c.stop_for.ensures)

pub returns : goal.returns
returns c =
    let a = c.args in
    rw (call_taken (state_in a.s a.arrays.now) a.to.0 (sym c.acts.ensures ∙ c.if-not-acts.false) c.if-depth-ge-STACK.false)
    (moved_done (c.moves-2.ensures ∙ ap (stopped 0) (c.with_condition-2.ensures ∙ ap (with_condition Absent) c.goes.ensures)))
