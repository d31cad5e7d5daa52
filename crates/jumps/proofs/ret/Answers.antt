-- By condition and depth.
use mathlib.Core.Path.{sym, ap, ◌∙◌}
use native.Mathlib.Omega.{arith}
use Rattle.jumps.specs.State.{with_condition, stopped}
use Rattle.jumps.specs.Lent.{state_in}
use Rattle.jumps.specs.declared.Condition.TheVariants.{Absent}
use Rattle.jumps.proofs.Laws.{moved_done, stopped_done, return_not, return_none, return_taken}
use Rattle.jumps.proofs.ret.Goals as goal

pub returns-then-not-acts : goal.returns-then-not-acts
returns-then-not-acts c =
    let a = c.args in
    rw (return_not (state_in a.s a.arrays.now) (sym c.acts.ensures ∙ c.if-not-acts.true))
    (moved_done (c.moves.ensures ∙ ap (stopped 0) (c.with_condition.ensures ∙ ap (with_condition Absent) c.nexts.ensures)))

pub returns-then-depth-eq0 : goal.returns-then-depth-eq0
returns-then-depth-eq0 c =
    let a = c.args in
    rw (return_none (state_in a.s a.arrays.now) (sym c.acts.ensures ∙ c.if-not-acts.false) c.if-depth-eq0.true)
    (stopped_done c.stop_for.ensures)

pub returns : goal.returns
returns c =
    let a = c.args in
    let deep = c.if-depth-eq0.false in
    rw (return_taken (state_in a.s a.arrays.now) (sym c.acts.ensures ∙ c.if-not-acts.false) (omega (arith, deep)))
    (moved_done (c.moves-2.ensures ∙ ap (stopped 0) (c.with_condition-2.ensures ∙ ap (with_condition Absent) c.goes.ensures)))
