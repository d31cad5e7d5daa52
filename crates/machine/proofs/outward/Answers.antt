-- By 41, the write flag, and what the word is.
use mathlib.Core.Path.{refl, sym, ap, ◌∙◌}
use mathlib.Core.Bool.{Bool, ◌&&◌}
use lib.Dec.{eqb}
use lib.ListN.{length}
use Rattle.jumps.specs.State.{fixed_by, stopped}
use Rattle.jumps.specs.Lent.{state_in}
use Rattle.jumps.proofs.Laws.{moved_done, stopped_done}
use Rattle.machine.proofs.Laws.{quiet, out_awaits, out_held, out_sent}
use Rattle.machine.proofs.outward.Goals as goal

pub returns-then-awaits_trigger : goal.returns-then-awaits_trigger
returns-then-awaits_trigger c = λ ms.
    let a = c.args in
    let t = a.trace.now in
    rw (out_awaits (fixed_by a.words.now ms (length t) a.setting) (state_in a.s a.arrays.now) a.write a.body (sym c.awaits_trigger.ensures ∙ c.if-awaits_trigger.true))
    (quiet a.s.sent t refl (stopped_done c.stop_for.ensures))

pub returns-then-is_engine-write : goal.returns-then-is_engine-write
returns-then-is_engine-write c = λ ms.
    let a = c.args in
    let t = a.trace.now in
    rw (out_held (fixed_by a.words.now ms (length t) a.setting) (state_in a.s a.arrays.now) a.write a.body
    (ap (λ (b : Bool). b && eqb a.write 0) (sym c.is_engine.ensures) ∙ c.if-is_engine-write.true))
    (quiet a.s.sent t refl (moved_done (c.moves.ensures ∙ ap (stopped 0) c.hold.ensures)))

pub returns : goal.returns
returns c = λ ms.
    let a = c.args in
    rw (out_sent (fixed_by a.words.now ms (length a.trace.now) a.setting) (state_in a.s a.arrays.now) a.write a.body c.requires.1
    (sym c.awaits_trigger.ensures ∙ c.if-awaits_trigger.false) (ap (λ (b : Bool). b && eqb a.write 0) (sym c.is_engine.ensures) ∙ c.if-is_engine-write.false))
    (c.send.ensures a.setting ms)
