-- By the address, and by what the word reads as.
use mathlib.Core.Path.{refl, sym, ◌∙◌}
use lib.ListN.{length}
use Rattle.jumps.specs.State.{fixed_by}
use Rattle.jumps.specs.Lent.{state_in}
use Rattle.jumps.proofs.Laws.{stopped_done}
use Rattle.machine.proofs.Laws.{quiet, refused_done, step_past, step_refused, step_accepted}
use Rattle.machine.proofs.step.Goals as goal

pub returns-then-words-at : goal.returns-then-words-at
returns-then-words-at c = let a = c.args in
    rw (step_past (fixed_by a.words.now a.messages.now (length a.trace.now) a.setting) (state_in a.s a.arrays.now) c.if-words-at.true) (quiet a.s.sent a.trace.now refl (stopped_done c.stop_for.ensures))

pub returns-in-Err : goal.returns-in-Err
returns-in-Err c = let a = c.args in
    rw (step_refused (fixed_by a.words.now a.messages.now (length a.trace.now) a.setting) (state_in a.s a.arrays.now) _ c.if-words-at.false (sym c.reads_as.ensures ∙ c.in-Err.is))
    (quiet a.s.sent a.trace.now refl (refused_done refl))

pub returns-in-Ok : goal.returns-in-Ok
returns-in-Ok c = let a = c.args in
    rw (step_accepted (fixed_by a.words.now a.messages.now (length a.trace.now) a.setting) (state_in a.s a.arrays.now) _ c.if-words-at.false (sym c.reads_as.ensures ∙ c.in-Ok.is)) c.execute.ensures
