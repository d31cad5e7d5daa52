-- Refused with nothing changed, or done.
use lib.ListN.{length}
use Rattle.jumps.specs.State.{fixed_by}
use Rattle.paused.specs.Pause.{setting_of}
use Rattle.paused.proofs.Pauses.{refused_so, call_some}
use Rattle.paused.proofs.advance.Goals as goal

pub returns-in-Err : goal.returns-in-Err
returns-in-Err c = let a = c.args in
    rw (c.numbered.ensures, c.number.ensures) (refused_so a.pace a.asked.budget (fixed_by a.words.now a.messages.now (length a.trace.now) (setting_of a.asked)) a.p _ c.in-Err.ensures (call_some c.in-Err.bad) a.trace.now)
