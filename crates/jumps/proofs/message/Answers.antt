-- By what is left of the messages.
use mathlib.Core.Path.{ap, ◌∙◌}
use Prim.Native.Nat.{ℕ, ◌+◌}
use Rattle.jumps.specs.State.{with_message, stopped}
use Rattle.jumps.specs.Lent.{state_in}
use Rattle.jumps.specs.Jumps.{nexts}
use Rattle.jumps.proofs.Laws.{moved_done, stopped_done, message_none, message_taken}
use Rattle.jumps.proofs.message.Goals as goal

pub returns-then-messages-next : goal.returns-then-messages-next
returns-then-messages-next c = λ arrays.
    let a = c.args in
    rw (message_none a.messages.now (state_in a.s arrays) c.if-messages-next.true) (stopped_done c.stop_for.ensures)

pub returns : goal.returns
returns c = λ arrays.
    let a = c.args in
    rw (message_taken a.messages.now (state_in a.s arrays) c.if-messages-next.false)
    (moved_done (c.moves.ensures ∙ ap (stopped 0) (c.takes.ensures ∙ ap (λ (m : ℕ). nexts (with_message (a.s.used + 1) m a.s)) c.wide.ensures.0)))
