-- Whole where there is room, and else not at all.
use Prim.Native.Nat.{ℕ, ◌+◌, ◌≤◌, ◌<◌}
use mathlib.Core.Path.{refl, ap, subst, ◌∙◌}
use mathlib.Core.List.{List}
use lib.ListN.{length}
use Rattle.dispatch.specs.Trace.{Dispatched}
use Rattle.jumps.specs.State.{fixed_by, stopped, with_sent}
use Rattle.jumps.specs.Lent.{state_in}
use Rattle.jumps.specs.Jumps.{nexts}
use Rattle.jumps.specs.declared.Stepped.{Stepped}
use Rattle.jumps.proofs.Laws.{stopped_done}
use Rattle.machine.proofs.Laws.{quiet, send_full, send_whole, group_cut, group_long}
use Rattle.machine.proofs.send.Goals as goal

pub returns-then-trace-end : goal.returns-then-trace-end
returns-then-trace-end c = λ setting ms.
    let a = c.args in
    let t = a.trace.now in
    rw (send_full (fixed_by a.words.now ms (length t) setting) (state_in a.s a.arrays.now)
    (subst (λ (k : ℕ). length t < a.s.sent + k) (group_long a.words.now a.s.address.0 a.s.held c.requires.behind c.requires.inside) c.if-trace-end.true))
    (quiet a.s.sent t refl (stopped_done c.stop_for.ensures))

pub returns : goal.returns
returns c = λ setting ms.
    let a = c.args in
    let t = a.trace.now in
    let long = group_long a.words.now a.s.address.0 a.s.held c.requires.behind c.requires.inside in
    let d = subst (λ (g : List ℕ). Dispatched g a.s.sent t a.arrays.now.waits a.arrays.now.totals c.dispatch.new.trace c.dispatch.new.waits c.dispatch.new.totals)
    (group_cut a.words.now a.s.address.0 a.s.held c.requires.behind) c.dispatch.ensures in
    let x = c.moves.ensures ∙ ap (stopped 0) (c.sends.ensures ∙ ap (λ (k : ℕ). nexts (with_sent (a.s.sent + k) 0 a.s)) long) in
    rw (send_whole (fixed_by a.words.now ms (length t) setting) (state_in a.s a.arrays.now)
    (subst (λ (k : ℕ). a.s.sent + k ≤ length t) long c.if-trace-end.false))
    (record {
      done = record {
        end = ap (λ (y : Stepped). y.end) x;
        state = λ j. record { core = ap (λ (y : Stepped). y.core) x j; returns = a.arrays.now.returns; counters = a.arrays.now.counters; waits = d.waits j; totals = d.totals j };
      };
      trace = d.trace;
    })
