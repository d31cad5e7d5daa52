-- Each arm that returns is what its instruction does; the others go out.
use mathlib.Core.Path.{refl, ap, ◌∙◌}
use native.Mathlib.Omega.{arith}
use Rattle.jumps.specs.State.{stopped}
use Rattle.jumps.proofs.Laws.{moved_done, call_quiet, return_quiet, message_quiet}
use Rattle.machine.specs.Step.{act_of}
use Rattle.machine.specs.Kept.{goes_out}
use Rattle.machine.proofs.Laws.{quiet, sends_of}
use Rattle.machine.proofs.act.Goals as goal
use Rattle.machine.proofs.act.Goals.{in-Waveform, in-Marker, in-Wait, in-Sync, in-Modulator}

pub returns-in-LoadRepeat : goal.returns-in-LoadRepeat
unfolding act_of
returns-in-LoadRepeat c = let a = c.args in
    rw c.in-LoadRepeat.is (quiet a.s.sent a.trace.now refl (moved_done (c.moves.ensures ∙ ap (stopped 0) c.loads.ensures)))

pub returns-in-Repeat : goal.returns-in-Repeat
unfolding act_of
returns-in-Repeat c = let a = c.args in
    rw c.in-Repeat.is (quiet a.s.sent a.trace.now refl (moved_done (c.moves-in-Repeat.ensures ∙ ap (stopped 0) c.repeat.ensures)))

pub returns-in-Cmp : goal.returns-in-Cmp
unfolding act_of
returns-in-Cmp c = let a = c.args in
    rw c.in-Cmp.is (quiet a.s.sent a.trace.now refl (moved_done (c.moves-in-Cmp.ensures ∙ ap (stopped 0) c.compare.ensures)))

pub returns-in-Goto : goal.returns-in-Goto
unfolding act_of
returns-in-Goto c = let a = c.args in
    rw c.in-Goto.is (quiet a.s.sent a.trace.now refl (moved_done (c.moves-in-Goto.ensures ∙ ap (stopped 0) c.goto.ensures)))

pub returns-in-Call : goal.returns-in-Call
unfolding act_of
returns-in-Call c = let a = c.args in
    rw c.in-Call.is (quiet a.s.sent a.trace.now (call_quiet _ _) c.call.ensures)

pub returns-in-Return : goal.returns-in-Return
unfolding act_of
returns-in-Return c = let a = c.args in
    rw c.in-Return.is (quiet a.s.sent a.trace.now (return_quiet _) c.ret.ensures)

pub returns-in-LoadCmp : goal.returns-in-LoadCmp
unfolding act_of
returns-in-LoadCmp c = let a = c.args in
    rw c.in-LoadCmp.is (quiet a.s.sent a.trace.now (message_quiet _ _) (c.message.ensures a.arrays.now))

pub returns-in-Prefetch : goal.returns-in-Prefetch
unfolding act_of
returns-in-Prefetch c = let a = c.args in
    rw c.in-Prefetch.is (quiet a.s.sent a.trace.now refl (moved_done (c.moves-in-Prefetch.ensures ∙ ap (stopped 0) c.nexts.ensures)))

pub returns-in-Noop : goal.returns-in-Noop
unfolding act_of
returns-in-Noop c = let a = c.args in
    rw c.in-Noop.is (quiet a.s.sent a.trace.now refl (moved_done (c.moves-in-Noop.ensures ∙ ap (stopped 0) c.nexts-in-Noop.ensures)))

pub outward-requires : goal.outward-requires
outward-requires c = (
  sends_of c.requires (omega (arith, c.requires.inside)),
  -- where the arms meet, the word goes out
  elim c.match-body.branch [
    | in-Waveform w ↦ ap goes_out w.in-Waveform.is
    | in-Marker w ↦ ap goes_out w.in-Marker.is
    | in-Wait w ↦ ap goes_out w.in-Wait.is
    | in-Sync w ↦ ap goes_out w.in-Sync.is
    | in-Modulator w ↦ ap goes_out w.in-Modulator.is
  ],
)
