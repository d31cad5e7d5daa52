-- Refused with zeros, or the steps from the fresh state.
use mathlib.Core.Path.{refl, sym}
use lib.ListN.{length}
use Rattle.sequence.proofs.Laws.{input_some}
use Rattle.jumps.specs.State.{fixed_by}
use Rattle.rehearsal.proofs.Runs.{rehearse_refused, rehearse_runs, can_go}
use Rattle.rehearsal.proofs.run.Goals as goal

pub returns-in-Err : goal.returns-in-Err
returns-in-Err c = let a = c.args in
    rw (rehearse_refused a.budget (fixed_by a.words.now a.messages.now (length a.trace.now) (record { wave = a.wave; rules = a.rules; triggers = a.triggers })) _ c.in-Err.ensures (input_some c.in-Err.bad)) (record { answer = c.refused.ensures; trace = refl })

pub from_fresh-requires : goal.from_fresh-requires
from_fresh-requires c = let a = c.args in
    can_go a.budget (fixed_by a.words.now a.messages.now (length a.trace.now) (record { wave = a.wave; rules = a.rules; triggers = a.triggers })) (sym c.in_default.ensures)

pub returns : goal.returns
returns c = let a = c.args in
    rw (rehearse_runs a.budget (fixed_by a.words.now a.messages.now (length a.trace.now) (record { wave = a.wave; rules = a.rules; triggers = a.triggers })) (sym c.in_default.ensures)) c.from_fresh.ensures
