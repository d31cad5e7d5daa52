-- The state is taken apart, moved and put together.
use mathlib.Core.Path.{◌≡◌, subst}
use lib.ListN.{length}
use Rattle.jumps.specs.State.{fixed_by}
use Rattle.jumps.specs.Lent.{state_in, Leaves}
use Rattle.jumps.specs.declared.Arrays.{Arrays}
use Rattle.paused.specs.Pause.{setting_of, done_by}
use Rattle.paused.proofs.Pauses.{can_go_on, went_so}
use Rattle.paused.proofs.moves_on.Goals as goal

pub goes_on-r-requires : goal.goes_on-r-requires
goes_on-r-requires c = let a = c.args in
    let w : length a.p.state.waits ≡ 6 = assumption c.well_formed in
    let t : length a.p.state.totals ≡ 6 = assumption c.well_formed in
    rw (c.setting.ensures, c.arrays-arrays.ensures) (can_go_on a.asked.budget (fixed_by a.words.now a.messages.now (length a.trace.now) (setting_of a.asked)) a.p w t c.requires)

pub returns : goal.returns
returns c = let a = c.args in
    went_so a.pace a.asked.budget (fixed_by a.words.now a.messages.now (length a.trace.now) (setting_of a.asked)) a.p c.requires a.trace.now _ c.goes_on-r.result _ _ _ _ _
    (rw (← c.setting.ensures) (subst (λ (y : Arrays). Leaves (done_by a.pace a.asked.budget (fixed_by a.words.now a.messages.now (length a.trace.now) c.setting.result) (state_in a.p.state.core y)) a.p.state.core.sent a.trace.now c.goes_on-r.new.trace c.goes_on-r.result c.goes_on-r.new.arrays) c.arrays-arrays.ensures c.goes_on-r.ensures)) c.put_together-paused.ensures
