-- The loop has come along the run as far as its state and trace, with so much of the budget left.
use mathlib.Core.Path.{◌≡◌, refl}
use native.Mathlib.Omega.{arith}
use lib.ListN.{length}
use Rattle.jumps.specs.State.{fixed_by}
use Rattle.jumps.specs.Lent.{state_in}
use Rattle.rehearsal.proofs.Runs.{along_start, along_step, along_stop, along_spent, loop_traced}
use Rattle.rehearsal.proofs.run_from.Goals as goal

pub loop-left-init : goal.loop-left-init
loop-left-init c = let a = c.args in
    along_start (fixed_by a.words.now a.messages.now (length a.trace.now) a.setting) a.budget (state_in a.s a.arrays.now) a.trace.now refl c.requires

pub returns-then-r-ne0 : goal.returns-then-r-ne0
returns-then-r-ne0 c = let a = c.args in
    let u = a.trace.now in
    let s₀ = state_in a.s a.arrays.now in
    let k = c.loop-left in
    let t = state_in k.at k.arrays in
    along_stop (fixed_by a.words.now a.messages.now (length u) a.setting) a.budget s₀ u refl k._left t k.trace k.invariant c.loop-left-test.true _ _ _ _ _ c.step-r.result (loop_traced a.words.now a.messages.now u a.setting a.budget s₀ k._left t k.trace k.invariant c.step-r.ensures) c.if-r-ne0.true

pub loop-left-preserved : goal.loop-left-preserved
loop-left-preserved c = let a = c.args in
    let u = a.trace.now in
    let s₀ = state_in a.s a.arrays.now in
    let k = c.loop-left in
    let t = state_in k.at k.arrays in
    along_step (fixed_by a.words.now a.messages.now (length u) a.setting) a.budget s₀ u refl k._left t k.trace k.invariant c.loop-left-test.true _ _ _ _ _ c.step-r.result (loop_traced a.words.now a.messages.now u a.setting a.budget s₀ k._left t k.trace k.invariant c.step-r.ensures) c.if-r-ne0.false

pub returns : goal.returns
returns c = let a = c.args in
    let u = a.trace.now in
    let s₀ = state_in a.s a.arrays.now in
    let k = c.loop-left in
    let t = state_in k.at k.arrays in
    let z : k._left ≡ 0 = omega (arith, c.loop-left-test.false) in
    along_spent (fixed_by a.words.now a.messages.now (length u) a.setting) a.budget s₀ u refl k._left t k.trace k.invariant z _ c.stop_for.ensures
