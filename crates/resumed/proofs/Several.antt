-- A run goes on where another ended: from the state that a run left, with more messages, triggers and room, the rest of the longer run follows.
-- Assumes nothing.
use mathlib.Core.Path.{◌≡◌, refl, sym, ap, ◌∙◌, subst}
use mathlib.Core.Bool.{Bool, true, false}
use mathlib.Core.List.{List, [], ◌++◌}
use Prim.Native.Nat.{ℕ, zero, suc, ◌+◌, ◌-◌, ◌≤◌, ◌<◌}
use native.Mathlib.Omega.{arith}
use borrow.Author.Tests.{eqb-true, eqb-false, ltb-true}
use lib.Dec.{ltb, eqb}
use Rattle.dispatch.proofs.Counts.{picks}
use Rattle.jumps.specs.State.{Fixed, Did}
use Rattle.jumps.specs.declared.State.{State}
use Rattle.machine.specs.Step.{step_of}
use Rattle.rehearsal.specs.Run.{onto, run_of}
use Rattle.rehearsal.proofs.Runs.{onto_onto, run_moved}
use Rattle.demands.specs.Run.{Extends}
use Rattle.demands.proofs.Steps.{outcome, stops_still}
use Rattle.demands.proofs.Prefix.{step_same}
use Rattle.demands.proofs.Runs.{moved_steps}
use Rattle.paused.specs.Pause.{done_by}
use Rattle.paused.specs.declared.Pace.{Pace}
use Rattle.paused.specs.declared.Pace.TheVariants.{Single, On}

-- from s a run gets to t, with these words dispatched and no more than so many steps counted; what is left of a longer one goes on from t
pub record GoesOn (limit : ℕ) (e : Fixed) (s : State) (out : List ℕ) (t : State) : Type 0 where
  pub done : ℕ
  pub steps : t.core.steps ≡ s.core.steps + done
  pub within : t.core.steps ≤ limit
  pub rest : (j m : ℕ) → m ≡ done + j → run_of m e s ≡ onto out (run_of j e t)

-- ---- in none, in one after the other

pub goes_none : (limit : ℕ) (e : Fixed) (s : State) → s.core.steps ≤ limit → GoesOn limit e s [] s
goes_none limit e s h = record { done = 0; steps = omega arith; within = h; rest = λ j m k. ap (λ (y : ℕ). run_of y e s) (k ∙ none j) }
  where
    none : (j : ℕ) → 0 + j ≡ j
    none j = omega arith

pub goes_then : {a b : ℕ} {e : Fixed} {s t u : State} {xs ys : List ℕ} → GoesOn a e s xs t → GoesOn b e t ys u → GoesOn b e s (xs ++ ys) u
goes_then {e = e} {u = u} {xs = xs} {ys = ys} p q = record {
  done = p.done + q.done;
  steps = omega (arith, p.steps, q.steps);
  within = q.within;
  rest = λ j m h. p.rest (q.done + j) m (omega (arith, h)) ∙ ap (onto xs) (q.rest j (q.done + j) refl) ∙ onto_onto xs ys (run_of j e u);
}

-- ---- a step, and a run

pub on_runs : (pace : Pace) (budget : ℕ) (e : Fixed) (s : State) → pace ≡ On → done_by pace budget e s ≡ run_of (budget - s.core.steps) e s
unfolding done_by
on_runs pace budget e s h = ap (λ (y : Pace). done_by y budget e s) h

module _ (e e' : Fixed) (x : Extends e e') where
  -- where it stopped it altered nothing, and where it moved it moves the same
  stopped_goes : (limit : ℕ) (s : State) → s.core.steps ≤ limit → ((step_of e s).end.number ≡ 0 → ⊥) → GoesOn limit e' s (step_of e s).out (step_of e s).state
  stopped_goes limit s h z =
      let still = stops_still e s z in
      subst (λ (y : State). GoesOn limit e' s (step_of e s).out y) (sym still.0)
      (subst (λ (y : List ℕ). GoesOn limit e' s y s) (sym still.1) (goes_none limit e' s h))

  moved_goes : (limit : ℕ) (s : State) → s.core.steps < limit → (step_of e s).end.number ≡ 0 → GoesOn limit e' s (step_of e s).out (step_of e s).state
  moved_goes limit s h z =
      let q = step_of e s in
      let g : step_of e' s ≡ q = step_same e e' x s z in
      let k = moved_steps e s q (outcome e s) z in
      record {
        done = 1;
        steps = k;
        within = omega (arith, k, h);
        rest = λ j m i.
            let one : m - 1 ≡ j = omega (arith, i) in
            run_moved m e' s (omega (arith, i)) (ap (λ (y : Did). y.end.number) g ∙ z)
            ∙ ap (λ (y : Did). onto y.out (run_of (m - 1) e' y.state)) g
            ∙ ap (λ (n : ℕ). onto q.out (run_of n e' q.state)) one;
      }

  step_goes : (limit : ℕ) (s : State) → s.core.steps < limit → GoesOn limit e' s (step_of e s).out (step_of e s).state
  step_goes limit s h = by (eqb (step_of e s).end.number 0) refl
    where
      by : (b : Bool) → eqb (step_of e s).end.number 0 ≡ b → GoesOn limit e' s (step_of e s).out (step_of e s).state
      by true t = moved_goes limit s h (eqb-true _ 0 t)
      by false t = stopped_goes limit s (omega (arith, h)) (eqb-false _ 0 t)

  abbrev Goes : ℕ → State → Did → Type 0
  Goes limit s d = GoesOn limit e' s d.out d.state

  run_goes : (n limit : ℕ) (s : State) → s.core.steps + n ≤ limit → Goes limit s (run_of n e s)
  unfolding run_of
  run_goes zero limit s h = goes_none limit e' s (omega (arith, h))
  run_goes (suc n) limit s h =
      picks (Goes limit s) (eqb (step_of e s).end.number 0)
      (λ t.
      let k = moved_steps e s (step_of e s) (outcome e s) (eqb-true _ 0 t) in
      goes_then (moved_goes limit s (omega (arith, h)) (eqb-true _ 0 t)) (run_goes n limit (step_of e s).state (omega (arith, h, k))))
      (λ t. stopped_goes limit s (omega (arith, h)) (eqb-false _ 0 t))

  -- what a call does, of either pace
  pub call_goes : (pace : Pace) (budget : ℕ) (s : State) → s.core.steps ≤ budget → Goes budget s (done_by pace budget e s)
  unfolding done_by
  call_goes Single budget s h =
      picks (Goes budget s) (ltb s.core.steps budget)
      (λ t. step_goes budget s (ltb-true s.core.steps budget t))
      (λ t. goes_none budget e' s h)
  call_goes On budget s h = run_goes (budget - s.core.steps) budget s (omega (arith, h))
