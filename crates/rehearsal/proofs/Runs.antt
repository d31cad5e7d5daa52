-- Runs: what the loop keeps, and laws of runs over their budget.
-- Assumes nothing.
use Prim.Native.Nat.{ℕ, zero, suc, ◌+◌, ◌-◌, ◌≤◌, ◌<◌}
use mathlib.Core.Path.{◌≡◌, refl, ap, sym, ◌∙◌, subst}
use mathlib.Core.Bool.{Bool, true, false, not}
use mathlib.Core.List.{List, [], ◌++◌, append_assoc, append-nil}
use native.Mathlib.Nat.{add-zero}
use native.Mathlib.Numerals.{sub-one}
use native.Mathlib.Omega.{arith}
use borrow.Author.Tests.{eq-eqb, ne_eqb, eqb-true, eqb-false, lt-ltb, le-ltb, ltb-false}
use lib.Dec.{ltb, eqb}
use lib.ListN.{length, length-append}
use Rattle.instruction.specs.Bits.{pick}
use Rattle.instruction.specs.declared.Refusal.{Refusal}
use Rattle.sequence.specs.Bounds.{budget_limit, lengths_refused}
use Rattle.buffer.specs.Put.{put}
use Rattle.buffer.proofs.Laws.{put_none, length_put, put_put, put_front}
use Rattle.jumps.specs.State.{Fixed, fixed_by, Did, state_of, fresh, stop, stopped}
use Rattle.jumps.specs.Lent.{Traced}
use Rattle.jumps.specs.declared.Setting.{Setting}
use Rattle.jumps.specs.declared.State.{State}
use Rattle.jumps.specs.declared.Stepped.{Stepped}
use Rattle.machine.specs.Step.{step_of}
use Rattle.machine.specs.Kept.{Good, Ready}
use Rattle.machine.proofs.Kept.{kept, fresh_good}
use Rattle.rehearsal.specs.Run.{onto, then_did, run_of, input_refused, rehearse, Rehearsed, CanGo}

-- ---- one step of a run

pub onto_onto : (xs ys : List ℕ) (d : Did) → onto xs (onto ys d) ≡ onto (xs ++ ys) d
onto_onto xs ys d = rw append_assoc

run_step : (n : ℕ) (e : Fixed) (s : State) → 0 < n → run_of n e s ≡ then_did (step_of e s) (run_of (n - 1) e (step_of e s).state)
unfolding run_of
run_step zero e s h = absurd (omega arith)
run_step (suc n) e s h = rw sub-one

pub run_moved : (n : ℕ) (e : Fixed) (s : State) → 0 < n → (step_of e s).end.number ≡ 0 → run_of n e s ≡ onto (step_of e s).out (run_of (n - 1) e (step_of e s).state)
run_moved n e s h z =
    run_step n e s h
    ∙ ap (λ (y : Bool). pick y (onto (step_of e s).out (run_of (n - 1) e (step_of e s).state)) (step_of e s)) (eq-eqb (step_of e s).end.number 0 z)

run_stopped : (n : ℕ) (e : Fixed) (s : State) → 0 < n → ((step_of e s).end.number ≡ 0 → ⊥) → run_of n e s ≡ step_of e s
run_stopped n e s h z =
    run_step n e s h
    ∙ ap (λ (y : Bool). pick y (onto (step_of e s).out (run_of (n - 1) e (step_of e s).state)) (step_of e s)) (ne_eqb (step_of e s).end.number 0 z)

-- ---- the loop

-- from the state s and the trace u, with the budget b, the loop has come to the state t and the trace v, with so much left
pub record Along (e : Fixed) (b : ℕ) (s : State) (u : List ℕ) (left : ℕ) (t : State) (v : List ℕ) : Type 0 where
  pub good : Good e t
  pub steps : t.core.steps + left ≤ budget_limit
  pub out : List ℕ
  pub wrote : v ≡ put u s.core.sent out
  pub sent : t.core.sent ≡ s.core.sent + length out
  pub rest : run_of b e s ≡ onto out (run_of left e t)

module _ (e : Fixed) (b : ℕ) (s : State) (u : List ℕ) (room : e.room ≡ length u) where
  pub along_start : CanGo b e s → Along e b s u b s u
  along_start g = record { good = g.good; steps = g.steps; out = []; wrote = sym (put_none u s.core.sent); sent = sym (add-zero s.core.sent); rest = refl }

  module _ (left : ℕ) (t : State) (v : List ℕ) (a : Along e b s u left t v) where
    pub along_length : length v ≡ length u
    along_length = ap length a.wrote ∙ length_put u a.out s.core.sent (omega (arith, a.good.sent, a.sent))

    -- what the trace holds after one more step
    wrote_more : (v' xs : List ℕ) → v' ≡ put v t.core.sent xs → v' ≡ put u s.core.sent (a.out ++ xs)
    wrote_more v' xs h =
        h
        ∙ ap (λ (y : List ℕ). put y t.core.sent xs) a.wrote
        ∙ ap (λ (k : ℕ). put (put u s.core.sent a.out) k xs) a.sent
        ∙ put_put u a.out xs s.core.sent (omega (arith, a.good.sent, a.sent))

    module _ (more : 0 < left) (v' rs cs ws ts : List ℕ) (r : Stepped) (d : Traced (step_of e t) t.core.sent v v' r rs cs ws ts) where
      pub along_step : r.end.number ≡ 0 → Along e b s u (left - 1) (state_of r.core rs cs ws ts) v'
      along_step z =
          let k = kept e t a.good in
          let q = step_of e t in
          let f = run_moved left e t more (ap (λ (y : Refusal). y.number) (sym d.done.end) ∙ z) in
          subst (λ (y : State). Along e b s u (left - 1) y v') (sym d.done.state)
          (record {
            good = k.good;
            steps = omega (arith, k.steps, a.steps);
            out = a.out ++ q.out;
            wrote = wrote_more v' q.out d.trace;
            sent = omega (arith, k.sent, a.sent, length-append a.out q.out);
            rest = a.rest ∙ ap (onto a.out) f ∙ onto_onto a.out q.out (run_of (left - 1) e q.state);
          })

      pub along_stop : (r.end.number ≡ 0 → ⊥) → Traced (run_of b e s) s.core.sent u v' r rs cs ws ts
      along_stop z =
          let q = step_of e t in
          let f = run_stopped left e t more (λ h. z (ap (λ (y : Refusal). y.number) d.done.end ∙ h)) in
          let g : run_of b e s ≡ onto a.out q = a.rest ∙ ap (onto a.out) f in
          rw g (record { done = record { end = d.done.end; state = d.done.state }; trace = wrote_more v' q.out d.trace })

  -- the budget is spent
  pub along_spent : (left : ℕ) (t : State) (v : List ℕ) → Along e b s u left t v → left ≡ 0 → (r : Stepped) → r ≡ stopped 40 t.core
      → Traced (run_of b e s) s.core.sent u v r t.returns t.counters t.waits t.totals
  unfolding run_of
  along_spent left t v a z r h =
      let f : run_of b e s ≡ onto a.out (stop 40 t) = a.rest ∙ ap (λ (n : ℕ). onto a.out (run_of n e t)) z in
      rw f
      (record {
        done = record { end = ap (λ (y : Stepped). y.end) h; state = ap (λ (y : Stepped). state_of y.core t.returns t.counters t.waits t.totals) h };
        trace = a.wrote ∙ ap (put u s.core.sent) (sym (append-nil a.out));
      })

-- a trace that was written into is as long as it was, so what is fixed stays the same
module _ (words messages u : List ℕ) (setting : Setting) (b : ℕ) (s : State) (left : ℕ) (t : State) (v : List ℕ) (a : Along (fixed_by words messages (length u) setting) b s u left t v) where
  same_length : length v ≡ length u
  same_length = along_length (fixed_by words messages (length u) setting) b s u refl left t v a

  pub loop_ready : 0 < left → Ready (fixed_by words messages (length v) setting) t
  loop_ready more =
      subst (λ (n : ℕ). Ready (fixed_by words messages n setting) t) (sym same_length) (record { good = a.good; steps = omega (arith, a.steps) })

  pub loop_traced : {v' rs cs ws ts : List ℕ} {r : Stepped} → Traced (step_of (fixed_by words messages (length v) setting) t) t.core.sent v v' r rs cs ws ts
      → Traced (step_of (fixed_by words messages (length u) setting) t) t.core.sent v v' r rs cs ws ts
  loop_traced {v'} {rs} {cs} {ws} {ts} {r} d = subst (λ (n : ℕ). Traced (step_of (fixed_by words messages n setting) t) t.core.sent v v' r rs cs ws ts) same_length d

-- ---- input numbers

pub refused_lengths : (n wave budget : ℕ) → (lengths_refused n wave ≡ 0 → ⊥) → input_refused n wave budget ≡ lengths_refused n wave
unfolding input_refused
refused_lengths n wave budget h = rw (ne_eqb _ _ h)

pub refused_budget : (n wave budget : ℕ) → lengths_refused n wave ≡ 0 → budget_limit < budget → input_refused n wave budget ≡ 5
unfolding input_refused
refused_budget n wave budget h l = rw (h, lt-ltb budget_limit budget l)

pub refused_none : (n wave budget : ℕ) → lengths_refused n wave ≡ 0 → budget ≤ budget_limit → input_refused n wave budget ≡ 0
unfolding input_refused
refused_none n wave budget h l = rw (h, le-ltb budget_limit budget l)

-- what is not refused has good lengths and a budget within its limit
pub input_good : (n wave budget : ℕ) → input_refused n wave budget ≡ 0 → (lengths_refused n wave ≡ 0) × (budget ≤ budget_limit)
unfolding input_refused
input_good n wave budget e = by (eqb (lengths_refused n wave) 0) refl (ltb budget_limit budget) refl e
  where
    by : (p : Bool) → eqb (lengths_refused n wave) 0 ≡ p → (q : Bool) → ltb budget_limit budget ≡ q
        → ◌≡◌ {A = ℕ} (pick (not p) (lengths_refused n wave) (pick q 5 0)) 0 → (lengths_refused n wave ≡ 0) × (budget ≤ budget_limit)
    by false h q l z = absurd (eqb-false (lengths_refused n wave) 0 h z)
    by true h true l z = absurd (omega arith)
    by true h false l z = (eqb-true (lengths_refused n wave) 0 h, ltb-false budget_limit budget l)

-- ---- the whole run

pub rehearse_refused : (b : ℕ) (e : Fixed) (n : ℕ) → n ≡ input_refused (length e.words) e.setting.wave.0 b → (n ≡ 0 → ⊥) → rehearse b e ≡ stop n fresh
unfolding rehearse
rehearse_refused b e n p h = rw (← p, ne_eqb n 0 h)

pub rehearse_runs : (b : ℕ) (e : Fixed) → input_refused (length e.words) e.setting.wave.0 b ≡ 0 → rehearse b e ≡ run_of b e fresh
unfolding rehearse
rehearse_runs b e p = rw p

pub can_go : (b : ℕ) (e : Fixed) → input_refused (length e.words) e.setting.wave.0 b ≡ 0 → CanGo b e fresh
can_go b e p = record { good = fresh_good e; steps = omega (arith, (input_good (length e.words) e.setting.wave.0 b p).1) }

pub rehearsed : (b : ℕ) (e : Fixed) {u v : List ℕ} {r : Stepped} {rs cs ws ts : List ℕ}
    → Traced (run_of b e fresh) 0 u v r rs cs ws ts → Rehearsed (run_of b e fresh) u v (record { end = r.end; state = state_of r.core rs cs ws ts })
rehearsed b e {u} d = record { answer = λ j. record { end = d.done.end j; state = d.done.state j }; trace = d.trace ∙ put_front u (run_of b e fresh).out }
