-- Laws of a call: what it is refused for, what is known of one that is not, and what it does under its tests.
-- Assumes nothing.
use Prim.Native.Nat.{ℕ, ◌+◌, ◌-◌, ◌≤◌, ◌<◌}
use mathlib.Core.Path.{◌≡◌, refl, ap, sym, ◌∙◌, subst}
use mathlib.Core.Bool.{Bool, true, false, not, ◌||◌}
use mathlib.Core.List.{List, append-nil}
use native.Mathlib.Omega.{arith}
use borrow.Author.Tests.{ne_eqb, lt-ltb, le-ltb, ltb-false, eqb-true, eqb-false}
use lib.Dec.{ltb, eqb}
use lib.ListN.{length}
use Rattle.instruction.specs.Bits.{pick}
use Rattle.instruction.specs.Form.{numbered}
use Rattle.instruction.specs.declared.Refusal.{Refusal}
use Rattle.buffer.specs.Put.{put}
use Rattle.buffer.proofs.Laws.{put_none}
use Rattle.dispatch.specs.Engines.{engine_count}
use Rattle.jumps.specs.State.{Fixed, Did, state_of, stop, stopped}
use Rattle.jumps.specs.Lent.{Done, Traced}
use Rattle.jumps.specs.declared.State.{State}
use Rattle.jumps.specs.declared.Stepped.{Stepped}
use Rattle.machine.specs.Step.{step_of}
use Rattle.rehearsal.specs.Run.{onto, run_of, input_refused}
use Rattle.rehearsal.proofs.Runs.{input_good}
use Rattle.left.specs.Left.{could_be_left}
use Rattle.left.proofs.Laws.{left_good}
use Rattle.sequence.proofs.Laws.{input_some}
use Rattle.paused.specs.declared.BadCall.{BadCall}
use Rattle.paused.specs.declared.BadCall.TheVariants.{Input, NoSuchState, LessThanLastTime}
use Rattle.paused.specs.Pause.{call_number, call_refused, done_by, went_by, refused_with, called, Called, steps_of, ends_of, CanGoOn}
use Rattle.paused.specs.declared.Paused.{Paused}
use Rattle.paused.specs.declared.Pace.{Pace}
use Rattle.paused.specs.declared.Pace.TheVariants.{Single, On}
use Rattle.paused.proofs.Ends.{step_fair}

-- ---- refusals, first to last

-- no number is 0, which refuses nothing
pub call_some : (bad : BadCall) → call_number bad ≡ 0 → ⊥
call_some (Input bad) e = input_some bad e
call_some NoSuchState e = omega (arith, e)
call_some LessThanLastTime e = omega (arith, e)

-- 1, 2, 3, 5
abbrev pub input_of : ℕ → Fixed → ℕ
input_of budget e = input_refused (length e.words) e.setting.wave.0 budget

module _ (budget : ℕ) (e : Fixed) (p : Paused) where
  pub call_input : (input_of budget e ≡ 0 → ⊥) → call_refused budget e p ≡ input_of budget e
  unfolding call_refused
  call_input h = rw (ne_eqb _ _ h)

  module _ (input : input_of budget e ≡ 0) where
    pub call_state : could_be_left e p.budget p.state ≡ false → call_refused budget e p ≡ 70
    unfolding call_refused
    call_state h = rw (input, h)

    module _ (left : could_be_left e p.budget p.state ≡ true) where
      pub call_last : call_refused budget e p ≡ pick (ltb e.setting.triggers p.triggers || ltb budget p.budget) 71 0
      unfolding call_refused
      call_last = rw (input, left)

      pub call_none : p.triggers ≤ e.setting.triggers → p.budget ≤ budget → call_refused budget e p ≡ 0
      call_none t b = call_last ∙ rw (le-ltb e.setting.triggers p.triggers t, le-ltb budget p.budget b)

  -- what a call that is not refused has shown
  pub record Taken : Type 0 where
    pub input : input_of budget e ≡ 0
    pub left : could_be_left e p.budget p.state ≡ true
    pub triggers : p.triggers ≤ e.setting.triggers
    pub last : p.budget ≤ budget

  pub call_taken : call_refused budget e p ≡ 0 → Taken
  unfolding call_refused
  call_taken z = by (eqb (input_of budget e) 0) refl (could_be_left e p.budget p.state) refl (ltb e.setting.triggers p.triggers) refl (ltb budget p.budget) refl z
    where
      by : (a : Bool) → eqb (input_of budget e) 0 ≡ a → (b : Bool) → could_be_left e p.budget p.state ≡ b
          → (c : Bool) → ltb e.setting.triggers p.triggers ≡ c → (d : Bool) → ltb budget p.budget ≡ d
          → ◌≡◌ {A = ℕ} (pick (not a) (input_of budget e) (pick (not b) 70 (pick (c || d) 71 0))) 0 → Taken
      by false h b k c l d m z = absurd (eqb-false (input_of budget e) 0 h z)
      by true h false k c l d m z = absurd (omega arith)
      by true h true k true l d m z = absurd (omega arith)
      by true h true k false l true m z = absurd (omega arith)
      by true h true k false l false m z = record {
        input = eqb-true (input_of budget e) 0 h;
        left = k;
        triggers = ltb-false e.setting.triggers p.triggers l;
        last = ltb-false budget p.budget m;
      }

  pub can_go_on : length p.state.waits ≡ engine_count → length p.state.totals ≡ engine_count → call_refused budget e p ≡ 0 → CanGoOn budget e p.state
  can_go_on w t z =
      let k = call_taken z in
      record { good = left_good e p.budget p.state w t k.left; limit = (input_good (length e.words) e.setting.wave.0 budget k.input).1 }

-- ---- what a call does

module _ (budget : ℕ) (e : Fixed) (s : State) where
  pub done_spent : (pace : Pace) → budget ≤ s.core.steps → done_by pace budget e s ≡ stop 40 s
  unfolding done_by run_of
  done_spent Single h = rw (le-ltb s.core.steps budget h)
  done_spent On h = let z : budget - s.core.steps ≡ 0 = omega arith in ap (λ (n : ℕ). run_of n e s) z

  pub done_single : s.core.steps < budget → done_by Single budget e s ≡ step_of e s
  unfolding done_by
  done_single h = rw (lt-ltb s.core.steps budget h)

  pub done_on : done_by On budget e s ≡ run_of (budget - s.core.steps) e s
  unfolding done_by
  done_on = refl

-- a loop of one step, whose end of a spent budget is 0, is the step
abbrev one_of : Did → Did
one_of d = record { end = pick (eqb d.end.number 40) (numbered 0) d.end; state = d.state; out = d.out }

one_step : (e : Fixed) (s : State) → one_of (run_of 1 e s) ≡ step_of e s
unfolding run_of
one_step e s = by (eqb (step_of e s).end.number 0) refl
  where
    q : Did
    q = step_of e s

    by : (b : Bool) → eqb (step_of e s).end.number 0 ≡ b → one_of (pick b (onto (step_of e s).out (stop 40 (step_of e s).state)) (step_of e s)) ≡ step_of e s
    by true h = let end = sym ((step_fair e s).moved (eqb-true q.end.number 0 h)) in let out = append-nil q.out in λ i. record { end = end i; state = q.state; out = out i }
    by false h = ap (λ (b : Bool). record { end = pick b (numbered 0) q.end; state = q.state; out = q.out }) (ne_eqb q.end.number 40 (step_fair e s).other)

module _ (budget : ℕ) (e : Fixed) (s : State) (k : ℕ) (before after : List ℕ) (r : Stepped) (rs cs ws ts : List ℕ) (more : s.core.steps < budget) where
  -- what the loop did, of either pace
  loop_did : (pace : Pace) → Traced (run_of (steps_of pace (budget - s.core.steps)) e s) k before after r rs cs ws ts → Traced (done_by pace budget e s) k before after (ends_of pace r) rs cs ws ts
  loop_did Single d =
      let one = one_step e s in
      rw (done_single budget e s more)
      (record {
        done = by (eqb r.end.number 40) refl one;
        trace = d.trace ∙ ap (λ (y : Did). put before k y.out) one;
      })
    where
      by : (b : Bool) → eqb r.end.number 40 ≡ b → one_of (run_of 1 e s) ≡ step_of e s → Done (step_of e s) (pick b (stopped 0 r.core) r) rs cs ws ts
      by true h one = record {
        end = sym (ap (λ (n : ℕ). pick (eqb n 40) (numbered 0) (run_of 1 e s).end) (sym (ap (λ (y : Refusal). y.number) d.done.end) ∙ eqb-true r.end.number 40 h)) ∙ ap (λ (y : Did). y.end) one;
        state = d.done.state ∙ ap (λ (y : Did). y.state) one;
      }
      by false h one = record {
        end = d.done.end ∙ sym (ap (λ (b : Bool). pick b (numbered 0) (run_of 1 e s).end) (ap (λ (y : Refusal). eqb y.number 40) (sym d.done.end) ∙ h)) ∙ ap (λ (y : Did). y.end) one;
        state = d.done.state ∙ ap (λ (y : Did). y.state) one;
      }
  loop_did On d = rw (done_on budget e s) d

  pub loop_left : (pace : Pace) (steps : ℕ) → steps ≡ steps_of pace (budget - s.core.steps) → (t : Stepped) → t ≡ ends_of pace r
      → Traced (run_of steps e s) k before after r rs cs ws ts → Traced (done_by pace budget e s) k before after t rs cs ws ts
  loop_left pace steps h t q d =
      subst (λ (y : Stepped). Traced (done_by pace budget e s) k before after y rs cs ws ts) (sym q)
      (loop_did pace (subst (λ (n : ℕ). Traced (run_of n e s) k before after r rs cs ws ts) h d))

-- so many steps still count
pub steps_fit : (pace : Pace) (done budget : ℕ) → done < budget → done + steps_of pace (budget - done) ≤ budget
steps_fit Single done budget h = omega arith
steps_fit On done budget h = omega arith

module _ (pace : Pace) (budget : ℕ) (e : Fixed) (p : Paused) where
  pub called_taken : call_refused budget e p ≡ 0 → called pace budget e p ≡ went_by budget e (done_by pace budget e p.state)
  unfolding called
  called_taken z = rw z

  pub called_refused_lem : (call_refused budget e p ≡ 0 → ⊥) → called pace budget e p ≡ refused_with (call_refused budget e p) p
  unfolding called
  called_refused_lem h = rw (ne_eqb _ _ h)

  -- the state and the trace as they were
  pub refused_so : (number : ℕ) → number ≡ call_refused budget e p → (number ≡ 0 → ⊥) → (t : List ℕ) → Called (called pace budget e p) p t (numbered number) p t
  refused_so number h z t =
      rw (called_refused_lem (λ k. z (h ∙ k)))
      (record { answer = ap numbered h; held = refl; trace = sym (put_none t p.state.core.sent) })

  -- what was done, put together anew
  pub went_so : call_refused budget e p ≡ 0 → (before after : List ℕ) (r : Stepped) (rs cs ws ts : List ℕ) (p' : Paused)
      → Traced (done_by pace budget e p.state) p.state.core.sent before after r rs cs ws ts
      → p' ≡ record { state = state_of r.core rs cs ws ts; budget = budget; triggers = e.setting.triggers }
      → Called (called pace budget e p) p before r.end p' after
  went_so z before after r rs cs ws ts p' d q =
      rw (called_taken z)
      (record {
        answer = d.done.end;
        held = q ∙ ap (λ (s : State). record { state = s; budget = budget; triggers = e.setting.triggers }) d.done.state;
        trace = d.trace;
      })
