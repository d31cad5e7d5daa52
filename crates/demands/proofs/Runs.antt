-- Runs: the steps counted, the totals and waits over the trace, and `prefix`, by one law of one step and one of iteration.
-- Assumes nothing.
use mathlib.Core.Path.{◌≡◌, refl, sym, ap, ◌∙◌, subst}
use mathlib.Core.Bool.{Bool, true, false}
use mathlib.Core.List.{List, [], ◌∷◌, ◌++◌}
use Prim.Native.Nat.{ℕ, zero, suc, ◌+◌, ◌<◌}
use native.Mathlib.Nat.{add-zero, zero-add, add_assoc}
use native.Mathlib.Decide.{ℕ_discrete}
use native.Mathlib.Omega.{arith}
use borrow.Author.Tests.{eqb-true, eqb-false, eq-eqb, ne_eqb}
use lib.Dec.{eqb}
use lib.ListN.{length, get_or, length-set, length-map}
use lib.Seq.{get_or-set_same, get_or-set_other}
use Rattle.instruction.specs.Bits.{pick}
use Rattle.instruction.specs.Table.{code_of}
use Rattle.instruction.specs.Word.{spelled_by}
use Rattle.instruction.specs.declared.Instruction.{Instruction}
use Rattle.instruction.specs.declared.Body.TheVariants.{Wait}
use Rattle.dispatch.specs.Engines.{engine_count, engine_of, waits_for, plays_for, add_to, plus_one, waits_after, totals_after, waits_over, totals_over}
use Rattle.dispatch.proofs.Counts.{picks}
use Rattle.jumps.specs.State.{Fixed, Did, fresh, stop}
use Rattle.jumps.specs.declared.State.{State}
use Rattle.machine.specs.Step.{step_of}
use Rattle.rehearsal.proofs.Runs.{onto_onto}
use Rattle.rehearsal.specs.Run.{onto, then_did, run_of, input_refused, rehearse}
use Rattle.fields.proofs.Gathered.{zero_at}
use Rattle.demands.specs.Run.{played_on, awaited_on, sum_over, TotalsAreSums, WaitsAreCounts, taken, StepsAreTaken, StepByStep}
use Rattle.demands.proofs.Steps.{Outcome, stops, flows, holds, sends, outcome, stops_still}

-- ---- the steps counted are the steps taken

pub moved_steps : (e : Fixed) (s : State) (d : Did) → Outcome e s d → d.end.number ≡ 0 → d.state.core.steps ≡ s.core.steps + 1
moved_steps e s d (stops r h _) z = absurd (h z)
moved_steps e s d (flows c rs cs f) z = f.steps
moved_steps e s d (holds g _) z = refl
moved_steps e s d (sends g) z = refl

pub steps_are_taken : StepsAreTaken
unfolding run_of taken
steps_are_taken e s zero = sym (add-zero s.core.steps)
steps_are_taken e s (suc n) = by (eqb (step_of e s).end.number 0) refl (steps_are_taken e (step_of e s).state n)
  where
    d : Did
    d = step_of e s

    by : (b : Bool) → eqb (step_of e s).end.number 0 ≡ b
        → (run_of n e (step_of e s).state).state.core.steps ≡ (step_of e s).state.core.steps + taken n e (step_of e s).state
        → (pick b (onto (step_of e s).out (run_of n e (step_of e s).state)) (step_of e s)).state.core.steps ≡ s.core.steps + pick b (1 + taken n e (step_of e s).state) 0
    by true p ih =
        ih ∙ ap (λ (k : ℕ). k + taken n e (step_of e s).state) (moved_steps e s (step_of e s) (outcome e s) (eqb-true _ _ p))
        ∙ add_assoc s.core.steps 1 (taken n e (step_of e s).state)
    by false p ih = ap (λ (t : State). t.core.steps) (stops_still e s (eqb-false _ _ p)).0 ∙ sym (add-zero s.core.steps)

-- ---- the counts are those over the trace

waits_append : (l xs ys : List ℕ) → waits_over l (xs ++ ys) ≡ waits_over (waits_over l xs) ys
waits_append l [] ys = refl
waits_append l (x ∷ xs) ys = waits_append (waits_after l (spelled_by x)) xs ys

totals_append : (l xs ys : List ℕ) → totals_over l (xs ++ ys) ≡ totals_over (totals_over l xs) ys
totals_append l [] ys = refl
totals_append l (x ∷ xs) ys = totals_append (totals_after l (spelled_by x)) xs ys

-- what a step and a run leave in the counts is what their dispatched words add
pub record Over (s : State) (d : Did) : Type 0 where
  pub waits : d.state.waits ≡ waits_over s.waits d.out
  pub totals : d.state.totals ≡ totals_over s.totals d.out

over_step : (e : Fixed) (s : State) (d : Did) → Outcome e s d → Over s d
over_step e s d (stops r h _) = record { waits = refl; totals = refl }
over_step e s d (flows c rs cs f) = record { waits = refl; totals = refl }
over_step e s d (holds g _) = record { waits = refl; totals = refl }
over_step e s d (sends g) = record { waits = refl; totals = refl }

over_then : (s : State) (d r : Did) (b : Bool) → Over s d → Over d.state r → Over s (pick b (onto d.out r) d)
over_then s d r true p q = record {
  waits = q.waits ∙ ap (λ (l : List ℕ). waits_over l r.out) p.waits ∙ sym (waits_append s.waits d.out r.out);
  totals = q.totals ∙ ap (λ (l : List ℕ). totals_over l r.out) p.totals ∙ sym (totals_append s.totals d.out r.out);
}
over_then s d r false p q = p

pub over_run : (n : ℕ) (e : Fixed) (s : State) → Over s (run_of n e s)
unfolding run_of
over_run zero e s = record { waits = refl; totals = refl }
over_run (suc n) e s =
    over_then s (step_of e s) (run_of n e (step_of e s).state) (eqb (step_of e s).end.number 0) (over_step e s (step_of e s) (outcome e s)) (over_run n e (step_of e s).state)

over_all : (b : ℕ) (e : Fixed) → Over fresh (rehearse b e)
unfolding rehearse
over_all b e =
    let n : ℕ = input_refused (length e.words) e.setting.wave.0 b in
    picks (Over fresh) (eqb n 0) {a = run_of b e fresh} {b = stop n fresh} (λ _. over_run b e fresh) (λ _. record { waits = refl; totals = refl })

-- place by place
added_at : (l : List ℕ) (g k v : ℕ) → k < length l → get_or (add_to l g v) k 0 ≡ get_or l k 0 + pick (eqb g k) v 0
added_at l g k v h = by (ℕ_discrete g k)
  where
    by : Dec (g ≡ k) → get_or (add_to l g v) k 0 ≡ get_or l k 0 + pick (eqb g k) v 0
    by (yes e) =
        ap (λ (j : ℕ). get_or (add_to l j v) k 0) e ∙ get_or-set_same l k (get_or l k 0 + v) 0 h
        ∙ ap (λ (b : Bool). get_or l k 0 + pick b v 0) (sym (eq-eqb g k e))
    by (no e) =
        get_or-set_other l g k (get_or l g 0 + v) 0 (λ q. e (sym q)) ∙ sym (add-zero (get_or l k 0))
        ∙ ap (λ (b : Bool). get_or l k 0 + pick b v 0) (sym (ne_eqb g k e))

plus_at : (l : List ℕ) (k : ℕ) → k < length l → get_or (plus_one l) k 0 ≡ get_or l k 0 + 1
plus_at [] k h = absurd (omega arith)
plus_at (x ∷ l) zero h = refl
plus_at (x ∷ l) (suc k) h = plus_at l k (omega arith)

-- one word, and then a trace of them
waits_one : (l : List ℕ) (k : ℕ) (i : Instruction) → k < length l → get_or (waits_after l i) k 0 ≡ get_or l k 0 + awaited_on k i
waits_one l k i h = by (eqb (code_of i.body) (code_of Wait))
  where
    by : (b : Bool) → get_or (pick b (plus_one l) (add_to l (engine_of i) (waits_for i.body))) k 0 ≡ get_or l k 0 + pick b 1 (pick (eqb (engine_of i) k) (waits_for i.body) 0)
    by true = plus_at l k h
    by false = added_at l (engine_of i) k (waits_for i.body) h

waits_length : (l : List ℕ) (i : Instruction) → length (waits_after l i) ≡ length l
waits_length l i =
    picks (λ (m : List ℕ). length m ≡ length l) (eqb (code_of i.body) (code_of Wait))
    (λ _. length-map l (λ (x : ℕ). x + 1)) (λ _. length-set l (engine_of i) (get_or l (engine_of i) 0 + waits_for i.body))

waits_sum : (trace l : List ℕ) (k : ℕ) → k < length l → get_or (waits_over l trace) k 0 ≡ get_or l k 0 + sum_over (awaited_on k) trace
waits_sum [] l k h = sym (add-zero (get_or l k 0))
waits_sum (w ∷ trace) l k h =
    let i : Instruction = spelled_by w in
    waits_sum trace (waits_after l i) k (subst (λ (n : ℕ). k < n) (sym (waits_length l i)) h)
    ∙ ap (λ (n : ℕ). n + sum_over (awaited_on k) trace) (waits_one l k i h)
    ∙ add_assoc (get_or l k 0) (awaited_on k i) (sum_over (awaited_on k) trace)

totals_sum : (trace l : List ℕ) (k : ℕ) → k < length l → get_or (totals_over l trace) k 0 ≡ get_or l k 0 + sum_over (played_on k) trace
totals_sum [] l k h = sym (add-zero (get_or l k 0))
totals_sum (w ∷ trace) l k h =
    let i : Instruction = spelled_by w in
    totals_sum trace (totals_after l i) k (subst (λ (n : ℕ). k < n) (sym (length-set l (engine_of i) (get_or l (engine_of i) 0 + plays_for i.body))) h)
    ∙ ap (λ (n : ℕ). n + sum_over (played_on k) trace) (added_at l (engine_of i) k (plays_for i.body) h)
    ∙ add_assoc (get_or l k 0) (played_on k i) (sum_over (played_on k) trace)

-- from the fresh state, where all are 0
pub fresh_totals : (d : Did) → Over fresh d → (k : ℕ) → k < engine_count → get_or d.state.totals k 0 ≡ sum_over (played_on k) d.out
fresh_totals d o k h =
    ap (λ (l : List ℕ). get_or l k 0) o.totals
    ∙ totals_sum d.out fresh.totals k h
    ∙ ap (λ (n : ℕ). n + sum_over (played_on k) d.out) (zero_at 6 k)
    ∙ zero-add (sum_over (played_on k) d.out)

pub fresh_waits : (d : Did) → Over fresh d → (k : ℕ) → k < engine_count → get_or d.state.waits k 0 ≡ sum_over (awaited_on k) d.out
fresh_waits d o k h =
    ap (λ (l : List ℕ). get_or l k 0) o.waits
    ∙ waits_sum d.out fresh.waits k h
    ∙ ap (λ (n : ℕ). n + sum_over (awaited_on k) d.out) (zero_at 6 k)
    ∙ zero-add (sum_over (awaited_on k) d.out)

pub totals_are_sums : TotalsAreSums
totals_are_sums e b = fresh_totals (rehearse b e) (over_all b e)

pub waits_are_counts : WaitsAreCounts
waits_are_counts e b = fresh_waits (rehearse b e) (over_all b e)

-- ---- step by step

-- one step more of what d did
abbrev further : Fixed → Did → Did
further e d = pick (eqb d.end.number 40) (onto d.out (run_of 1 e d.state)) d

further_onto : (e : Fixed) (out : List ℕ) (d : Did) → onto out (further e d) ≡ further e (onto out d)
further_onto e out d = by (eqb d.end.number 40)
  where
    by : (b : Bool) → onto out (pick b (onto d.out (run_of 1 e d.state)) d) ≡ pick b (onto (out ++ d.out) (run_of 1 e d.state)) (onto out d)
    by true = onto_onto out d.out (run_of 1 e d.state)
    by false = refl

-- what stopped stops again
again : (e : Fixed) (s : State) → eqb (step_of e s).end.number 0 ≡ false → step_of e s ≡ further e (step_of e s)
unfolding run_of
again e s f = by (eqb (step_of e s).end.number 40)
  where
    h : ((step_of e s).state ≡ s) × ((step_of e s).out ≡ [])
    h = stops_still e s (eqb-false _ _ f)

    once : onto (step_of e s).out (then_did (step_of e s) (stop 40 (step_of e s).state)) ≡ step_of e s
    once = ap (λ (l : List ℕ). onto l (then_did (step_of e s) (stop 40 (step_of e s).state))) h.1 ∙ rw f refl

    by : (b : Bool) → step_of e s ≡ pick b (onto (step_of e s).out (run_of 1 e (step_of e s).state)) (step_of e s)
    by true = sym (ap (λ (t : State). onto (step_of e s).out (then_did (step_of e t) (stop 40 (step_of e t).state))) h.0 ∙ once)
    by false = refl

pub step_by_step : StepByStep
unfolding run_of
step_by_step e s zero = refl
step_by_step e s (suc n) = by (eqb (step_of e s).end.number 0) refl (step_by_step e (step_of e s).state n)
  where
    t : State
    t = (step_of e s).state

    by : (b : Bool) → eqb (step_of e s).end.number 0 ≡ b → run_of (suc n) e t ≡ further e (run_of n e t)
        → pick b (onto (step_of e s).out (run_of (suc n) e t)) (step_of e s) ≡ further e (pick b (onto (step_of e s).out (run_of n e t)) (step_of e s))
    by true p ih = ap (onto (step_of e s).out) ih ∙ further_onto e (step_of e s).out (run_of n e t)
    by false p ih = again e s p
