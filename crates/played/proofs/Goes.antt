-- From one state of a run to another in so many steps, whatever the budget behind them, and what holds of each state on the way.
-- Assumes nothing.
use Prim.Native.Nat.{ℕ, zero, suc, ◌+◌, ◌-◌, ◌<◌}
use mathlib.Core.Path.{◌≡◌, refl, sym, ap, subst, ◌∙◌}
use mathlib.Core.Bool.{Bool, true, false}
use mathlib.Core.List.{List, [], ◌++◌}
use native.Mathlib.Nat.{add-zero}
use native.Mathlib.Decide.{dec_lt}
use native.Mathlib.Omega.{arith}
use borrow.Author.Tests.{eq-eqb, eqb-true, eqb-false}
use lib.Dec.{eqb}
use Rattle.instruction.specs.Bits.{pick}
use Rattle.jumps.specs.State.{Fixed, Did, stop}
use Rattle.jumps.specs.declared.State.{State}
use Rattle.machine.specs.Step.{step_of}
use Rattle.rehearsal.specs.Run.{onto, then_did, run_of}
use Rattle.rehearsal.proofs.Runs.{onto_onto}
use Rattle.demands.specs.Run.{Extends}
use Rattle.demands.proofs.Steps.{stops_still}
use Rattle.demands.proofs.Prefix.{step_same}

pub record Goes (e : Fixed) (Q : State → Type 0) (k : ℕ) (out : List ℕ) (s t : State) : Type 0 where
  pub goes : (m n : ℕ) → n ≡ k + m → run_of n e s ≡ onto out (run_of m e t)
  pub way : (j : ℕ) → j < k → Q (run_of j e s).state

pub goes_none : {e : Fixed} {Q : State → Type 0} (s : State) → Goes e Q 0 [] s s
goes_none {e} s = record { goes = λ m n h. ap (λ (k : ℕ). run_of k e s) (by m n h); way = λ j h. absurd (omega arith) }
  where
    by : (m n : ℕ) → n ≡ 0 + m → n ≡ m
    by m n h = omega arith

run_moved : (e : Fixed) (s : State) (d : Did) → step_of e s ≡ d → d.end.number ≡ 0 → (m n : ℕ) → n ≡ 1 + m → run_of n e s ≡ onto d.out (run_of m e d.state)
unfolding run_of
run_moved e s d h z m n p =
    ap (λ (k : ℕ). run_of k e s) (by m n p)
    ∙ ap (λ (x : Did). then_did x (run_of m e x.state)) h
    ∙ ap (λ (b : Bool). pick b (onto d.out (run_of m e d.state)) d) (eq-eqb d.end.number 0 z)
  where
    by : (m n : ℕ) → n ≡ 1 + m → n ≡ suc m
    by m n p = omega arith

run_none : (e : Fixed) (s : State) → (run_of 0 e s).state ≡ s
unfolding run_of
run_none e s = refl

pub goes_one : {e : Fixed} {Q : State → Type 0} {s : State} {d : Did} → Q s → step_of e s ≡ d → d.end.number ≡ 0 → Goes e Q 1 d.out s d.state
goes_one {e} {Q} {s} {d} q h z = record { goes = run_moved e s d h z; way = by }
  where
    by : (j : ℕ) → j < 1 → Q (run_of j e s).state
    by zero l = subst Q (sym (run_none e s)) q
    by (suc j) l = absurd (omega arith)

pub goes_then : {e : Fixed} {Q : State → Type 0} {k l : ℕ} {xs ys : List ℕ} {s t u : State} → Goes e Q k xs s t → Goes e Q l ys t u → Goes e Q (k + l) (xs ++ ys) s u
goes_then {e} {Q} {k} {l} {xs} {ys} {s} {t} {u} g h =
    record {
      goes = λ m n p. g.goes (l + m) n (omega arith) ∙ ap (onto xs) (h.goes m (l + m) refl) ∙ onto_onto xs ys (run_of m e u);
      way = λ j p. by j p (dec_lt j k);
    }
  where
    by : (j : ℕ) → j < k + l → Dec (j < k) → Q (run_of j e s).state
    by j p (yes c) = g.way j c
    by j p (no c) = subst Q (ap (λ (d : Did). d.state) (sym (g.goes (j - k) j (omega arith)))) (h.way (j - k) (omega arith))

pub goes_as : {e : Fixed} {Q : State → Type 0} {k l : ℕ} {xs ys : List ℕ} {s t u : State} → Goes e Q k xs s t → k ≡ l → xs ≡ ys → t ≡ u → Goes e Q l ys s u
goes_as {e} {Q} {k} {l} {xs} {ys} {s} {t} {u} g p q r =
    subst (λ (x : ℕ). Goes e Q x ys s u) p (subst (λ (x : List ℕ). Goes e Q k x s u) q (subst (λ (x : State). Goes e Q k xs s x) r g))

-- with no budget behind them
pub goes_end : {e : Fixed} {Q : State → Type 0} {k : ℕ} {out : List ℕ} {s t : State} → Goes e Q k out s t → run_of k e s ≡ onto out (stop 40 t)
unfolding run_of
goes_end {k = k} g = g.goes 0 k (sym (add-zero k))

-- ---- more room

-- a run is the first steps of one with more messages, triggers or room
pub along : (e e' : Fixed) → Extends e e' → (n : ℕ) (s : State) → (j : ℕ) × Goes e' (λ _. Unit {0}) j (run_of n e s).out s (run_of n e s).state
unfolding run_of
along e e' x zero s = (0, goes_none s)
along e e' x (suc n) s = by (eqb (step_of e s).end.number 0) refl (along e e' x n (step_of e s).state)
  where
    rest : Did
    rest = run_of n e (step_of e s).state

    by : (b : Bool) → eqb (step_of e s).end.number 0 ≡ b → (j : ℕ) × Goes e' (λ _. Unit {0}) j rest.out (step_of e s).state rest.state
        → (j : ℕ) × Goes e' (λ _. Unit {0}) j (pick b (onto (step_of e s).out rest) (step_of e s)).out s (pick b (onto (step_of e s).out rest) (step_of e s)).state
    by true t h = (1 + h.0, goes_then (goes_one tt (step_same e e' x s (eqb-true _ _ t)) (eqb-true _ _ t)) h.1)
    by false t h =
        let still = stops_still e s (eqb-false _ _ t) in
        (0, goes_as (goes_none s) refl (sym still.1) (sym still.0))
