-- A list of places that holds the start and all that its places lead to holds every place that is reached: a test that computes.
-- With it the worked sequences' flow is settled by computation. Assumes nothing.
use mathlib.Core.Path.{◌≡◌, refl, sym, subst}
use mathlib.Core.Bool.{Bool, true, false, not, ◌||◌, ◌&&◌}
use mathlib.Core.List.{List, [], ◌∷◌}
use Prim.Native.Nat.{ℕ, ◌+◌, ◌≤◌, ◌<◌}
use native.Mathlib.Omega.{arith}
use borrow.Author.Tests.{eqb-true, eq-eqb, leb-true, lt-ltb, le-ltb}
use lib.Dec.{eqb, ltb, leb}
use lib.ListN.{length}
use Rattle.flow.specs.Move.{move_at}
use Rattle.flow.specs.declared.Move.{Move}
use Rattle.flow.specs.declared.Move.TheVariants.{Other, Compare, Jump, Enter, Leave, Loop}
use Rattle.flow.specs.Walk.{Fault, past, full, empty}
use Rattle.flow.proofs.Rules.{Onward, plain_on, cmp_on, goto_on, call_on, return_on, repeat_on, Leaps, goto_to, call_to, repeat_to, Walked, begin, on, over, back, walked}
use Rattle.reader.proofs.Below.{both}

pub record Place : Type 0 where
  pub address : ℕ
  pub depth : ℕ
  pub held : Bool

abbrev pub at : ℕ → ℕ → Bool → Place
at a d c = record { address = a; depth = d; held = c }

-- ---- membership

abbrev same_bool : Bool → Bool → Bool
same_bool true c = c
same_bool false c = not c

abbrev same : Place → Place → Bool
same p q = eqb p.address q.address && eqb p.depth q.depth && same_bool p.held q.held

abbrev is_in : Place → List Place → Bool
is_in p [] = false
is_in p (q ∷ ps) = same p q || is_in p ps

abbrev all : (Place → Bool) → List Place → Bool
all test [] = true
all test (p ∷ ps) = test p && all test ps

same_bool_lem : (b c : Bool) → same_bool b c ≡ true → b ≡ c
same_bool_lem true c e = sym e
same_bool_lem false true e = e
same_bool_lem false false e = refl

same_place : (p q : Place) → same p q ≡ true → q ≡ p
same_place p q e =
    let x = both (eqb p.address q.address && eqb p.depth q.depth) (same_bool p.held q.held) e in
    let y = both (eqb p.address q.address) (eqb p.depth q.depth) x.0 in
    let a = sym (eqb-true p.address q.address y.0) in
    let d = sym (eqb-true p.depth q.depth y.1) in
    let c = sym (same_bool_lem p.held q.held x.1) in
    λ i. at (a i) (d i) (c i)

all_in : (test : Place → Bool) (ps : List Place) (p : Place) → all test ps ≡ true → is_in p ps ≡ true → test p ≡ true
all_in test [] p a e = let z : ◌≡◌ {A = ℕ} 0 1 = cc in absurd (omega arith)
all_in test (q ∷ ps) p a e = by (same p q) refl e (all_in test ps p (both (test q) (all test ps) a).1)
  where
    by : (b : Bool) → same p q ≡ b → (b || is_in p ps) ≡ true → (is_in p ps ≡ true → test p ≡ true) → test p ≡ true
    by true h _ ih = subst (λ (x : Place). test x ≡ true) (same_place p q h) (both (test q) (all test ps) a).0
    by false h k ih = ih k

-- ---- closed under the rules

module _ (limit : ℕ) (words : List ℕ) (ps : List Place) where
  -- "and if one was held also the next address, same depth, without it"
  abbrev passes : Place → Bool
  passes p = not p.held || is_in (at (p.address + 1) p.depth false) ps

  -- a RETURN at depth d > 0 comes back after q, where q is a CALL at depth d - 1
  abbrev back_to : ℕ → Place → Move → Bool
  back_to d q (Enter t) = not (eqb (q.depth + 1) d) || is_in (at (q.address + 1) q.depth false) ps
  back_to d q Other = true
  back_to d q Compare = true
  back_to d q (Jump t) = true
  back_to d q Leave = true
  back_to d q (Loop t) = true

  abbrev follows : Place → Move → Bool
  follows p Other = is_in (at (p.address + 1) p.depth p.held) ps
  follows p Compare = is_in (at (p.address + 1) p.depth true) ps
  follows p (Jump t) = is_in (at t.0 p.depth false) ps && passes p
  follows p (Enter t) = (not (ltb p.depth limit) || is_in (at t.0 (p.depth + 1) false) ps) && passes p
  follows p Leave = all (λ q. back_to p.depth q (move_at words q.address)) ps && passes p
  follows p (Loop t) = is_in (at t.0 p.depth p.held) ps && is_in (at (p.address + 1) p.depth p.held) ps

  abbrev closed : Bool
  closed = is_in (at 0 0 false) ps && all (λ p. not (ltb p.address (length words)) || follows p (move_at words p.address)) ps

  -- ---- closed, so nothing is missing

  under : {b : Bool} {test : Bool} → b ≡ true → (not b || test) ≡ true → test ≡ true
  under {b = true} e h = h
  under {b = false} e h = let z : ◌≡◌ {A = ℕ} 0 1 = cc in absurd (omega arith)

  goes_on_lem : (a : ℕ) {o : Move} {d e : ℕ} {c h : Bool} → Onward o d c e h → follows (at a d c) o ≡ true → is_in (at (a + 1) e h) ps ≡ true
  goes_on_lem a plain_on f = f
  goes_on_lem a cmp_on f = f
  goes_on_lem a (goto_on {t = t} {d = d}) f = (both (is_in (at t.0 d false) ps) _ f).1
  goes_on_lem a (call_on {t = t} {d = d}) f = (both (not (ltb d limit) || is_in (at t.0 (d + 1) false) ps) _ f).1
  goes_on_lem a (return_on {d = d}) f = (both (all (λ q. back_to d q (move_at words q.address)) ps) _ f).1
  goes_on_lem a (repeat_on {t = t} {d = d} {c = c}) f = (both (is_in (at t.0 d c) ps) _ f).1

  goes_over : (a : ℕ) {o : Move} {d t e : ℕ} {c h : Bool} → Leaps limit o d c t e h → follows (at a d c) o ≡ true → is_in (at t e h) ps ≡ true
  goes_over a goto_to f = (both _ _ f).0
  goes_over a {d = d} (call_to k) f = under (lt-ltb d limit k) (both _ _ f).0
  goes_over a repeat_to f = (both _ _ f).0

  module _ (c : closed ≡ true) where
    inner : (a d : ℕ) (h : Bool) → a < length words → is_in (at a d h) ps ≡ true → follows (at a d h) (move_at words a) ≡ true
    inner a d h l e =
        under (lt-ltb a (length words) l)
        (all_in (λ p. not (ltb p.address (length words)) || follows p (move_at words p.address)) ps (at a d h) (both (is_in (at 0 0 false) ps) _ c).1 e)

    complete : {a d : ℕ} {h : Bool} → Walked limit words a d h → is_in (at a d h) ps ≡ true
    complete begin = (both (is_in (at 0 0 false) ps) _ c).0
    complete (on {a = a} {d = d} {c = h} q l n) = goes_on_lem a n (inner a d h l (complete q))
    complete (over {a = a} {d = d} {c = h} q l j) = goes_over a j (inner a d h l (complete q))
    complete (back {a = a} {d = d} {c = h} {b = b} {h = g} {t = t} p k o q l u) =
        let f = subst (λ (m : Move). follows (at a (d + 1) h) m ≡ true) o (inner a (d + 1) h k (complete p)) in
        let r = all_in (λ x. back_to (d + 1) x (move_at words x.address)) ps (at b d g) (both _ _ f).0 (complete q) in
        under (eq-eqb (d + 1) (d + 1) refl) (subst (λ (m : Move). back_to (d + 1) (at b d g) m ≡ true) u r)

  -- ---- its faults

  abbrev faults_by : Place → Move → Bool
  faults_by p Other = false
  faults_by p Compare = false
  faults_by p (Jump t) = false
  faults_by p (Enter t) = eqb p.depth limit
  faults_by p Leave = eqb p.depth 0
  faults_by p (Loop t) = false

  abbrev faults : Place → Bool
  faults p = not (ltb p.address (length words)) || faults_by p (move_at words p.address)

  -- every fault is at an address of k or more
  abbrev faults_from : ℕ → Bool
  faults_from k = all (λ p. not (faults p) || leb k p.address) ps

  abbrev faultless : Bool
  faultless = all (λ p. not (faults p)) ps

  found : {k a : ℕ} → closed ≡ true → Fault limit words k a → (p : Place) × (is_in p ps ≡ true) × (faults p ≡ true) × (p.address ≡ a)
  found c (past {d = d} {c = h} q) = (at (length words) d h, complete c (walked q), rw (le-ltb (length words) (length words) (omega arith)) refl, refl)
  found {a = a} c (full {c = h} q l o) = (at a limit h, complete c (walked q), rw (lt-ltb a (length words) l, o, eq-eqb limit limit refl) refl, refl)
  found {a = a} c (empty {c = h} q l o) = (at a 0 h, complete c (walked q), rw (lt-ltb a (length words) l, o) refl, refl)

  pub no_fault : closed ≡ true → faultless ≡ true → (k a : ℕ) → Fault limit words k a → ⊥
  no_fault c none k a f =
      let w = found c f in
      let n = all_in (λ p. not (faults p)) ps w.0 none w.1 in
      let z : ◌≡◌ {A = ℕ} 0 1 = clash (faults w.0) w.2 n in
      omega arith
    where
      clash : (b : Bool) → b ≡ true → not b ≡ true → ◌≡◌ {A = ℕ} 0 1
      clash true e n = cc
      clash false e n = cc

  pub no_lower : (from : ℕ) → closed ≡ true → faults_from from ≡ true → (k a : ℕ) → Fault limit words k a → from ≤ a
  no_lower from c low k a f =
      let w = found c f in
      subst (λ (x : ℕ). from ≤ x) w.3 (leb-true from w.0.address (under w.2 (all_in (λ p. not (faults p) || leb from p.address) ps w.0 low w.1)))
