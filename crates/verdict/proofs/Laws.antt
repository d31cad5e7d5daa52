-- From exact marks to the verdict: a fault is a bit of a mark, or of what the last word leads to.
-- Assumes nothing.
use Prim.Native.Nat.{ℕ, ◌+◌, ◌*◌, ◌/◌, ◌%◌, ◌^◌, ◌≤◌, ◌<◌}
use mathlib.Core.Path.{◌≡◌, refl, sym, ap, subst, ◌∙◌}
use mathlib.Core.Logic.{◌⊎◌, inl, inr, ⊎_elim}
use mathlib.Core.Bool.{Bool, true, false, not}
use mathlib.Core.List.{List}
use native.Mathlib.Decide.{dec_lt}
use native.Mathlib.Omega.{arith}
use lib.Arith.{bin_ind}
use lib.Pow.{shr-shr}
use lib.Dec.{eqb}
use lib.ListN.{length, get_or}
use borrow.Author.Tests.{ne_eqb, eqb-false}
use Rattle.instruction.specs.declared.WordAddress.{WordAddress}
use Rattle.flow.specs.declared.Move.{Move}
use Rattle.flow.specs.declared.Move.TheVariants.{Other, Compare, Jump, Enter, Leave, Loop}
use Rattle.flow.specs.Masks.{next_of, to_of}
use Rattle.flow.specs.Move.{move_at}
use Rattle.flow.specs.Walk.{deepest, On, place, Reached, Fault, past, full, empty}
use Rattle.flow.proofs.Rules.{Leaps, goto_to, call_to, repeat_to, Walked, begin, on, over, back, walked, reached}
use Rattle.flow.proofs.Bits.{two, zero_off, next_on, back_on, on_next_lem}
use Rattle.look.specs.Closed.{fault_in}
use Rattle.walk.specs.Marks.{Exact}
use Rattle.walk.specs.Loops.{FirstFault, ReturnsIn}
use Rattle.walk.proofs.Laws.{depth, backs_of, came_reached}
use Rattle.instruction.specs.Bits.{◌gives◌else◌}
use Rattle.verdict.specs.Flow.{Targets}

-- ---- a number that is not 0 has a bit

pub some_on : (x : ℕ) → (x ≡ 0 → ⊥) → (k : ℕ) × On k x
some_on = bin_ind (λ (x : ℕ). (x ≡ 0 → ⊥) → (k : ℕ) × On k x) (λ h. absurd (h refl)) step
  where
    step : (n : ℕ) → ((n / 2 ≡ 0 → ⊥) → (k : ℕ) × On k (n / 2)) → (n ≡ 0 → ⊥) → (k : ℕ) × On k n
    step n ih h =
        ⊎_elim
        (λ e. let w = ih (λ z. h (omega arith)) in (1 + w.0, sym (half w.0 n) ∙ w.1))
        (λ e. (0, low n e))
        (two n)
      where
        half : (k m : ℕ) → m / 2 / 2 ^ k % 2 ≡ m / 2 ^ (1 + k) % 2
        half k m = ap (λ (y : ℕ). y % 2) (shr-shr m 1 k)

        low : (m : ℕ) → m % 2 ≡ 1 → m / 1 % 2 ≡ 1
        low m e = omega arith

-- a bit's index is that of a place
pub place_of : (k : ℕ) → (d : ℕ) × (c : Bool) × (k ≡ place d c)
place_of k = ⊎_elim (λ e. (k / 2, false, even k e)) (λ e. (k / 2, true, odd k e)) (two k)
  where
    even : (k : ℕ) → k % 2 ≡ 0 → k ≡ 2 * (k / 2)
    even k e = omega arith

    odd : (k : ℕ) → k % 2 ≡ 1 → k ≡ 2 * (k / 2) + 1
    odd k e = omega arith

-- ---- the two lowest bits, and those of depth 16

low_on : (c : Bool) (m : ℕ) → On (place 0 c) m → m % 4 ≡ 0 → ⊥
low_on false m p e = let q : m / 1 % 2 ≡ 1 = p in omega arith
low_on true m p e = let q : m / 2 % 2 ≡ 1 = p in omega arith

on_low : (m : ℕ) → (m % 4 ≡ 0 → ⊥) → (c : Bool) × On (place 0 c) m
on_low m h = go (two m) (two (m / 2))
  where
    go : (m % 2 ≡ 0) ⊎ (m % 2 ≡ 1) → (m / 2 % 2 ≡ 0) ⊎ (m / 2 % 2 ≡ 1) → (c : Bool) × On (place 0 c) m
    go (inr e) f = (false, low m e)
      where
        low : (m : ℕ) → m % 2 ≡ 1 → m / 1 % 2 ≡ 1
        low m e = omega arith
    go (inl e) (inr f) = (true, f)
    go (inl e) (inl f) = absurd (h (omega arith))

high_bit : (j m : ℕ) → m / 2 ^ j / 2 % 2 ≡ m / 2 ^ (j + 1) % 2
high_bit j m = ap (λ (y : ℕ). y % 2) (shr-shr m j 1)

top_on : (lim : ℕ) (c : Bool) (m : ℕ) → On (place lim c) m → m / 2 ^ (2 * lim) % 4 ≡ 0 → ⊥
top_on lim false m p e = omega arith
top_on lim true m p e = let q : m / 2 ^ (2 * lim) / 2 % 2 ≡ 1 = high_bit (2 * lim) m ∙ p in omega arith

on_top : (lim m : ℕ) → (m / 2 ^ (2 * lim) % 4 ≡ 0 → ⊥) → (c : Bool) × On (place lim c) m
on_top lim m h = go (two (m / 2 ^ (2 * lim))) (two (m / 2 ^ (2 * lim) / 2))
  where
    q : ℕ
    q = m / 2 ^ (2 * lim)

    go : (q % 2 ≡ 0) ⊎ (q % 2 ≡ 1) → (q / 2 % 2 ≡ 0) ⊎ (q / 2 % 2 ≡ 1) → (c : Bool) × On (place lim c) m
    go (inr e) f = (false, e)
    go (inl e) (inr f) = (true, sym (high_bit (2 * lim) m) ∙ f)
    go (inl e) (inl f) = absurd (h (omega arith))

-- ---- one address

module _ (lim : ℕ) (ws ms : List ℕ) (ex : Exact lim ws ms) where
  pub no_fault : (j a : ℕ) → Fault lim ws j a → a < length ws → fault_in lim (move_at ws a) (get_or ms a 0) ≡ 0 → ⊥
  no_fault j a (past q) l e = omega arith
  no_fault j a (full {c = c} {t = t} q k o) l e =
      let m = get_or ms a 0 in
      let z : (not (eqb (m / 2 ^ (2 * lim) % 4) 0) gives 31 else 0) ≡ 0 = subst (λ (p : Move). fault_in lim p m ≡ 0) o e in
      let f : eqb (m / 2 ^ (2 * lim) % 4) 0 ≡ false = ne_eqb (m / 2 ^ (2 * lim) % 4) 0 (top_on lim c m (ex.whole a lim c k q)) in
      let y : ◌≡◌ {A = ℕ} 31 0 = subst (λ (b : Bool). (not b gives 31 else 0) ≡ 0) f z in
      omega arith
  no_fault j a (empty {c = c} q k o) l e =
      let m = get_or ms a 0 in
      let z : (not (eqb (m % 4) 0) gives 32 else 0) ≡ 0 = subst (λ (p : Move). fault_in lim p m ≡ 0) o e in
      let f : eqb (m % 4) 0 ≡ false = ne_eqb (m % 4) 0 (low_on c m (ex.whole a 0 c k q)) in
      let y : ◌≡◌ {A = ℕ} 32 0 = subst (λ (b : Bool). (not b gives 32 else 0) ≡ 0) f z in
      omega arith

  pub is_fault : (a : ℕ) → a < length ws → (fault_in lim (move_at ws a) (get_or ms a 0) ≡ 0 → ⊥) → Fault lim ws (fault_in lim (move_at ws a) (get_or ms a 0)) a
  is_fault a l = go (move_at ws a) refl
    where
      m : ℕ
      m = get_or ms a 0

      call : (t : WordAddress) → move_at ws a ≡ Enter t → (b : Bool) → eqb (m / 2 ^ (2 * lim) % 4) 0 ≡ b → ((not b gives 31 else 0) ≡ 0 → ⊥) → Fault lim ws (not b gives 31 else 0) a
      call t o true e h = absurd (h refl)
      call t o false e h = let w = on_top lim m (eqb-false (m / 2 ^ (2 * lim) % 4) 0 e) in full {c = w.0} (ex.sound a lim w.0 l w.1) l o

      ret : move_at ws a ≡ Leave → (b : Bool) → eqb (m % 4) 0 ≡ b → ((not b gives 32 else 0) ≡ 0 → ⊥) → Fault lim ws (not b gives 32 else 0) a
      ret o true e h = absurd (h refl)
      ret o false e h = let w = on_low m (eqb-false (m % 4) 0 e) in empty {c = w.0} (ex.sound a 0 w.0 l w.1) l o

      go : (o : Move) → move_at ws a ≡ o → (fault_in lim o m ≡ 0 → ⊥) → Fault lim ws (fault_in lim o m) a
      go Other e h = absurd (h refl)
      go Compare e h = absurd (h refl)
      go (Jump t) e h = absurd (h refl)
      go (Enter t) e h = call t e (eqb (m / 2 ^ (2 * lim) % 4) 0) refl h
      go Leave e h = ret e (eqb (m % 4) 0) refl h
      go (Loop t) e h = absurd (h refl)

pub before_first : (lim : ℕ) (ws ms : List ℕ) {f : ℕ} → Exact lim ws ms → FirstFault lim ws ms (length ws) f → (j b : ℕ) → b < length ws → b < f → Fault lim ws j b → ⊥
before_first lim ws ms ex g j b l h x = no_fault lim ws ms ex j b x l (g.none b l h)

-- ---- past the end

pub jump_to : {lim : ℕ} {o : Move} {d : ℕ} {c : Bool} {t e : ℕ} {h : Bool} → Leaps lim o d c t e h → to_of o ≡ t
jump_to goto_to = refl
jump_to (call_to _) = refl
jump_to repeat_to = refl

module _ (lim : ℕ) (ws ms : List ℕ) (r z : ℕ) (ex : Exact lim ws ms) (rs : ReturnsIn ws ms (length ws) r) (ts : Targets ws) (end : z + 1 ≡ length ws) (small : lim ≤ deepest) where
  narrow : {d : ℕ} → d ≤ lim → d ≤ deepest
  narrow l = omega arith

  came_last : (a : ℕ) → a + 1 ≡ length ws → a ≡ z
  came_last a e = omega arith

  past_on : {p d : ℕ} {c : Bool} → Walked lim ws p d c → p ≡ length ws → On (place d c) (next_of (move_at ws z) (get_or ms z 0) r)
  past_on begin e = absurd (omega arith)
  past_on (on {a = a} {d = d} {c = c} {e = f} {h = h} q k nx) e =
      subst (λ (y : ℕ). On (place f h) (next_of (move_at ws y) (get_or ms y 0) r)) (came_last a e)
      (next_on nx (narrow (depth q)) (get_or ms a 0) r (ex.whole a d c k (reached q)))
  past_on (over {a = a} q k j) e = let l = ts a k in let y = jump_to j in absurd (omega arith)
  past_on (back {a = a} {d = d} {c = c} {b = b} {h = h} {t = t} p k o q m u) e =
      subst (λ (y : ℕ). On (2 * d) (next_of (move_at ws y) (get_or ms y 0) r)) (came_last b e)
      (subst (λ (y : Move). On (2 * d) (next_of y (get_or ms b 0) r)) (sym u)
      (back_on t d h (get_or ms b 0) r (narrow (depth q)) (ex.whole b d h m (reached q)) (rs.whole a (d + 1) c (narrow (depth p)) k o (ex.whole a (d + 1) c k (reached p)))))

  pub on_past : (next_of (move_at ws z) (get_or ms z 0) r ≡ 0 → ⊥) → Fault lim ws 30 (length ws)
  on_past h =
      let w = some_on (next_of (move_at ws z) (get_or ms z 0) r) h in
      let k = place_of w.0 in
      let o = subst (λ (i : ℕ). On i (next_of (move_at ws z) (get_or ms z 0) r)) k.2 w.1 in
      past {d = k.0} {c = k.1}
      (subst (λ (y : ℕ). Reached lim ws y k.0 k.1) end
      (came_reached lim ws r ms z (get_or ms z 0) (omega arith) (λ i q. q) (backs_of lim ws ms r ex.sound rs) ex.sound k.0 k.1 (on_next_lem (move_at ws z) (get_or ms z 0) r k.0 k.1 o)))

  pub all_sound : ((j b : ℕ) → b < length ws → Fault lim ws j b → ⊥) → next_of (move_at ws z) (get_or ms z 0) r ≡ 0 → (k a : ℕ) → Fault lim ws k a → ⊥
  all_sound none e k a (past {d = d} {c = c} q) = zero_off (place d c) (subst (λ (y : ℕ). On (place d c) y) e (past_on (walked q) refl))
  all_sound none e k a (full {c = c} {t = t} q l o) = none 31 a l (full {c = c} {t = t} q l o)
  all_sound none e k a (empty {c = c} q l o) = none 32 a l (empty {c = c} q l o)

-- ---- the lowest

pub lowest : (lim : ℕ) (ws : List ℕ) (a : ℕ) → ((j b : ℕ) → b < a → Fault lim ws j b → ⊥) → (j b : ℕ) → Fault lim ws j b → a ≤ b
lowest lim ws a none j b f = go (dec_lt b a)
  where
    go : Dec (b < a) → a ≤ b
    go (yes l) = absurd (none j b l f)
    go (no h) = omega arith
