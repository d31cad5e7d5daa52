-- Laws of the numbers of many labels and of the table that finds them.
-- Assumes nothing.
use Prim.Native.Nat.{ℕ, zero, suc, ◌/◌, ◌≤◌, ◌<◌}
use mathlib.Core.Path.{◌≡◌, refl, sym, ap, ap₂, ◌∙◌}
use mathlib.Core.Bool.{Bool, true, false}
use mathlib.Core.List.{List, [], ◌∷◌}
use native.Mathlib.Omega.{arith}
use borrow.Author.Tests.{eqb-true, le-leb, lt-leb, leb-false}
use lib.Dec.{eqb, leb}
use lib.ListN.{length, get_or}
use Rattle.instruction.specs.Bits.{pick}
use Rattle.text.proofs.Bools.{both}
use Rattle.label.specs.First.{IsFirst}
use Rattle.label.specs.Key.{key_at, count, same_key, empty, ends, below, place_from, place_of, hit, seek_of, Looked, sooner_of}
use Rattle.label.specs.declared.Key.{Key}
use Rattle.label.proofs.Firsts.{Sound, looked}

-- ---- the numbers of a label

key_of_lem : ℕ → ℕ → Key
key_of_lem a b = record { lo = a; hi = b }

same_true : (a b : Key) → same_key a b ≡ true → a ≡ b
unfolding key_of_lem
same_true a b h = let w = both (eqb a.lo b.lo) (eqb a.hi b.hi) h in ap₂ key_of_lem (eqb-true a.lo b.lo w.0) (eqb-true a.hi b.hi w.1)

-- ---- the table

module _ (keys table : List ℕ) (k : Key) where
  -- the rest of the way, once it is known whether it ends here
  on : ℕ → ℕ → ℕ → ℕ → ℕ → Bool → ℕ
  on left bits others slot at t = pick t slot (place_from left keys table k others (bits / 2) (below at bits))

  ends_as : (slot at : ℕ) {t : Bool} → at ≡ get_or table slot empty → ends keys k at ≡ t → ends keys k (get_or table slot empty) ≡ t
  ends_as slot at e h = ap (ends keys k) (sym e) ∙ h

  pub place_stop : (left bits others slot at : ℕ) → at ≡ get_or table slot empty → ends keys k at ≡ true → slot ≡ place_from left keys table k bits others slot
  unfolding place_from on
  place_stop zero bits others slot at e h = refl
  place_stop (suc left) bits others slot at e h = sym (ap (on left bits others slot (get_or table slot empty)) (ends_as slot at e h))

  place_suc : (left bits others slot at : ℕ) → at ≡ get_or table slot empty → ends keys k at ≡ false
      → place_from left keys table k others (bits / 2) (below at bits) ≡ place_from (suc left) keys table k bits others slot
  unfolding place_from on
  place_suc left bits others slot at e h =
      ap (λ (a : ℕ). place_from left keys table k others (bits / 2) (below a bits)) e
      ∙ sym (ap (on left bits others slot (get_or table slot empty)) (ends_as slot at e h))

  pub place_next : (left less bits others slot at : ℕ) → left ≡ suc less → at ≡ get_or table slot empty → ends keys k at ≡ false
      → place_from less keys table k others (bits / 2) (below at bits) ≡ place_from left keys table k bits others slot
  place_next left less bits others slot at l e h =
      place_suc less bits others slot at e h ∙ ap (λ (m : ℕ). place_from m keys table k bits others slot) (sym l)

  pub place_spent : (left bits others slot : ℕ) → left ≤ 0 → slot ≡ place_from left keys table k bits others slot
  unfolding place_from
  place_spent zero bits others slot l = refl
  place_spent (suc left) bits others slot l = absurd (omega arith)

  module _ (at : ℕ) where
    by_end : Bool → Bool → Bool
    by_end s t = pick s true t

    by_hit : Bool → Bool → ℕ
    by_hit s t = pick s (count keys) (pick t at (count keys))

    pub ends_none : count keys ≤ at → ends keys k at ≡ true
    unfolding by_end
    ends_none l = ap (λ (s : Bool). by_end s (same_key (key_at keys at) k)) (le-leb (count keys) at l)

    pub hit_none : count keys ≤ at → count keys ≡ hit keys k at
    unfolding by_hit
    hit_none l = sym (ap (λ (s : Bool). by_hit s (same_key (key_at keys at) k)) (le-leb (count keys) at l))

    module _ (l : at < count keys) where
      pub ends_by : {t : Bool} → t ≡ same_key (key_at keys at) k → ends keys k at ≡ t
      unfolding by_end
      ends_by e = ap₂ by_end (lt-leb (count keys) at l) (sym e)

      hit_by : {t : Bool} → t ≡ same_key (key_at keys at) k → by_hit false t ≡ hit keys k at
      unfolding by_hit
      hit_by e = sym (ap₂ by_hit (lt-leb (count keys) at l) (sym e))

      pub hit_here : true ≡ same_key (key_at keys at) k → at ≡ hit keys k at
      unfolding by_hit
      hit_here e = hit_by e

      pub hit_not : false ≡ same_key (key_at keys at) k → count keys ≡ hit keys k at
      unfolding by_hit
      hit_not e = hit_by e

    hit_sound : (s t : Bool) → leb (count keys) at ≡ s → same_key (key_at keys at) k ≡ t → Sound (key_at keys) (count keys) k (pick s (count keys) (pick t at (count keys)))
    hit_sound true t p q = record { low = omega arith; here = λ l. absurd (omega arith) }
    hit_sound false true p q = let l : at < count keys = leb-false (count keys) at p in record { low = omega arith; here = λ h. same_true (key_at keys at) k q }
    hit_sound false false p q = record { low = omega arith; here = λ l. absurd (omega arith) }

  pub seek_sound : Sound (key_at keys) (count keys) k (seek_of keys table k)
  seek_sound = let at = get_or table (place_of keys table k) empty in hit_sound at (leb (count keys) at) (same_key (key_at keys at) k) refl refl

-- a table that passed the look finds each label where it stands first
pub found : (keys table : List ℕ) → Looked keys table → (k : Key) → IsFirst (key_at keys) (count keys) k (seek_of keys table k)
found keys table look k = looked (key_at keys) (count keys) (seek_of keys table) (seek_sound keys table) look k

-- ---- slots and doubles

-- inside a list it does not matter what stands outside
pub inside : (l : List ℕ) (i d e : ℕ) → i < length l → get_or l i d ≡ get_or l i e
inside [] i d e h = absurd (omega arith)
inside (x ∷ xs) zero d e h = refl
inside (x ∷ xs) (suc i) d e h = inside xs i d e (omega arith)

module _ (d at j : ℕ) where
  sooner_by : Bool → Bool → ℕ
  sooner_by s t = pick s d (pick t d j)

  pub sooner_not : j ≤ at → d ≡ sooner_of d at j
  unfolding sooner_by
  sooner_not l = sym (ap (λ (s : Bool). sooner_by s (leb d j)) (le-leb j at l))

  pub sooner_old : at < j → d ≤ j → d ≡ sooner_of d at j
  unfolding sooner_by
  sooner_old l m = sym (ap₂ sooner_by (lt-leb j at l) (le-leb d j m))

  pub sooner_new : at < j → j < d → j ≡ sooner_of d at j
  unfolding sooner_by
  sooner_new l m = sym (ap₂ sooner_by (lt-leb j at l) (lt-leb d j m))
