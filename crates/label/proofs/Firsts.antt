-- Why a look at every label is enough: a seek answers by the label alone, so what is found of each that stands is found of every one.
-- Assumes nothing.
use Prim.Native.Nat.{ℕ, ◌+◌, ◌≤◌, ◌<◌}
use mathlib.Core.Path.{◌≡◌, refl, sym, subst}
use mathlib.Core.Bool.{Bool, true, false}
use native.Mathlib.Omega.{arith}
use native.Mathlib.Nat.{le_antisymm}
use borrow.Author.Tests.{eqb-true, eqb-false, leb-true, leb-false}
use lib.Dec.{eqb, leb}
use Rattle.instruction.specs.Bits.{pick}
use Rattle.label.specs.First.{IsFirst, IsDouble}
use Rattle.label.specs.Key.{sooner_of}

-- what a seek says of a thing by itself: a place below n has it
pub record Sound {A : Type 0} (at : ℕ → A) (n : ℕ) (k : A) (r : ℕ) : Type 0 where
  pub low : r ≤ n
  pub here : r < n → at r ≡ k

module _ {A : Type 0} (at : ℕ → A) (n : ℕ) where
  -- only one place is the first
  pub first_one : (k : A) (r s : ℕ) → IsFirst at n k r → IsFirst at n k s → r ≡ s
  first_one k r s p q = le_antisymm (before r s p q) (before s r q p)
    where
      before : (a b : ℕ) → IsFirst at n k a → IsFirst at n k b → a ≤ b
      before a b f g = by (leb a b) refl
        where
          by : (t : Bool) → leb a b ≡ t → a ≤ b
          by true e = leb-true a b e
          by false e =
              let l : b < a = leb-false a b e in
              let h : a ≤ n = f.low in
              absurd (f.none b l (g.here (omega arith)))

  module _ (seek : A → ℕ) (sound : (k : A) → Sound at n k (seek k)) where
    -- each is found no later than it stands, so every one is found where it stands first
    pub looked : ((j : ℕ) → j < n → seek (at j) ≤ j) → (k : A) → IsFirst at n k (seek k)
    looked look k =
        record {
          low = (sound k).low;
          here = (sound k).here;
          none = λ j l e. late j l (subst (λ (x : A). seek x ≤ j) e (look j (inside j l)));
        }
      where
        inside : (j : ℕ) → j < seek k → j < n
        inside j l = let h = (sound k).low in omega arith

        late : (j : ℕ) → j < seek k → seek k ≤ j → ⊥
        late j l h = omega arith

    -- ---- the first double, met by the look

    -- of those below j, the first that is found before it stands
    pub record DoubleTo (j d : ℕ) : Type 0 where
      pub low : d ≤ n
      pub here : d < n → (d < j) × (seek (at d) < d)
      pub none : (i : ℕ) → i < j → i < d → i ≤ seek (at i)

    pub double_start : DoubleTo 0 n
    double_start = record { low = omega arith; here = λ l. absurd (omega arith); none = λ i l. absurd (omega arith) }

    module _ (j d : ℕ) (before : DoubleTo j d) (l : j < n) where
      -- what held below j, and at j
      one_more : (e : ℕ) → ((i : ℕ) → i < j → i < e → i < d) → (j < e → j ≤ seek (at j)) → (i : ℕ) → i < j + 1 → i < e → i ≤ seek (at i)
      one_more e old new i m k = by (eqb i j) refl
        where
          by : (t : Bool) → eqb i j ≡ t → i ≤ seek (at i)
          by true t = subst (λ (k : ℕ). k ≤ seek (at k)) (sym (eqb-true i j t)) (new (subst (λ (k : ℕ). k < e) (eqb-true i j t) k))
          by false t = let q : i ≡ j → ⊥ = eqb-false i j t in before.none i (omega arith) (old i (omega arith) k)

      stays : (j < d → j ≤ seek (at j)) → DoubleTo (j + 1) d
      stays new =
          record {
            low = before.low;
            here = λ h. let w = before.here h in let p = w.0 in (omega arith, w.1);
            none = one_more d (λ i m k. k) new;
          }

      pub double_next : (r : ℕ) → r ≡ seek (at j) → DoubleTo (j + 1) (sooner_of d r j)
      double_next r e = by (leb j r) (leb d j) refl refl
        where
          by : (s t : Bool) → leb j r ≡ s → leb d j ≡ t → DoubleTo (j + 1) (pick s d (pick t d j))
          by true t p q = stays (λ h. subst (λ (a : ℕ). j ≤ a) e (leb-true j r p))
          by false true p q = let o : d ≤ j = leb-true d j q in stays (λ h. absurd (omega arith))
          by false false p q =
              let o : j < d = leb-false d j q in
              let b : r < j = leb-false j r p in
              record {
                low = omega arith;
                here = λ h. (omega arith, subst (λ (a : ℕ). a < j) e b);
                none = one_more j (λ i m k. omega arith) (λ h. absurd (omega arith));
              }

    pub double_told : (j d : ℕ) → DoubleTo j d → n ≤ j → ((j : ℕ) → j < n → seek (at j) ≤ j) → IsDouble at n d
    double_told j d t l look =
        record {
          low = t.low;
          here = λ h. let w = (t.here h).1 in (seek (at d), w, (sound (at d)).here (omega arith));
          none = λ k i m o e. let f = t.none k (let p = t.low in omega arith) m in (looked look (at k)).none i (omega arith) e;
        }
