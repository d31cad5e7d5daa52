-- Laws of two texts that are the same.
-- Assumes nothing.
use Prim.Native.Nat.{ℕ, zero, suc, ◌-◌, ◌≤◌}
use mathlib.Core.Path.{◌≡◌, refl, sym, ap, ap₂, ◌∙◌}
use mathlib.Core.Bool.{Bool, true, false, ◌&&◌}
use mathlib.Core.List.{List, [], ◌∷◌, ◌++◌}
use native.Mathlib.Omega.{arith}
use borrow.Author.Tests.{eq-eqb, ne_eqb, eqb-true}
use lib.Dec.{eqb}
use lib.Pointwise.{pointwise}
use native.Mathlib.Decide.{ℕ_discrete}
use lib.ListN.{length, take, drop, length-drop}
use lib.Seq.{take_all}
use Rattle.text.specs.Cut.{same_text, starts_with}

pub ended : (text : List ℕ) (i : ℕ) → length text ≤ i → drop i text ≡ []
ended [] zero h = refl
ended [] (suc i) h = refl
ended (x ∷ xs) zero h = absurd (omega arith)
ended (x ∷ xs) (suc i) h = ended xs i (omega arith)

-- ---- the same text

pub same_sizes : (a b : List ℕ) → (length a ≡ length b → ⊥) → same_text a b ≡ false
same_sizes [] [] h = absurd (h refl)
same_sizes [] (y ∷ ys) h = refl
same_sizes (x ∷ xs) [] h = refl
same_sizes (x ∷ xs) (y ∷ ys) h = ap (λ (t : Bool). eqb x y && t) (same_sizes xs ys (λ e. h (ap suc e))) ∙ never (eqb x y)
  where
    never : (t : Bool) → (t && false) ≡ false
    never true = refl
    never false = refl

-- by pairs, as the library compares
pub same_pairs : (a b : List ℕ) → pointwise eqb a b ≡ same_text a b
same_pairs [] [] = refl
same_pairs [] (y ∷ ys) = refl
same_pairs (x ∷ xs) [] = refl
same_pairs (x ∷ xs) (y ∷ ys) = ap (λ (t : Bool). eqb x y && t) (same_pairs xs ys)

pub same_text_lem : (a b : List ℕ) → same_text a b ≡ true → a ≡ b
same_text_lem [] [] e = refl
same_text_lem [] (y ∷ ys) e = absurd (let z : ◌≡◌ {A = ℕ} 0 1 = cc in omega arith)
same_text_lem (x ∷ xs) [] e = absurd (let z : ◌≡◌ {A = ℕ} 0 1 = cc in omega arith)
same_text_lem (x ∷ xs) (y ∷ ys) e = by (eqb x y) refl e (same_text_lem xs ys)
  where
    by : (t : Bool) → eqb x y ≡ t → (t && same_text xs ys) ≡ true → (same_text xs ys ≡ true → xs ≡ ys) → (x ∷ xs) ≡ (y ∷ ys)
    by true f g ih = ap₂ (λ (a : ℕ) (l : List ℕ). a ∷ l) (eqb-true x y f) (ih g)
    by false f g ih = absurd (let z : ◌≡◌ {A = ℕ} 0 1 = cc in omega arith)

pub same_self : (a : List ℕ) → same_text a a ≡ true
same_self [] = refl
same_self (x ∷ xs) = rw (eq-eqb x x refl) (same_self xs)

-- ---- a text that starts with another

-- by pairs, as the library compares
starts_pairs : (name bs : List ℕ) → pointwise eqb name (take (length name) bs) ≡ starts_with name bs
starts_pairs [] bs = refl
starts_pairs (x ∷ name) [] = refl
starts_pairs (x ∷ name) (b ∷ bs) = ap₂ (λ (s t : Bool). s && t) (eqb_turned x b) (starts_pairs name bs)
  where
    eqb_turned : (x b : ℕ) → eqb x b ≡ eqb b x
    eqb_turned x b = by (ℕ_discrete x b)
      where
        by : Dec (x ≡ b) → eqb x b ≡ eqb b x
        by (yes e) = rw e refl
        by (no n) = rw (ne_eqb x b n, ne_eqb b x (λ e. n (sym e)))

-- the part from a place on
pub starts_at : (name text : List ℕ) (at : ℕ) → pointwise eqb name (take (length name) (take (length text - at) (drop at text))) ≡ starts_with name (drop at text)
starts_at name text at = ap (λ (bs : List ℕ). pointwise eqb name (take (length name) bs)) (take_all (length text - at) (drop at text) (omega (arith, length-drop at text))) ∙ starts_pairs name (drop at text)

-- what stands behind the name
pub starts_text : (name bs : List ℕ) → starts_with name bs ≡ true → bs ≡ name ++ drop (length name) bs
starts_text [] bs e = refl
starts_text (x ∷ name) [] e = absurd (let z : ◌≡◌ {A = ℕ} 0 1 = cc in omega arith)
starts_text (x ∷ name) (b ∷ bs) e = by (eqb b x) refl e (starts_text name bs)
  where
    by : (t : Bool) → eqb b x ≡ t → (t && starts_with name bs) ≡ true → (starts_with name bs ≡ true → bs ≡ name ++ drop (length name) bs)
        → (b ∷ bs) ≡ x ∷ (name ++ drop (length name) bs)
    by true f g ih = ap₂ (λ (a : ℕ) (l : List ℕ). a ∷ l) (eqb-true b x f) (ih g)
    by false f g ih = absurd (let z : ◌≡◌ {A = ℕ} 0 1 = cc in omega arith)
