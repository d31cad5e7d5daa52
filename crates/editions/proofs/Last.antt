-- Laws of a line's last field: it starts behind the last tab.
-- Assumes nothing.
use Prim.Native.Nat.{ℕ, suc, ◌-◌, ◌≤◌, ◌<◌}
use mathlib.Core.Path.{◌≡◌, refl, sym, ap, ◌∙◌}
use mathlib.Core.Bool.{Bool, true, false, ◌||◌}
use mathlib.Core.List.{List, [], ◌∷◌, ◌++◌}
use native.Mathlib.Omega.{arith}
use borrow.Author.Tests.{eq-eqb, ne_eqb}
use lib.Dec.{eqb}
use lib.ListN.{length, get_or, take, drop, length-drop, drop_of_length-le, take-append-drop}
use lib.Seq.{drop-cons}
use Rattle.instruction.specs.Bits.{pick}
use Rattle.text.specs.Cut.{tab, cut, onto, has, before}
use Rattle.text.proofs.Cuts.{behind, cut_first, cut_joined}
use Rattle.editions.specs.Told.{final, final_from}

-- ---- the last piece of a cut

final_more : (f : List ℕ) (x : ℕ) (bs : List ℕ) → final (f ∷ cut x bs) ≡ final (cut x bs)
final_more f x bs =
    let rest = pick (has x bs) (cut x (behind x bs)) [] in
    ap (λ (fs : List (List ℕ)). final (f ∷ fs)) (cut_first x bs) ∙ ap final (sym (cut_first x bs))

-- what stands behind a byte has the last piece
final_behind : (x : ℕ) (xs ys : List ℕ) → final (cut x (xs ++ (x ∷ ys))) ≡ final (cut x ys)
final_behind x [] ys = ap (λ (t : Bool). final (pick t ([] ∷ cut x ys) (onto x (cut x ys)))) (eq-eqb x x refl) ∙ final_more [] x ys
final_behind x (b ∷ xs) ys = by (eqb b x) (final_behind x xs ys)
  where
    two : (b : ℕ) (bs : List ℕ) → has x bs ≡ true → final (onto b (cut x bs)) ≡ final (cut x bs)
    two b bs e =
        let there = ap (λ (t : Bool). before x bs ∷ pick t (cut x (behind x bs)) []) e in
        ap (λ (fs : List (List ℕ)). final (onto b fs)) (cut_first x bs ∙ there)
        ∙ final_more (b ∷ before x bs) x (behind x bs)
        ∙ sym (final_more (before x bs) x (behind x bs))
        ∙ ap final (sym (cut_first x bs ∙ there))

    has_behind : (xs : List ℕ) → has x (xs ++ (x ∷ ys)) ≡ true
    has_behind [] = ap (λ (t : Bool). t || has x ys) (eq-eqb x x refl)
    has_behind (c ∷ xs) = or (eqb c x) (has_behind xs)
      where
        or : (t : Bool) → has x (xs ++ (x ∷ ys)) ≡ true → (t || has x (xs ++ (x ∷ ys))) ≡ true
        or true e = refl
        or false e = e

    by : (t : Bool) → final (cut x (xs ++ (x ∷ ys))) ≡ final (cut x ys)
        → final (pick t ([] ∷ cut x (xs ++ (x ∷ ys))) (onto b (cut x (xs ++ (x ∷ ys))))) ≡ final (cut x ys)
    by true ih = final_more [] x (xs ++ (x ∷ ys)) ∙ ih
    by false ih = two b (xs ++ (x ∷ ys)) (has_behind xs) ∙ ih

-- a text without the byte is its only piece
pub final_alone : (x : ℕ) (bs : List ℕ) → has x bs ≡ false → final (cut x bs) ≡ bs
final_alone x bs e = ap final (cut_joined x bs [] (ap (λ (t : Bool). pick t false true) e))

-- ---- from the back

-- no tab stands from a place on
abbrev pub Tabless : List ℕ → ℕ → Type 0
Tabless line i = has tab (drop i line) ≡ false

module _ (line : List ℕ) where
  pub tabless_start : Tabless line (length line)
  tabless_start = ap (has tab) (drop_of_length-le line {i = length line} (omega arith))

  module _ (i : ℕ) (t : Tabless line i) (l : 0 < i) (m : i ≤ length line) where
    part : drop (i - 1) line ≡ get_or line (i - 1) 0 ∷ drop i line
    part = drop-cons line (i - 1) 0 (omega arith) ∙ ap (λ (k : ℕ). get_or line (i - 1) 0 ∷ drop k line) (let q : suc (i - 1) ≡ i = omega arith in q)

    pub tabless_next : (get_or line (i - 1) 0 ≡ tab → ⊥) → Tabless line (i - 1)
    tabless_next n = ap (has tab) part ∙ ap (λ (b : Bool). b || has tab (drop i line)) (ne_eqb (get_or line (i - 1) 0) tab n) ∙ t

    pub last_here : get_or line (i - 1) 0 ≡ tab → i ≡ final_from line
    last_here e = start (length (final (cut tab line))) (ap length piece ∙ length-drop i line)
      where
        whole : line ≡ take (i - 1) line ++ (tab ∷ drop i line)
        whole = sym (take-append-drop (i - 1) line) ∙ ap (λ (l : List ℕ). take (i - 1) line ++ l) (part ∙ ap (λ (b : ℕ). b ∷ drop i line) e)

        piece : final (cut tab line) ≡ drop i line
        piece = ap (λ (l : List ℕ). final (cut tab l)) whole ∙ final_behind tab (take (i - 1) line) (drop i line) ∙ final_alone tab (drop i line) t

        start : (k : ℕ) → k ≡ length line - i → i ≡ length line - k
        start k q = omega arith

  pub last_first : (i : ℕ) → Tabless line i → i ≤ 0 → i ≡ final_from line
  last_first i t l = first (length line) (length (final (cut tab line))) (ap length (final_alone tab line alone))
    where
      zero : i ≡ 0
      zero = omega arith

      alone : has tab line ≡ false
      alone = ap (λ (k : ℕ). has tab (drop k line)) (sym zero) ∙ t

      first : (n k : ℕ) → k ≡ n → i ≡ n - k
      first n k q = omega arith
