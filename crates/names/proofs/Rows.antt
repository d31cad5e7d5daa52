-- Laws of names: every row of the table has its own, which its third letter and its length tell, and what is written of it is the name.
-- Assumes nothing.
use Prim.Native.Nat.{ℕ, zero, suc, ◌+◌, ◌≤◌, ◌<◌}
use mathlib.Core.Path.{◌≡◌, refl, sym, ap, ◌∙◌}
use mathlib.Core.Bool.{Bool, true, false, ◌&&◌}
use mathlib.Core.List.{List}
use native.Mathlib.Omega.{arith}
use borrow.Author.Tests.{eqb-true, leb-true, lt-ltb, le-ltb, ltb-true, ltb-false}
use lib.Dec.{eqb, leb, ltb}
use lib.ListN.{length, get_or}
use Rattle.std.specs.Prelude.{Some, None}
use Rattle.instruction.specs.Bits.{pick}
use Rattle.text.specs.Cut.{same_text}
use Rattle.text.proofs.Alike.{same_text_lem}
use Rattle.text.proofs.Below.{all_below, all_below_lem}
use Rattle.names.specs.Names.{name_count, name_at, named_from, row_named, row_of, guess_of}
use Rattle.text.proofs.Bools.{both}

-- ---- each name has one row

-- one computed test: a name is found in its row, no name is short, and the guess is right
fine : ℕ → Bool
fine row = eqb (row_named (name_at row)) row && (leb 3 (length (name_at row)) && eqb (guess_of (get_or (name_at row) 2 0) (length (name_at row))) row)

table : all_below name_count fine ≡ true
unfolding fine row_named guess_of
table = refl

module _ (row : ℕ) (h : row < name_count) where
  tested : (eqb (row_named (name_at row)) row && (leb 3 (length (name_at row)) && eqb (guess_of (get_or (name_at row) 2 0) (length (name_at row))) row)) ≡ true
  unfolding fine
  tested = all_below_lem name_count fine table row h

  pub row_found : row_named (name_at row) ≡ row
  row_found = eqb-true (row_named (name_at row)) row (both (eqb (row_named (name_at row)) row) _ tested).0

  rest : (leb 3 (length (name_at row)) && eqb (guess_of (get_or (name_at row) 2 0) (length (name_at row))) row) ≡ true
  rest = (both (eqb (row_named (name_at row)) row) _ tested).1

  long : 3 ≤ length (name_at row)
  long = leb-true 3 (length (name_at row)) (both (leb 3 (length (name_at row))) _ rest).0

  guessed : guess_of (get_or (name_at row) 2 0) (length (name_at row)) ≡ row
  guessed = eqb-true (guess_of (get_or (name_at row) 2 0) (length (name_at row))) row (both (leb 3 (length (name_at row))) _ rest).1

-- no row has it
none_named : (text : List ℕ) (n row : ℕ) → ((k : ℕ) → k < row + n → same_text text (name_at k) ≡ false) → named_from text row n ≡ row + n
none_named text zero row h = omega arith
none_named text (suc n) row h =
    ap (λ (t : Bool). pick t row (named_from text (suc row) n)) (h row (omega arith))
    ∙ none_named text n (suc row) (λ k l. h k (omega arith))
    ∙ omega arith

not_true_is : (t : Bool) → (t ≡ true → ⊥) → t ≡ false
not_true_is true h = absurd (h refl)
not_true_is false h = refl

module _ (text : List ℕ) where
  pub named_not : ((k : ℕ) → k < name_count → same_text text (name_at k) ≡ true → ⊥) → name_count ≡ row_named text
  unfolding row_named
  named_not h = sym (none_named text name_count 0 (λ k l. not_true_is (same_text text (name_at k)) (h k (omega arith))))

  pub named_here : (row : ℕ) → row < name_count → same_text text (name_at row) ≡ true → row ≡ row_named text
  named_here row h e = sym (ap row_named (same_text_lem text (name_at row) e) ∙ row_found row h)

  pub named_short : length text < 3 → name_count ≡ row_named text
  named_short h = named_not (λ k l e. none k l (ap length (same_text_lem text (name_at k) e)))
    where
      none : (k : ℕ) → k < name_count → length text ≡ length (name_at k) → ⊥
      none k l e = omega (arith, long k l)

  -- the guess is the only row that can have it
  module _ {row : ℕ} (g : row ≡ guess_of (get_or text 2 0) (length text)) where
    only : (k : ℕ) → k < name_count → same_text text (name_at k) ≡ true → row ≡ k
    only k l e = g ∙ ap (λ (t : List ℕ). guess_of (get_or t 2 0) (length t)) (same_text_lem text (name_at k) e) ∙ guessed k l

    pub guess_not : same_text text (name_at row) ≡ false → name_count ≡ row_named text
    guess_not e = named_not (λ k l f. clash (sym f ∙ ap (λ (n : ℕ). same_text text (name_at n)) (sym (only k l f)) ∙ e))
      where
        clash : true ≡ false → ⊥
        clash c = let z : ◌≡◌ {A = ℕ} 0 1 = cc in omega arith

-- every guess is a row
pub guess_row : (third size : ℕ) → guess_of third size < name_count
unfolding guess_of
guess_row third size =
    small (eqb third 82) 1 _ (omega arith)
    (small (eqb third 73) 2 _ (omega arith)
    (small (eqb third 65) (pick (eqb size 8) 11 3) _ (small (eqb size 8) 11 3 (omega arith) (omega arith))
    (small (eqb third 80) (pick (eqb size 3) 5 4) _ (small (eqb size 3) 5 4 (omega arith) (omega arith))
    (small (eqb third 84) (pick (eqb size 4) 6 8) _ (small (eqb size 4) 6 8 (omega arith) (omega arith))
    (small (eqb third 76) 7 _ (omega arith)
    (small (eqb third 78) 9 _ (omega arith)
    (small (eqb third 68) 10 _ (omega arith)
    (small (eqb third 69) 12 _ (omega arith)
    (small (eqb third 79) 13 0 (omega arith) (omega arith))))))))))
  where
    small : (t : Bool) (a b : ℕ) → a < name_count → b < name_count → pick t a b < name_count
    small true a b h l = h
    small false a b h l = l

-- a row that is found has the name
found_has : (text : List ℕ) (n row : ℕ) → named_from text row n < row + n → same_text text (name_at (named_from text row n)) ≡ true
found_has text zero row h = absurd (omega arith)
found_has text (suc n) row h = by (same_text text (name_at row)) refl h (found_has text n (suc row))
  where
    by : (t : Bool) → same_text text (name_at row) ≡ t → pick t row (named_from text (suc row) n) < row + suc n
        → (named_from text (suc row) n < suc row + n → same_text text (name_at (named_from text (suc row) n)) ≡ true)
        → same_text text (name_at (pick t row (named_from text (suc row) n))) ≡ true
    by true e l ih = e
    by false e l ih = ih (omega arith)

pub named_has : (text : List ℕ) → row_named text < name_count → text ≡ name_at (row_named text)
unfolding row_named
named_has text h = same_text_lem text (name_at (named_from text 0 name_count)) (found_has text name_count 0 h)

-- ---- the row that has a name, where there is one

module _ (text : List ℕ) where
  pub row_told : {row : ℕ} → row < name_count → row ≡ row_named text → Some row ≡ row_of text
  row_told {row = row} l e = ap (λ (k : ℕ). Some k) e ∙ sym (ap (λ (t : Bool). pick t (Some (row_named text)) None) (lt-ltb (row_named text) name_count (omega (arith, l, e))))

  pub row_untold : name_count ≡ row_named text → None ≡ row_of text
  row_untold e = sym (ap (λ (t : Bool). pick t (Some (row_named text)) None) (le-ltb (row_named text) name_count (omega (arith, e))))

  pub row_some : {row : ℕ} → Some row ≡ row_of text → (row ≡ row_named text) × (row < name_count)
  row_some {row = row} e = by (ltb (row_named text) name_count) refl e
    where
      by : (t : Bool) → ltb (row_named text) name_count ≡ t → Some row ≡ pick t (Some (row_named text)) None → (row ≡ row_named text) × (row < name_count)
      by true f g = let h : row ≡ row_named text = cc in (h, omega (arith, h, ltb-true (row_named text) name_count f))
      by false f g = cc

  pub row_none : None ≡ row_of text → name_count ≤ row_named text
  row_none e = by (ltb (row_named text) name_count) refl e
    where
      by : (t : Bool) → ltb (row_named text) name_count ≡ t → None ≡ pick t (Some (row_named text)) None → name_count ≤ row_named text
      by true f g = cc
      by false f g = ltb-false (row_named text) name_count f
