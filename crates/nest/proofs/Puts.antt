-- Laws of single words put at the next place of a level, as the code writes them.
-- Assumes nothing.
use Prim.Native.Nat.{ℕ, suc, ◌+◌, ◌-◌, ◌≤◌, ◌<◌}
use mathlib.Core.Path.{◌≡◌, ap, ◌∙◌}
use mathlib.Core.List.{List, [], ◌∷◌}
use native.Mathlib.Numerals.{add-one}
use native.Mathlib.Omega.{arith}
use lib.ListN.{length, get_or, set, length-set}
use Rattle.instruction.specs.Word.{word_of}
use Rattle.instruction.specs.declared.Instruction.{Instruction}
use Rattle.instruction.specs.declared.Body.TheVariants.{LoadRepeat, Repeat, Call}
use Rattle.nest.specs.Block.{low}
use Rattle.nest.specs.Layout.{sheet, put, opening}

-- ---- room

module _ (words : List ℕ) (p : ℕ) (h : p + 3 ≤ length words) where
  pub second_inside : (a : ℕ) → p + 1 < length (set words p a)
  second_inside a = omega (arith, h, length-set words p a)

  pub third_inside : (a b : ℕ) → p + 2 < length (set (set words p a) (p + 1) b)
  third_inside a b = omega (arith, h, length-set words p a, length-set (set words p a) (p + 1) b)

-- ---- words

module _ (level : ℕ) (heads words : List ℕ) where
  pub put_single : (i : Instruction) {w : ℕ} → w ≡ word_of i
      → sheet (set heads level (get_or heads level 0 + 1)) (set words (get_or heads level 0) w) ≡ put level (i ∷ []) (sheet heads words)
  put_single i e = ap (λ (x : ℕ). sheet (set heads level (get_or heads level 0 + 1)) (set words (get_or heads level 0) x)) e

  -- the three words of a repeat, one behind the other
  pub put_opening : (n body : ℕ) {a b c : ℕ} → body ≡ get_or heads (suc level) 0
      → a ≡ word_of (low (LoadRepeat (record { 0 = n - 1 }))) → b ≡ word_of (low (Call (record { 0 = body }))) → c ≡ word_of (low (Repeat (record { 0 = get_or heads level 0 + 1 })))
      → sheet (set heads level (get_or heads level 0 + 3)) (set (set (set words (get_or heads level 0) a) (get_or heads level 0 + 1) b) (get_or heads level 0 + 2) c)
      ≡ put level (opening n (get_or heads level 0) (get_or heads (suc level) 0)) (sheet heads words)
  put_opening n body e x y z =
      let p = get_or heads level 0 in
      (λ j. sheet (set heads level (p + 3)) (set (set (set words p (x j)) (add-one p j) (y j)) (two p j) (z j)))
      ∙ ap (λ (t : ℕ). put level (opening n p t) (sheet heads words)) e
    where
      two : (p : ℕ) → p + 2 ≡ suc (suc p)
      two p = omega arith
