-- Laws of levels that are put one behind the other, and of what is told of a block that fits or does not.
-- Assumes nothing.
use Prim.Native.Nat.{ℕ, zero, suc, ◌+◌, ◌≤◌, ◌<◌}
use mathlib.Core.Path.{◌≡◌, refl, sym, ap, ap₂, ◌∙◌}
use mathlib.Core.List.{List, [], ◌∷◌, ◌++◌, append-nil}
use native.Mathlib.Nat.{zero-add}
use native.Mathlib.Numerals.{add-one}
use native.Mathlib.Omega.{arith}
use borrow.Author.Tests.{lt-ltb, le-ltb}
use lib.ListN.{length, get_or, set, take, drop, drop_of_length-le}
use lib.Seq.{take_all}
use Rattle.sequence.specs.Bounds.{word_limit}
use Rattle.buffer.proofs.Laws.{fill_next, fill_at}
use Rattle.nest.specs.Block.{nest_limit}
use Rattle.nest.specs.Layout.{sum_of, starts_from}
use Rattle.nest.proofs.Sums.{starts_length}
use Rattle.text.specs.Told.{refused_at, accepted}
use Rattle.block.specs.Text.{room_refused, fitted}

-- ---- 54, 55

module _ (room size : ℕ) where
  pub fit_54 : word_limit < size → refused_at 54 0 ≡ fitted room size
  unfolding fitted room_refused
  fit_54 h = rw (lt-ltb word_limit size h)

  module _ (h : size ≤ word_limit) where
    pub fit_55 : room < size → refused_at 55 0 ≡ fitted room size
    unfolding fitted room_refused
    fit_55 l = rw (le-ltb word_limit size h, lt-ltb room size l)

    pub fit_0 : size ≤ room → accepted size ≡ fitted room size
    unfolding fitted room_refused
    fit_0 l = rw (le-ltb word_limit size h, le-ltb room size l)

-- ---- levels

-- a level begins behind those before it
starts_at : (p : ℕ) (l : List ℕ) (i : ℕ) → i < length l → get_or (starts_from p l) i 0 ≡ p + sum_of (take i l)
starts_at p [] i h = absurd (omega arith)
starts_at p (x ∷ l) zero h = omega arith
starts_at p (x ∷ l) (suc i) h = omega (arith, starts_at (p + x) l i (omega arith))

sum_next : (l : List ℕ) (i : ℕ) → i < length l → sum_of (take (suc i) l) ≡ sum_of (take i l) + get_or l i 0
sum_next [] i h = absurd (omega arith)
sum_next (x ∷ l) zero h = omega arith
sum_next (x ∷ l) (suc i) h = omega (arith, sum_next l i (omega arith))

sum_part : (l : List ℕ) (i : ℕ) → sum_of (take i l) ≤ sum_of l
sum_part [] zero = omega arith
sum_part [] (suc i) = omega arith
sum_part (x ∷ l) zero = omega arith
sum_part (x ∷ l) (suc i) = omega (arith, sum_part l i)

-- the levels before one have their places, the others still their sizes
pub record Stacking (sizes heads : List ℕ) (place level : ℕ) : Type 0 where
  pub few : level ≤ suc nest_limit
  pub filled : heads ≡ take level (starts_from 0 sizes) ++ drop level sizes
  pub sum : place ≡ sum_of (take level sizes)

module _ (sizes : List ℕ) (l : length sizes ≡ suc nest_limit) where
  abbrev starts : List ℕ
  starts = starts_from 0 sizes

  length_starts : length starts ≡ suc nest_limit
  length_starts = starts_length 0 sizes ∙ l

  pub stacking_start : Stacking sizes sizes 0 0
  stacking_start = record { few = omega arith; filled = refl; sum = refl }

  module _ {heads : List ℕ} {place level : ℕ} (g : Stacking sizes heads place level) where
    pub stacking_end : suc nest_limit ≤ level → (heads ≡ starts) × (place ≡ sum_of sizes)
    stacking_end h = (
      g.filled
          ∙ ap₂ (λ (a b : List ℕ). a ++ b) (take_all level starts (omega (arith, length_starts, h))) (drop_of_length-le sizes {i = level} (omega (arith, l, h)))
          ∙ append-nil starts,
      g.sum ∙ ap sum_of (take_all level sizes (omega (arith, l, h))),
    )

    module _ (h : level < suc nest_limit) where
      size_is : get_or heads level 0 ≡ get_or sizes level 0
      size_is = ap (λ (hs : List ℕ). get_or hs level 0) g.filled ∙ fill_at starts sizes level (omega (arith, length_starts, h)) (omega (arith, l, h))

      next_sum : sum_of (take (level + 1) sizes) ≡ place + get_or heads level 0
      next_sum = ap (λ (k : ℕ). sum_of (take k sizes)) (add-one level) ∙ omega (arith, sum_next sizes level (omega (arith, l, h)), g.sum, size_is)

      pub stacking_few : place + get_or heads level 0 ≤ sum_of sizes
      stacking_few = omega (arith, next_sum, sum_part sizes (level + 1))

      pub stacking_next : Stacking sizes (set heads level place) (place + get_or heads level 0) (level + 1)
      stacking_next =
          record {
            few = omega (arith, h);
            filled =
                ap₂ (λ (hs : List ℕ) (p : ℕ). set hs level p) g.filled (g.sum ∙ sym (zero-add _) ∙ sym (starts_at 0 sizes level (omega (arith, l, h))))
                ∙ fill_next starts sizes level (omega (arith, length_starts, h)) (omega (arith, l, h));
            sum = sym next_sum;
          }
