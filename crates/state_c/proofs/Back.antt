-- What is taken up and laid down again is as it was: so a call that is refused leaves the numbers as they were.
-- Assumes nothing.
use mathlib.Core.Path.{◌≡◌, refl, sym, ap, ◌∙◌}
use mathlib.Core.List.{List, ◌∷◌, ◌++◌}
use Prim.Native.Nat.{ℕ, zero, suc, ◌+◌, ◌-◌, ◌≤◌, ◌<◌}
use native.Mathlib.Omega.{arith}
use lib.ListN.{length, get_or, take, drop, drop_of_length-le}
use lib.Seq.{drop-cons}
use Rattle.state_c.specs.Numbers.{condition_of, condition_in, numbers_at, held_numbers, held_in}

-- all numbers from a place on
numbers_from : (n k : ℕ) (l : List ℕ) → length l ≡ k + n → numbers_at k n l ≡ drop k l
numbers_from zero k l h = let e : length l ≤ k = omega (arith, h) in sym (drop_of_length-le l e)
numbers_from (suc n) k l h = ap (λ (x : List ℕ). get_or l k 0 ∷ x) (numbers_from n (suc k) l (omega (arith, h))) ∙ sym (drop-cons l k 0 (omega (arith, h)))

-- a part of them, one by one
pub numbers_part : (n k : ℕ) (l : List ℕ) → k + n ≤ length l → take (k + n - k) (drop k l) ≡ numbers_at k n l
numbers_part n k l h = ap (λ (m : ℕ). take m (drop k l)) (back k n) ∙ part n k l h
  where
    back : (k n : ℕ) → k + n - k ≡ n
    back k n = omega arith

    part : (n k : ℕ) (l : List ℕ) → k + n ≤ length l → take n (drop k l) ≡ numbers_at k n l
    part zero k l h = refl
    part (suc n) k l h = ap (take (suc n)) (drop-cons l k 0 (omega (arith, h))) ∙ ap (λ (x : List ℕ). get_or l k 0 ∷ x) (part n (suc k) l (omega (arith, h)))

condition_back : (n : ℕ) → n < 3 → condition_of (condition_in n) ≡ n
condition_back zero h = refl
condition_back (suc zero) h = refl
condition_back (suc (suc zero)) h = refl
condition_back (suc (suc (suc n))) h = absurd (omega arith)

pub numbers_back : (l : List ℕ) → length l ≡ 55 → get_or l 18 0 < 3 → held_numbers (held_in l) ≡ l
numbers_back l h k = ap (λ (x : ℕ). numbers_at 0 18 l ++ (x ∷ numbers_at 19 36 l)) (condition_back (get_or l 18 0) k) ∙ numbers_from 55 0 l h
