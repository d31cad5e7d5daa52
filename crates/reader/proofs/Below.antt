-- What holds of two tests, of some number below n, and of the highest that passes a test.
-- Assumes nothing.
use mathlib.Core.Path.{◌≡◌, refl, sym, ap, ◌∙◌}
use mathlib.Core.Bool.{Bool, true, false, ◌||◌, ◌&&◌, true≢false}
use Prim.Native.Nat.{ℕ, zero, suc, ◌<◌, ◌≤◌}
use native.Mathlib.Omega.{arith}
use native.Mathlib.Decide.{ℕ_discrete, dec_lt}
use Rattle.instruction.specs.Bits.{pick}
use Rattle.reader.specs.Reading.{some_below, highest_below}

pub both : (a b : Bool) → (a && b) ≡ true → (a ≡ true) × (b ≡ true)
both true b e = (refl, e)
both false b e = (e, cc)

either : (a b : Bool) → (a || b) ≡ false → (a ≡ false) × (b ≡ false)
either true b e = (e, cc)
either false b e = (refl, e)

pub none_below : (n : ℕ) (test : ℕ → Bool) → some_below n test ≡ false → (k : ℕ) → k < n → test k ≡ false
none_below zero test e k h = absurd (omega arith)
none_below (suc n) test e k h =
    by (ℕ_discrete k n) (either (test n) (some_below n test) e).0 (none_below n test (either (test n) (some_below n test) e).1)
  where
    by : Dec (k ≡ n) → test n ≡ false → ((j : ℕ) → j < n → test j ≡ false) → test k ≡ false
    by (yes q) top below = ap test q ∙ top
    by (no q) top below = below k (omega arith)

pub all_below_lem : (n : ℕ) (test : ℕ → Bool) → ((k : ℕ) → k < n → test k ≡ false) → some_below n test ≡ false
all_below_lem zero test h = refl
all_below_lem (suc n) test h = rw (h n (omega arith)) (all_below_lem n test (λ k l. h k (omega arith)))

-- one that passes is enough
pub one_below : (n : ℕ) (test : ℕ → Bool) (k : ℕ) → k < n → test k ≡ true → some_below n test ≡ true
one_below n test k h t = by (some_below n test) refl
  where
    by : (b : Bool) → some_below n test ≡ b → some_below n test ≡ true
    by true e = e
    by false e = absurd (true≢false (sym t ∙ none_below n test e k h))

-- ---- the highest

-- it is below n, it passes, and no higher one does
pub record Highest (n : ℕ) (test : ℕ → Bool) (k : ℕ) : Type 0 where
  pub below : k < n
  pub passes : test k ≡ true
  pub higher : (j : ℕ) → j < n → k < j → test j ≡ false

pub highest_is : (n : ℕ) (test : ℕ → Bool) → some_below n test ≡ true → Highest n test (highest_below n test)
highest_is zero test e = absurd (true≢false (sym e))
highest_is (suc n) test e = by (test n) refl e (highest_is n test)
  where
    lower : test n ≡ false → Highest n test (highest_below n test) → Highest (suc n) test (highest_below n test)
    lower t x = record { below = omega (arith, x.below); passes = x.passes; higher = λ j h l. at j l h (ℕ_discrete j n) }
      where
        at : (j : ℕ) → highest_below n test < j → j < suc n → Dec (j ≡ n) → test j ≡ false
        at j l h (yes q) = ap test q ∙ t
        at j l h (no q) = x.higher j (omega arith) l

    by : (b : Bool) → test n ≡ b → (b || some_below n test) ≡ true → (some_below n test ≡ true → Highest n test (highest_below n test))
        → Highest (suc n) test (pick b n (highest_below n test))
    by true t e below = record { below = omega arith; passes = t; higher = λ j h l. absurd (omega arith) }
    by false t e below = lower t (below e)

-- there is one at the most
pub one_highest : (n : ℕ) (test : ℕ → Bool) {j k : ℕ} → Highest n test j → Highest n test k → j ≡ k
one_highest n test {j} {k} x y = by (dec_lt j k) (dec_lt k j)
  where
    by : Dec (j < k) → Dec (k < j) → j ≡ k
    by (yes p) q = absurd (true≢false (sym y.passes ∙ x.higher k y.below p))
    by (no p) (yes q) = absurd (true≢false (sym x.passes ∙ y.higher j x.below q))
    by (no p) (no q) = omega arith

highest_inside : (n : ℕ) (test : ℕ → Bool) → highest_below n test ≤ n
highest_inside zero test = omega arith
highest_inside (suc n) test = by (test n) (highest_inside n test)
  where
    by : (b : Bool) → highest_below n test ≤ n → pick b n (highest_below n test) ≤ suc n
    by true h = omega arith
    by false h = omega arith

pub highest_below_lem : (n : ℕ) (test : ℕ → Bool) → highest_below (suc n) test < suc n
highest_below_lem n test = by (test n) (highest_inside n test)
  where
    by : (b : Bool) → highest_below n test ≤ n → pick b n (highest_below n test) < suc n
    by true h = omega arith
    by false h = omega arith

pub highest_none : (n : ℕ) (test : ℕ → Bool) → some_below n test ≡ false → highest_below n test ≡ 0
highest_none zero test e = refl
highest_none (suc n) test e = rw (either (test n) (some_below n test) e).0 (highest_none n test (either (test n) (some_below n test) e).1)
