-- What holds of every number below a bound, by one computed test.
-- Assumes nothing.
use Prim.Native.Nat.{ℕ, zero, suc, ◌<◌}
use mathlib.Core.Path.{◌≡◌, refl, ap, ◌∙◌}
use mathlib.Core.Bool.{Bool, true, false, ◌&&◌}
use native.Mathlib.Omega.{arith}
use native.Mathlib.Decide.{ℕ_discrete}

abbrev pub all_below : ℕ → (ℕ → Bool) → Bool
all_below zero test = true
all_below (suc n) test = test n && all_below n test

pub all_below_lem : (n : ℕ) (test : ℕ → Bool) → all_below n test ≡ true → (k : ℕ) → k < n → test k ≡ true
all_below_lem zero test e k h = absurd (omega arith)
all_below_lem (suc n) test e k h = by (test n) (all_below n test) e refl refl (ℕ_discrete k n) (λ q l. all_below_lem n test q k l)
  where
    by : (a b : Bool) → (a && b) ≡ true → test n ≡ a → all_below n test ≡ b → Dec (k ≡ n) → (all_below n test ≡ true → k < n → test k ≡ true) → test k ≡ true
    by true b e p q (yes i) ih = ap test i ∙ p
    by true b e p q (no i) ih = ih (q ∙ e) (omega arith)
    by false b e p q d ih = cc
