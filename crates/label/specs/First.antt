-- Where a thing stands first among many, and which is the first that stood before: said of any n things, by what it is.
-- It carries the code, and needs no belief.
use Rattle.std.specs.Prelude.{ℕ, suc, ◌≤◌, ◌<◌, ◌≡◌, List, [], ◌∷◌}
use Rattle.instruction.specs.Bits.{pick}
use Rattle.text.specs.Cut.{same_text}

-- the first place of a name; the number of names where it has none
abbrev pub first_name : List (List ℕ) → List ℕ → ℕ
first_name [] name = 0
first_name (x ∷ xs) name = pick (same_text x name) 0 (suc (first_name xs name))

-- the first place of k, or n where it has none
pub record IsFirst {A : Type 0} (at : ℕ → A) (n : ℕ) (k : A) (r : ℕ) : Type 0 where
  pub low : r ≤ n
  pub here : r < n → at r ≡ k
  pub none : (j : ℕ) → j < r → at j ≡ k → ⊥

-- the first place whose thing stood before, or n where there is none
pub record IsDouble {A : Type 0} (at : ℕ → A) (n : ℕ) (r : ℕ) : Type 0 where
  pub low : r ≤ n
  pub here : r < n → (i : ℕ) × (i < r) × (at i ≡ at r)
  pub none : (j i : ℕ) → j < r → i < j → at i ≡ at j → ⊥
