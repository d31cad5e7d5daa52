-- The arithmetic of the levels: how many words a block adds to each, their sum, and where levels lie that stand one behind the other.
-- Assumes nothing.
use Prim.Native.Nat.{ℕ, zero, suc, ◌+◌, ◌≤◌, ◌<◌}
use mathlib.Core.Path.{◌≡◌, refl, sym, ap, ◌∙◌}
use mathlib.Core.List.{List, [], ◌∷◌}
use native.Mathlib.Decide.{dec_lt}
use native.Mathlib.Omega.{arith}
use lib.ListN.{length, get_or, replicate}
use Rattle.nest.specs.Block.{Block, done, pulse, repeat, nest_limit}
use Rattle.nest.specs.Fair.{Fair}
use Rattle.nest.specs.Layout.{sum_of, words_in, size_of, raised, passed, sizes_of, starts_from}
use Rattle.nest.proofs.Heads.{raised_length, passed_length}

-- ---- what is added does not depend on where the levels are

pub raised_alike : (hs ks : List ℕ) (i k j : ℕ) → length hs ≡ length ks
    → get_or (raised hs i k) j 0 + get_or ks j 0 ≡ get_or (raised ks i k) j 0 + get_or hs j 0
raised_alike [] [] i k j e = refl
raised_alike [] (y ∷ ks) i k j e = absurd (omega arith)
raised_alike (x ∷ hs) [] i k j e = absurd (omega arith)
raised_alike (x ∷ hs) (y ∷ ks) zero k zero e = omega arith
raised_alike (x ∷ hs) (y ∷ ks) zero k (suc j) e = omega arith
raised_alike (x ∷ hs) (y ∷ ks) (suc i) k zero e = omega arith
raised_alike (x ∷ hs) (y ∷ ks) (suc i) k (suc j) e = raised_alike hs ks i k j (omega arith)

pub passed_alike : (b : Block) (level : ℕ) (hs ks : List ℕ) → length hs ≡ length ks → (j : ℕ)
    → get_or (passed b level hs) j 0 + get_or ks j 0 ≡ get_or (passed b level ks) j 0 + get_or hs j 0
passed_alike done level hs ks e j = omega arith
passed_alike (pulse f b) level hs ks e j =
    let l : length (raised hs level 1) ≡ length (raised ks level 1) = raised_length hs level 1 ∙ e ∙ sym (raised_length ks level 1) in
    omega (arith, raised_alike hs ks level 1 j e, passed_alike b level (raised hs level 1) (raised ks level 1) l j)
passed_alike (repeat n c b) level hs ks e j =
    let hs₁ = raised hs level 3 in
    let ks₁ = raised ks level 3 in
    let hs₂ = passed c (suc level) hs₁ in
    let ks₂ = passed c (suc level) ks₁ in
    let hs₃ = raised hs₂ (suc level) 1 in
    let ks₃ = raised ks₂ (suc level) 1 in
    let l₁ : length hs₁ ≡ length ks₁ = raised_length hs level 3 ∙ e ∙ sym (raised_length ks level 3) in
    let l₂ : length hs₂ ≡ length ks₂ = passed_length c (suc level) hs₁ ∙ l₁ ∙ sym (passed_length c (suc level) ks₁) in
    let l₃ : length hs₃ ≡ length ks₃ = raised_length hs₂ (suc level) 1 ∙ l₂ ∙ sym (raised_length ks₂ (suc level) 1) in
    omega (
      arith,
      raised_alike hs ks level 3 j e,
      passed_alike c (suc level) hs₁ ks₁ l₁ j,
      raised_alike hs₂ ks₂ (suc level) 1 j l₂,
      passed_alike b level hs₃ ks₃ l₃ j,
    )

-- ---- the sum of the levels

pub raised_sum : (l : List ℕ) (i k : ℕ) → i < length l → sum_of (raised l i k) ≡ sum_of l + k
raised_sum [] i k h = absurd (omega arith)
raised_sum (x ∷ l) zero k h = omega arith
raised_sum (x ∷ l) (suc i) k h = omega (arith, raised_sum l i k (omega arith))

-- each word of a block is one of some level
pub passed_sum : (wave : ℕ) (b : Block) (level : ℕ) (hs : List ℕ) → Fair wave level b → length hs ≡ suc nest_limit → level ≤ nest_limit
    → sum_of (passed b level hs) ≡ sum_of hs + words_in b
passed_sum wave done level hs fair e h = omega arith
passed_sum wave (pulse f b) level hs fair e h =
    let l = raised_length hs level 1 in
    omega (arith, raised_sum hs level 1 (omega arith), passed_sum wave b level (raised hs level 1) fair.2 (l ∙ e) h)
passed_sum wave (repeat n c b) level hs fair e h =
    let hs₁ = raised hs level 3 in
    let hs₂ = passed c (suc level) hs₁ in
    let l₁ : length hs₁ ≡ suc nest_limit = raised_length hs level 3 ∙ e in
    let l₂ : length hs₂ ≡ suc nest_limit = passed_length c (suc level) hs₁ ∙ l₁ in
    let deep : level < nest_limit = fair.2 in
    omega (
      arith,
      raised_sum hs level 3 (omega arith),
      passed_sum wave c (suc level) hs₁ fair.3 l₁ (omega arith),
      raised_sum hs₂ (suc level) 1 (omega arith),
      passed_sum wave b level (raised hs₂ (suc level) 1) fair.4 (raised_length hs₂ (suc level) 1 ∙ l₂) h,
    )

pub sizes_length : (b : Block) → length (sizes_of b) ≡ suc nest_limit
sizes_length b = passed_length b 0 (2 ∷ replicate nest_limit 0)

pub sizes_sum : (wave : ℕ) (b : Block) → Fair wave 0 b → sum_of (sizes_of b) ≡ size_of b
sizes_sum wave b fair = passed_sum wave b 0 (2 ∷ replicate nest_limit 0) fair refl (omega arith)

-- ---- levels one behind the other

pub starts_length : (p : ℕ) (l : List ℕ) → length (starts_from p l) ≡ length l
starts_length p [] = refl
starts_length p (x ∷ l) = ap suc (starts_length (p + x) l)

pub starts_first : (p : ℕ) (l : List ℕ) → 0 < length l → get_or (starts_from p l) 0 0 ≡ p
starts_first p [] h = absurd (omega arith)
starts_first p (x ∷ l) h = refl

-- no level begins before the first
pub starts_above : (p : ℕ) (l : List ℕ) (j : ℕ) → j < length l → p ≤ get_or (starts_from p l) j 0
starts_above p [] j h = absurd (omega arith)
starts_above p (x ∷ l) zero h = omega arith
starts_above p (x ∷ l) (suc j) h = omega (arith, starts_above (p + x) l j (omega arith))

-- a level ends where the next begins
pub starts_next : (p : ℕ) (l : List ℕ) (j : ℕ) → suc j < length l → get_or (starts_from p l) (suc j) 0 ≡ get_or (starts_from p l) j 0 + get_or l j 0
starts_next p [] j h = absurd (omega arith)
starts_next p (x ∷ l) zero h = starts_first (p + x) l (omega arith)
starts_next p (x ∷ l) (suc j) h = starts_next (p + x) l j (omega arith)

-- the last level ends at the sum
pub starts_last : (p : ℕ) (l : List ℕ) (j : ℕ) → suc j ≡ length l → get_or (starts_from p l) j 0 + get_or l j 0 ≡ p + sum_of l
starts_last p [] j e = absurd (omega arith)
starts_last p (x ∷ []) zero e = omega arith
starts_last p (x ∷ y ∷ l) zero e = absurd (omega arith)
starts_last p (x ∷ l) (suc j) e = omega (arith, starts_last (p + x) l j (omega arith))

-- a level ends before each later one begins
pub starts_ordered : (p : ℕ) (l : List ℕ) (j k : ℕ) → j < k → k < length l → get_or (starts_from p l) j 0 + get_or l j 0 ≤ get_or (starts_from p l) k 0
starts_ordered p [] j k h i = absurd (omega arith)
starts_ordered p (x ∷ l) j zero h i = absurd (omega arith)
starts_ordered p (x ∷ l) zero (suc k) h i = starts_above (p + x) l k (omega arith)
starts_ordered p (x ∷ l) (suc j) (suc k) h i = starts_ordered (p + x) l j k (omega arith) (omega arith)

-- no level ends behind the sum
pub starts_room : (p : ℕ) (l : List ℕ) (j : ℕ) → j < length l → get_or (starts_from p l) j 0 + get_or l j 0 ≤ p + sum_of l
starts_room p [] j h = absurd (omega arith)
starts_room p (x ∷ l) zero h = omega arith
starts_room p (x ∷ l) (suc j) h = omega (arith, starts_room (p + x) l j (omega arith))

-- a place of a level that has its start and its size
abbrev pub Within : List ℕ → List ℕ → ℕ → Type 0
Within starts sizes a = (j : ℕ) × (j < length sizes) × (get_or starts j 0 ≤ a) × (a < get_or starts j 0 + get_or sizes j 0)

-- every place up to the sum is of some level
pub starts_cover : (p : ℕ) (l : List ℕ) (a : ℕ) → p ≤ a → a < p + sum_of l → Within (starts_from p l) l a
starts_cover p [] a h i = absurd (omega arith)
starts_cover p (x ∷ l) a h i = by (dec_lt a (p + x)) (λ n. starts_cover (p + x) l a (omega arith) (omega arith))
  where
    by : Dec (a < p + x) → ((a < p + x → ⊥) → Within (starts_from (p + x) l) l a) → Within (starts_from p (x ∷ l)) (x ∷ l) a
    by (yes t) rest = (0, omega arith, h, t)
    by (no t) rest = let r = rest t in (suc r.0, omega (arith, r.1), r.2, r.3)
