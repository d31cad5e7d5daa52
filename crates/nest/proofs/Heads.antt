-- Laws of the next places of the levels: what a block adds to them.
-- Assumes nothing.
use Prim.Native.Nat.{ℕ, zero, suc, ◌+◌, ◌≤◌, ◌<◌}
use mathlib.Core.Path.{◌≡◌, refl, ◌∙◌}
use mathlib.Core.List.{List, [], ◌∷◌}
use native.Mathlib.Omega.{arith}
use lib.ListN.{length, get_or, length-set}
use lib.Seq.{get_or-set_same, get_or-set_other}
use Rattle.nest.specs.Block.{Block, done, pulse, repeat}
use Rattle.nest.specs.Layout.{own, raised, passed}

-- ---- one level

pub raised_length : (l : List ℕ) (i k : ℕ) → length (raised l i k) ≡ length l
raised_length l i k = length-set l i (get_or l i 0 + k)

pub raised_same : (l : List ℕ) (i k : ℕ) → i < length l → get_or (raised l i k) i 0 ≡ get_or l i 0 + k
raised_same l i k h = get_or-set_same l i (get_or l i 0 + k) 0 h

pub raised_other : (l : List ℕ) (i j k : ℕ) → (j ≡ i → ⊥) → get_or (raised l i k) j 0 ≡ get_or l j 0
raised_other l i j k n = get_or-set_other l i j (get_or l i 0 + k) 0 n

pub raised_up : (l : List ℕ) (i j k : ℕ) → get_or l j 0 ≤ get_or (raised l i k) j 0
raised_up [] i j k = omega arith
raised_up (x ∷ l) zero zero k = omega arith
raised_up (x ∷ l) zero (suc j) k = omega arith
raised_up (x ∷ l) (suc i) zero k = omega arith
raised_up (x ∷ l) (suc i) (suc j) k = raised_up l i j k

-- ---- a block

pub passed_length : (b : Block) (level : ℕ) (hs : List ℕ) → length (passed b level hs) ≡ length hs
passed_length done level hs = refl
passed_length (pulse f b) level hs = passed_length b level (raised hs level 1) ∙ raised_length hs level 1
passed_length (repeat n c b) level hs =
    passed_length b level _
    ∙ raised_length (passed c (suc level) (raised hs level 3)) (suc level) 1
    ∙ passed_length c (suc level) (raised hs level 3)
    ∙ raised_length hs level 3

-- no level loses a word
pub passed_up : (b : Block) (level : ℕ) (hs : List ℕ) (j : ℕ) → get_or hs j 0 ≤ get_or (passed b level hs) j 0
passed_up done level hs j = omega arith
passed_up (pulse f b) level hs j = omega (arith, raised_up hs level j 1, passed_up b level (raised hs level 1) j)
passed_up (repeat n c b) level hs j =
    let in₁ = raised hs level 3 in
    let in₂ = passed c (suc level) in₁ in
    let in₃ = raised in₂ (suc level) 1 in
    omega (arith, raised_up hs level j 3, passed_up c (suc level) in₁ j, raised_up in₂ (suc level) j 1, passed_up b level in₃ j)

-- a level further out is left alone
pub passed_below : (b : Block) (level : ℕ) (hs : List ℕ) (j : ℕ) → j < level → get_or (passed b level hs) j 0 ≡ get_or hs j 0
passed_below done level hs j h = refl
passed_below (pulse f b) level hs j h = passed_below b level (raised hs level 1) j h ∙ raised_other hs level j 1 (λ e. omega arith)
passed_below (repeat n c b) level hs j h =
    passed_below b level _ j h
    ∙ raised_other (passed c (suc level) (raised hs level 3)) (suc level) j 1 (λ e. omega arith)
    ∙ passed_below c (suc level) (raised hs level 3) j (omega arith)
    ∙ raised_other hs level j 3 (λ e. omega arith)

-- what follows a repeat goes on three places behind where it began
pub passed_body : (c : Block) (level : ℕ) (hs : List ℕ) → level < length hs
    → get_or (raised (passed c (suc level) (raised hs level 3)) (suc level) 1) level 0 ≡ get_or hs level 0 + 3
passed_body c level hs h =
    raised_other (passed c (suc level) (raised hs level 3)) (suc level) level 1 (λ e. omega arith)
    ∙ passed_below c (suc level) (raised hs level 3) level (omega arith)
    ∙ raised_same hs level 3 h

-- its own level gains its own line
pub passed_own : (b : Block) (level : ℕ) (hs : List ℕ) → level < length hs → get_or (passed b level hs) level 0 ≡ get_or hs level 0 + own b
passed_own done level hs h = omega arith
passed_own (pulse f b) level hs h =
    omega (arith, passed_own b level (raised hs level 1) (omega (arith, raised_length hs level 1)), raised_same hs level 1 h)
passed_own (repeat n c b) level hs h =
    let in₁ = raised hs level 3 in
    let in₂ = passed c (suc level) in₁ in
    let in₃ = raised in₂ (suc level) 1 in
    omega (
      arith,
      passed_own b level in₃ (omega (arith, raised_length in₂ (suc level) 1, passed_length c (suc level) in₁, raised_length hs level 3)),
      passed_body c level hs h,
    )
