-- Fields that descend and do not meet: what is laid into them is read from them again, and a mask of them leaves just what they hold.
-- Said once, over any list of fields. Assumes nothing.
use mathlib.Core.Path.{◌≡◌, refl, sym, ap, ap₂, ◌∙◌, subst}
use mathlib.Core.Bool.{Bool, true, false, ◌&&◌}
use mathlib.Core.List.{List, [], ◌∷◌, ◌++◌}
use Prim.Native.Nat.{ℕ, ◌+◌, ◌-◌, ◌*◌, ◌/◌, ◌%◌, ◌^◌, ◌<◌, ◌≤◌}
use native.Mathlib.Nat.{mod-lt, mod-mod, mod-eq_of_lt, lt_of_le_of_lt, lt_of_lt_of_le, add_assoc, add-zero, zero-add, zero-mul, mul_assoc, add-mul}
use native.Mathlib.Omega.{arith}
use borrow.Author.Tests.{ltb-true, lt-ltb, leb-true}
use lib.Arith.{digits_lt, digits_div, digits_mod}
use lib.Bits.{bit_and, and_block, and_mask, and_mod, and_le_r, and_zero_r}
use lib.Dec.{leb}
use lib.ListN.{length}
use lib.Pow.{pow_pos, pow_mono, pow-add, split, ones_lt}
use Rattle.instruction.specs.Bits.{span, held, laid, fits, held_in, laid_onto, fit_after}
use Rattle.instruction.specs.declared.Field.{Field}
use Rattle.named.specs.Named.{mask_of}

-- the fields go down from bit k, and do not meet
pub data Down : ℕ → List Field → Type 0 where
  none : {k : ℕ} → Down k []
  some : {k : ℕ} {f : Field} {fs : List Field} → f.width + f.low ≤ k → Down f.low fs → Down k (f ∷ fs)

-- each number fits its field
pub data Fit : List Field → List ℕ → Type 0 where
  none : Fit [] []
  some : {f : Field} {fs : List Field} {v : ℕ} {vs : List ℕ} → v < span f → Fit fs vs → Fit (f ∷ fs) (v ∷ vs)

-- the sum of numbers laid into fields
abbrev pub sum_of : List Field → List ℕ → ℕ
sum_of [] vs = 0
sum_of (f ∷ fs) [] = 0
sum_of (f ∷ fs) (v ∷ vs) = laid f v + sum_of fs vs

pub onto_sum : (s : ℕ) (fs : List Field) (vs : List ℕ) → laid_onto s fs vs ≡ s + sum_of fs vs
onto_sum s [] vs = sym (add-zero s)
onto_sum s (f ∷ fs) [] = sym (add-zero s)
onto_sum s (f ∷ fs) (v ∷ vs) = onto_sum (s + laid f v) fs vs ∙ add_assoc s (laid f v) (sum_of fs vs)

-- two to the power of a place above a field
above : (f : Field) (k : ℕ) → f.width + f.low ≤ k → 2 ^ (k - (f.width + f.low)) * (span f * 2 ^ f.low) ≡ 2 ^ k
above f k h =
    let d : ℕ = k - (f.width + f.low) in
    let e : d + (f.width + f.low) ≡ k = omega arith in
    ap (λ (x : ℕ). 2 ^ d * x) (sym (pow-add 2 f.width f.low)) ∙ sym (pow-add 2 d (f.width + f.low)) ∙ ap (λ (x : ℕ). 2 ^ x) e

pub sum_lt : {k : ℕ} {fs : List Field} → Down k fs → (vs : List ℕ) → sum_of fs vs < 2 ^ k
sum_lt {k} none vs = pow_pos k
sum_lt {k} (some h d) [] = pow_pos k
sum_lt {k} (some {f = f} h d) (v ∷ vs) =
    lt_of_lt_of_le
    (digits_lt (mod-lt v (pow_pos f.width)) (sum_lt d vs))
    (subst (λ (x : ℕ). x ≤ 2 ^ k) (pow-add 2 f.width f.low) (pow_mono h))

-- numbers that fit are read again from their sum, whatever lies above it
pub held_sum : {k : ℕ} {fs : List Field} {vs : List ℕ} (h : ℕ) → Down k fs → Fit fs vs → held_in (h * 2 ^ k + sum_of fs vs) fs ≡ vs
held_sum h none none = refl
held_sum {k} h (some {f = f} {fs = fs} l d) (some {v = v} {vs = vs} t g) =
    let q : ℕ = h * 2 ^ (k - (f.width + f.low)) * span f + v in
    let r : ℕ = sum_of fs vs in
    let e : h * 2 ^ k + (laid f v + r) ≡ q * 2 ^ f.low + r = regroup h (2 ^ (k - (f.width + f.low))) (span f) (2 ^ f.low) v r (2 ^ k) (above f k l) (mod-eq_of_lt t) in
    ap₂ {A = ℕ} {B = List ℕ} {C = List ℕ} ◌∷◌
    (ap (λ (w : ℕ). held w f) e
    ∙ ap (λ (x : ℕ). x % span f) (digits_div q (sum_lt d vs))
    ∙ digits_mod (h * 2 ^ (k - (f.width + f.low))) t)
    (ap (λ (w : ℕ). held_in w fs) e ∙ held_sum q d g)
  where
    regroup : (h d s b v r p : ℕ) → d * (s * b) ≡ p → v % s ≡ v → h * p + (v % s * b + r) ≡ (h * d * s + v) * b + r
    regroup h d s b v r p e m = rw (← e, m, add-mul, mul_assoc, mul_assoc) (sym (add_assoc _ _ _))

pub held_again : {k : ℕ} {fs : List Field} {vs : List ℕ} → Down k fs → Fit fs vs → held_in (sum_of fs vs) fs ≡ vs
held_again {k} {fs} {vs} d g =
    ap (λ (w : ℕ). held_in w fs) (sym (zero-add (sum_of fs vs)) ∙ ap (λ (x : ℕ). x + sum_of fs vs) (sym (zero-mul (2 ^ k)))) ∙ held_sum 0 d g

pub join : {fs gs : List Field} {vs us : List ℕ} → Fit fs vs → Fit gs us → Fit (fs ++ gs) (vs ++ us)
join none h = h
join (some t g) h = some t (join g h)

-- what fields hold fits them
pub held_fit : (w : ℕ) (fs : List Field) → Fit fs (held_in w fs)
held_fit w [] = none
held_fit w (f ∷ fs) = some (mod-lt (w / 2 ^ f.low) (pow_pos f.width)) (held_fit w fs)

-- ---- the test and the fact

pub both : {a b : Bool} → (a && b) ≡ true → (a ≡ true) × (b ≡ true)
both {a = true} e = (refl, e)
both {a = false} e = (e, cc)

pub fit_of : (good : Bool) (fs : List Field) (vs : List ℕ) → length fs ≡ length vs → fit_after good fs vs ≡ true → (good ≡ true) × Fit fs vs
fit_of good [] [] e t = (t, none)
fit_of good [] (v ∷ vs) e t = absurd (omega arith)
fit_of good (f ∷ fs) [] e t = absurd (omega arith)
fit_of good (f ∷ fs) (v ∷ vs) e t =
    let rest = fit_of (good && fits f v) fs vs (omega arith) t in
    let first = both rest.0 in
    (first.0, some (ltb-true v (span f) first.1) rest.1)

pub fit_test : {fs : List Field} {vs : List ℕ} → Fit fs vs → fit_after true fs vs ≡ true
fit_test none = refl
fit_test (some {f = f} {v = v} t g) = rw (lt-ltb v (span f) t) (fit_test g)

-- ---- masks

mask_lt : {k : ℕ} {fs : List Field} → Down k fs → mask_of fs < 2 ^ k
mask_lt {k} none = pow_pos k
mask_lt {k} (some {f = f} h d) =
    lt_of_lt_of_le
    (digits_lt (ones_lt f.width) (mask_lt d))
    (subst (λ (x : ℕ). x ≤ 2 ^ k) (pow-add 2 f.width f.low) (pow_mono h))

-- a mask below 2 ^ k sees only the bits below k
and_low : (w m k : ℕ) → m < 2 ^ k → bit_and (w % 2 ^ k) m ≡ bit_and w m
and_low w m k h =
    ap (bit_and (w % 2 ^ k)) (sym (mod-eq_of_lt h))
    ∙ sym (and_mod w m k)
    ∙ mod-eq_of_lt (lt_of_le_of_lt (and_le_r w m) h)

-- the mask of fields leaves the sum of what they hold
pub and_sum : {k : ℕ} {fs : List Field} (w : ℕ) → Down k fs → bit_and w (mask_of fs) ≡ sum_of fs (held_in w fs)
and_sum w none = and_zero_r w
and_sum w (some {f = f} {fs = fs} h d) =
    let l : ℕ = f.low in
    ap (λ (x : ℕ). bit_and x ((span f - 1) * 2 ^ l + mask_of fs)) (sym (split w l))
    ∙ and_block l (w / 2 ^ l) (span f - 1) (w % 2 ^ l) (mask_of fs) (mod-lt w (pow_pos l)) (mask_lt d)
    ∙ ap₂ (λ (x y : ℕ). x * 2 ^ l + y)
    (and_mask (w / 2 ^ l) f.width ∙ sym (mod-mod (w / 2 ^ l) (span f)))
    (and_low w (mask_of fs) l (mask_lt d) ∙ and_sum w d)

-- ---- that fields go down, as a test that is computed

abbrev pub go_down : ℕ → List Field → Bool
go_down k [] = true
go_down k (f ∷ fs) = leb (f.width + f.low) k && go_down f.low fs

pub down_of : (k : ℕ) (fs : List Field) → go_down k fs ≡ true → Down k fs
down_of k [] e = none
down_of k (f ∷ fs) e =
    let t = both {a = leb (f.width + f.low) k} e in
    some (leb-true (f.width + f.low) k t.0) (down_of f.low fs t.1)
