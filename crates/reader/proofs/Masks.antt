-- The mask that is worked out for an op code is exactly the bits that its fields name, and a word is what its mask leaves of it just where no bit is set that is not named.
-- Assumes nothing.
use mathlib.Core.Path.{◌≡◌, refl, sym, ap, ap₂, subst, ◌∙◌}
use mathlib.Core.Bool.{Bool, true, false, not, ◌&&◌}
use Prim.Native.Nat.{ℕ, zero, suc, ◌+◌, ◌-◌, ◌*◌, ◌/◌, ◌%◌, ◌^◌, ◌≤◌, ◌<◌, min}
use native.Mathlib.Nat.{div-one, div-add-mod', div-eq_of_lt, div-eq_of_lt-le, lt_of_lt_of_le, mod-lt, pow-suc}
use native.Mathlib.Numerals.{one-add}
use native.Mathlib.Omega.{arith}
use native.Mathlib.Decide.{dec_lt}
use borrow.Author.Tests.{eqb-true, eqb-false}
use lib.Arith.{bin_ind}
use lib.Bits.{bit_and, and_shr, and_step, and_zero_l, and_zero_r, and_mod, and_le_l}
use lib.Dec.{eqb}
use lib.Count.{count_leading_zeros, leading_top}
use lib.Pow.{shr-shr, pow_mono, pow_pos}
use Rattle.instruction.specs.Bits.{is_set}
use Rattle.instruction.specs.Table.{payload_of}
use Rattle.instruction.specs.Word.{code_in}
use Rattle.named.specs.Named.{payload_bits, named_bits}
use Rattle.reader.specs.Masks.{has_unnamed}
use Rattle.reader.specs.Reading.{some_below, is_named, is_stray, is_above, highest_stray}
use Rattle.reader.proofs.Below.{Highest, none_below, all_below_lem, one_below, highest_is, one_highest, highest_none}

-- ---- the mask of an op code

abbrev differ : Bool → Bool → Bool
differ true b = not b
differ false b = b

same : (a b : Bool) → differ a b ≡ false → a ≡ b
same true true e = refl
same true false e = e
same false b e = sym e

-- one computed test over the whole table of fields: no op code, and no bit, at which mask and fields differ
no_difference : some_below 16 (λ code. some_below 64 (λ k. differ (is_set k (named_bits code)) (is_named code k))) ≡ false
unfolding named_bits
no_difference = refl

-- a mask has exactly the bits that the fields of its op code name
pub table_exact : (code k : ℕ) → code < 16 → k < 64 → is_set k (named_bits code) ≡ is_named code k
table_exact code k hc hk =
    same (is_set k (named_bits code)) (is_named code k)
    (none_below 64 (λ j. differ (is_set j (named_bits code)) (is_named code j))
    (none_below 16 (λ c. some_below 64 (λ j. differ (is_set j (named_bits c)) (is_named c j))) no_difference code hc)
    k hk)

-- one computed test again: a bit lies above every field just where the payload's mask has none from it on
no_other_above : some_below 16 (λ code. some_below 64 (λ k. differ (eqb (payload_bits code / 2 ^ k) 0) (is_above k (payload_of code)))) ≡ false
unfolding payload_bits
no_other_above = refl

pub above_exact : (code k : ℕ) → code < 16 → k < 64 → eqb (payload_bits code / 2 ^ k) 0 ≡ is_above k (payload_of code)
above_exact code k hc hk =
    same (eqb (payload_bits code / 2 ^ k) 0) (is_above k (payload_of code))
    (none_below 64 (λ j. differ (eqb (payload_bits code / 2 ^ j) 0) (is_above j (payload_of code)))
    (none_below 16 (λ c. some_below 64 (λ j. differ (eqb (payload_bits c / 2 ^ j) 0) (is_above j (payload_of c)))) no_other_above code hc)
    k hk)

-- ---- single bits of what a mask leaves

-- where a mask leaves all of a word, bits that the mask has not are zero
gap : (w m k : ℕ) → bit_and w m ≡ w → m / 2 ^ k % 2 ≡ 0 → w / 2 ^ k % 2 ≡ 0
gap w m k e z =
    ap (λ (x : ℕ). x / 2 ^ k % 2) (sym e)
    ∙ ap (λ (x : ℕ). x % 2) (and_shr w m k)
    ∙ and_mod (w / 2 ^ k) (m / 2 ^ k) 1
    ∙ ap (bit_and (w / 2 ^ k % 2)) z
    ∙ and_zero_r (w / 2 ^ k % 2)

half_shr : (n k : ℕ) → n / 2 / 2 ^ k ≡ n / 2 ^ suc k
half_shr n k = shr-shr n 1 k ∙ ap (λ (x : ℕ). n / 2 ^ x) (one-add k)

low_bit : (x y : ℕ) → x < 2 → (y ≡ 0 → x ≡ 0) → min x y ≡ x
low_bit x zero h f = rw (f refl)
low_bit x (suc y) h f = omega arith

-- and the other way: a word whose bits that the mask has not are all zero is what the mask leaves of it
no_gap : (w m : ℕ) → ((k : ℕ) → m / 2 ^ k % 2 ≡ 0 → w / 2 ^ k % 2 ≡ 0) → bit_and w m ≡ w
no_gap w =
    bin_ind (λ (n : ℕ). (m : ℕ) → ((k : ℕ) → m / 2 ^ k % 2 ≡ 0 → n / 2 ^ k % 2 ≡ 0) → bit_and n m ≡ n)
    (λ m h. and_zero_l m)
    (λ n ih m h.
    and_step n m
    ∙ ap₂ (λ (x y : ℕ). x * 2 + y)
    (ih (m / 2) (λ k z. ap (λ (x : ℕ). x % 2) (half_shr n k) ∙ h (suc k) (ap (λ (x : ℕ). x % 2) (sym (half_shr m k)) ∙ z)))
    (low_bit (n % 2) (m % 2) (omega arith) (λ z. ap (λ (x : ℕ). x % 2) (sym (div-one n)) ∙ h 0 (ap (λ (x : ℕ). x % 2) (div-one m) ∙ z)))
    ∙ div-add-mod' n 2)
    w

-- a bit is set or zero
unset : (k w : ℕ) → is_set k w ≡ false → w / 2 ^ k % 2 ≡ 0
unset k w e = let h = eqb-false (w / 2 ^ k % 2) 1 e in omega (arith, h, mod-lt (w / 2 ^ k) {m = 2} (omega arith))

clear : (k w : ℕ) → w / 2 ^ k % 2 ≡ 0 → is_set k w ≡ false
clear k w e = rw e

-- ---- a bit that is not named, by the mask

abbrev pub mask_in : ℕ → ℕ
mask_in w = named_bits (code_in w)

named_passes : (a b : Bool) → b ≡ true → (a && not b) ≡ false
named_passes true b e = rw e
named_passes false b e = refl

unnamed_is_unset : (a b : Bool) → b ≡ false → (a && not b) ≡ false → a ≡ false
unnamed_is_unset true true p q = p
unnamed_is_unset true false p q = q
unnamed_is_unset false b p q = refl

pub code_small : (w : ℕ) → code_in w < 16
code_small w = omega arith

passes : (w : ℕ) → bit_and w (mask_in w) ≡ w → (k : ℕ) → k < 64 → (b : Bool) → is_named (code_in w) k ≡ b → is_stray w k ≡ false
passes w e k h true n = named_passes (is_set k w) (is_named (code_in w) k) n
passes w e k h false n =
    ap (λ (b : Bool). b && not (is_named (code_in w) k))
    (clear k w (gap w (mask_in w) k e (unset k (mask_in w) (table_exact (code_in w) k (code_small w) h ∙ n))))

-- and no such bit is set where it does
pub no_stray : (w : ℕ) → bit_and w (mask_in w) ≡ w → has_unnamed w ≡ false
unfolding has_unnamed
no_stray w e = all_below_lem 64 (is_stray w) (λ k h. passes w e k h (is_named (code_in w) k) refl)

bit_by_bit : (w : ℕ) → w < 2 ^ 64 → has_unnamed w ≡ false → (k : ℕ) → mask_in w / 2 ^ k % 2 ≡ 0 → Dec (k < 64) → w / 2 ^ k % 2 ≡ 0
unfolding has_unnamed
bit_by_bit w small u k z (yes h) =
    unset k w
    (unnamed_is_unset (is_set k w) (is_named (code_in w) k) (sym (table_exact (code_in w) k (code_small w) h) ∙ clear k (mask_in w) z)
    (none_below 64 (is_stray w) u k h))
bit_by_bit w small u k z (no h) = rw (div-eq_of_lt (lt_of_lt_of_le small (pow_mono {i = 64} {j = k} (omega arith))))

-- the mask leaves the whole word where no bit is set that is not named
pub all_left : (w : ℕ) → w < 2 ^ 64 → has_unnamed w ≡ false → bit_and w (mask_in w) ≡ w
all_left w small u = no_gap w (mask_in w) (λ k z. bit_by_bit w small u k z (dec_lt k 64))

by_test : (w : ℕ) → w < 2 ^ 64 → (a b : Bool) → eqb (bit_and w (mask_in w)) w ≡ a → has_unnamed w ≡ b → not a ≡ b
by_test w small true b p q = sym (no_stray w (eqb-true _ _ p)) ∙ q
by_test w small false true p q = refl
by_test w small false false p q = absurd (eqb-false _ _ p (all_left w small q))

-- a bit is set that is not named just where the mask does not leave the whole word
pub unnamed_by_mask : (w : ℕ) → w < 2 ^ 64 → not (eqb (bit_and w (mask_in w)) w) ≡ has_unnamed w
unnamed_by_mask w small = by_test w small (eqb (bit_and w (mask_in w)) w) (has_unnamed w) refl refl

-- ---- the highest bit that is not named, by what the mask does not leave

low_le : (x y : ℕ) → min x y ≤ x
low_le x y = omega arith

-- what a mask takes away, halved, is what half the mask takes away of half the word
half_left : (w m : ℕ) → (w - bit_and w m) / 2 ≡ w / 2 - bit_and (w / 2) (m / 2)
half_left w m = let s = and_step w m in let l = and_le_l (w / 2) (m / 2) in let b = low_le (w % 2) (m % 2) in omega (arith, s, l, b)

shr_left : (k w m : ℕ) → (w - bit_and w m) / 2 ^ k ≡ w / 2 ^ k - bit_and (w / 2 ^ k) (m / 2 ^ k)
shr_left zero w m = div-one (w - bit_and w m) ∙ ap₂ (λ (x y : ℕ). x - bit_and x y) (sym (div-one w)) (sym (div-one m))
shr_left (suc k) w m =
    sym (half_shr (w - bit_and w m) k) ∙ ap (λ (x : ℕ). x / 2 ^ k) (half_left w m) ∙ shr_left k (w / 2) (m / 2)
    ∙ ap₂ (λ (x y : ℕ). x - bit_and x y) (half_shr w k) (half_shr m k)

-- a bit of what is left over is set where the word has it and the mask has not
low_left : (x y : ℕ) → (x - bit_and x y) % 2 ≡ x % 2 - min (x % 2) (y % 2)
low_left x y = let s = and_step x y in let l = and_le_l (x / 2) (y / 2) in let b = low_le (x % 2) (y % 2) in omega (arith, s, l, b)

set_left : (w m k : ℕ) → is_set k (w - bit_and w m) ≡ (is_set k w && not (is_set k m))
set_left w m k =
    ap (λ (x : ℕ). eqb (x % 2) 1) (shr_left k w m) ∙ ap (λ (x : ℕ). eqb x 1) (low_left (w / 2 ^ k) (m / 2 ^ k))
    ∙ by (w / 2 ^ k % 2) (m / 2 ^ k % 2) (mod-lt (w / 2 ^ k) {m = 2} (omega arith)) (mod-lt (m / 2 ^ k) {m = 2} (omega arith))
  where
    by : (x y : ℕ) → x < 2 → y < 2 → eqb (x - min x y) 1 ≡ (eqb x 1 && not (eqb y 1))
    by zero zero p q = refl
    by zero (suc zero) p q = refl
    by (suc zero) zero p q = refl
    by (suc zero) (suc zero) p q = refl
    by zero (suc (suc y)) p q = absurd (omega arith)
    by (suc zero) (suc (suc y)) p q = absurd (omega arith)
    by (suc (suc x)) y p q = absurd (omega arith)

stray_set : (w k : ℕ) → k < 64 → is_stray w k ≡ is_set k (w - bit_and w (mask_in w))
stray_set w k h = ap (λ (b : Bool). is_set k w && not b) (sym (table_exact (code_in w) k (code_small w) h)) ∙ sym (set_left w (mask_in w) k)

-- what is left over has its highest bit at j: so has the word of those that are not named
pub top_stray : (w j : ℕ) → j < 64 → 2 ^ j ≤ w - bit_and w (mask_in w) → w - bit_and w (mask_in w) < 2 ^ suc j → highest_stray w ≡ j
unfolding highest_stray
top_stray w j h low high = one_highest 64 (is_stray w) (highest_is 64 (is_stray w) (one_below 64 (is_stray w) j h set)) here
  where
    set : is_stray w j ≡ true
    set = stray_set w j h ∙ ap (λ (x : ℕ). eqb (x % 2) 1) (div-eq_of_lt-le {k = 1} (2 ^ j) (omega (arith, low)) (omega (arith, high, pow-suc 2 j)))

    above : (k : ℕ) → k < 64 → j < k → is_stray w k ≡ false
    above k l more = stray_set w k l ∙ rw (div-eq_of_lt (lt_of_lt_of_le high (pow_mono {i = suc j} {j = k} (omega arith))))

    here : Highest 64 (is_stray w) j
    here = record { below = h; passes = set; higher = above }

-- the zeros above a bit that is set
pub zeros_few : (a : ℕ) → (a ≡ 0 → ⊥) → a < 2 ^ 64 → count_leading_zeros 64 a ≤ 63
zeros_few a n h = let z = (leading_top 64 a (omega arith) h).1 in omega (arith, z)

-- by the zeros above it
pub top_bit : (w a : ℕ) → w < 2 ^ 64 → a ≡ w - bit_and w (mask_in w) → (a ≡ 0 → ⊥) → 63 - count_leading_zeros 64 a ≡ highest_stray w
top_bit w a h e n =
    let l = and_le_l w (mask_in w) in
    let t = leading_top 64 a (omega arith) (omega arith) in
    let j = t.0 in
    let z = t.1 in
    let p : 63 - count_leading_zeros 64 a ≡ j = omega (arith, z) in
    p ∙ sym (top_stray w j (omega (arith, z)) (subst (λ (x : ℕ). 2 ^ j ≤ x) e t.2) (subst (λ (x : ℕ). x < 2 ^ suc j) e t.3))

pub no_top : (w : ℕ) → w - bit_and w (mask_in w) ≡ 0 → highest_stray w ≡ 0
unfolding highest_stray
no_top w z = highest_none 64 (is_stray w) (all_below_lem 64 (is_stray w) (λ k h. stray_set w k h ∙ ap (is_set k) z ∙ clear k 0 (zero_bit k)))
  where
    zero_bit : (k : ℕ) → 0 / 2 ^ k % 2 ≡ 0
    zero_bit k = rw (div-eq_of_lt (pow_pos k))
