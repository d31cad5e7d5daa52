-- Laws of decimal numbers: a digit, or the digits of a tenth and one more; what is written is plain and has the number as its value,
-- and what is plain is what is written.
-- Assumes nothing.
use Prim.Native.Nat.{ℕ, zero, suc, ◌+◌, ◌*◌, ◌/◌, ◌%◌, ◌-◌, ◌≤◌, ◌<◌}
use mathlib.Core.Path.{◌≡◌, refl, ap, sym, ◌∙◌}
use mathlib.Core.Bool.{Bool, true, false, not}
use mathlib.Core.List.{List, [], ◌∷◌, ◌++◌, append_assoc, append-nil}
use native.Mathlib.Omega.{arith}
use native.Mathlib.Decide.{dec_lt}
use borrow.Author.Tests.{lt-ltb, le-ltb, le-leb, leb-true, eqb-false, ne_eqb, not-true}
use lib.Dec.{leb, eqb}
use Rattle.text.specs.Line.{digit, digits_in, decimal}
use Rattle.text.specs.Number.{is_digit, all_digits, no_leading_zero, plain, value_from, value}
use Rattle.text.proofs.Bools.{both, joins}

pub digits_one : (k n : ℕ) → n < 10 → digits_in (suc k) n ≡ digit n ∷ []
digits_one k n h = rw (lt-ltb n 10 h)

pub digits_more : (k n : ℕ) → 10 ≤ n → digits_in (suc k) n ≡ digits_in k (n / 10) ++ (digit (n % 10) ∷ [])
digits_more k n h = rw (le-ltb n 10 h)

-- more places than enough change nothing
enough : (k j n : ℕ) → n < k → n < j → digits_in k n ≡ digits_in j n
enough zero j n h l = absurd (omega arith)
enough (suc k) zero n h l = absurd (omega arith)
enough (suc k) (suc j) n h l = by (dec_lt n 10) (enough k j (n / 10))
  where
    by : Dec (n < 10) → (n / 10 < k → n / 10 < j → digits_in k (n / 10) ≡ digits_in j (n / 10)) → digits_in (suc k) n ≡ digits_in (suc j) n
    by (yes p) ih = digits_one k n p ∙ sym (digits_one j n p)
    by (no p) ih =
        digits_more k n (omega arith) ∙ ap (λ (l : List ℕ). l ++ (digit (n % 10) ∷ [])) (ih (omega arith) (omega arith)) ∙ sym (digits_more j n (omega arith))

pub decimal_one : (n : ℕ) → n < 10 → decimal n ≡ digit n ∷ []
unfolding decimal
decimal_one n h = digits_one n n h

pub decimal_more : (n : ℕ) → 10 ≤ n → decimal n ≡ decimal (n / 10) ++ (digit (n % 10) ∷ [])
unfolding decimal
decimal_more n h = digits_more n n h ∙ ap (λ (l : List ℕ). l ++ (digit (n % 10) ∷ [])) (enough n (suc (n / 10)) (n / 10) (omega arith) (omega arith))

-- ---- what is written is plain

pub digit_is : (d : ℕ) → d < 10 → is_digit (digit d) ≡ true
digit_is d h = rw (le-leb 48 (48 + d) (omega arith), le-leb (48 + d) 57 (omega arith))

pub digit_bounds : (b : ℕ) → is_digit b ≡ true → (48 ≤ b) × (b ≤ 57)
digit_bounds b e =
    let h = both (leb 48 b) (leb b 57) e in
    (leb-true 48 b h.0, leb-true b 57 h.1)

all_append : (xs ys : List ℕ) → all_digits xs ≡ true → all_digits ys ≡ true → all_digits (xs ++ ys) ≡ true
all_append [] ys e f = f
all_append (x ∷ xs) ys e f =
    let h = both (is_digit x) (all_digits xs) e in
    joins (is_digit x) (all_digits (xs ++ ys)) h.0 (all_append xs ys h.1 f)

one_digit : (d : ℕ) → d < 10 → all_digits (digit d ∷ []) ≡ true
one_digit d h = joins (is_digit (digit d)) true (digit_is d h) refl

-- a text that does not start with "0"
starts : List ℕ → Bool
starts [] = false
starts (b ∷ bs) = not (eqb b 48)

starts_append : (xs ys : List ℕ) → starts xs ≡ true → starts (xs ++ ys) ≡ true
unfolding starts
starts_append [] ys e = absurd (let z : ◌≡◌ {A = ℕ} 0 1 = cc in omega arith)
starts_append (x ∷ xs) ys e = e

starts_plain : (bs : List ℕ) → starts bs ≡ true → no_leading_zero bs ≡ true
unfolding starts
starts_plain [] e = e
starts_plain (b ∷ []) e = refl
starts_plain (b ∷ c ∷ bs) e = e

starts_digit : (d : ℕ) → 0 < d → starts (digit d ∷ []) ≡ true
unfolding starts
starts_digit d h = rw (ne_eqb (48 + d) 48 (λ e. omega arith))

-- what holds of the digits of a number
record Written (n : ℕ) (bs : List ℕ) : Type 0 where
  all : all_digits bs ≡ true
  worth : value_from 0 bs ≡ n
  first : 0 < n → starts bs ≡ true

value_append : (v : ℕ) (xs ys : List ℕ) → value_from v (xs ++ ys) ≡ value_from (value_from v xs) ys
value_append v [] ys = refl
value_append v (x ∷ xs) ys = value_append (v * 10 + (x - 48)) xs ys

written_one : (n : ℕ) → n < 10 → Written n (digit n ∷ [])
written_one n h = record { all = one_digit n h; worth = omega arith; first = λ p. starts_digit n p }

written_more : (n : ℕ) (bs : List ℕ) → 10 ≤ n → Written (n / 10) bs → Written n (bs ++ (digit (n % 10) ∷ []))
written_more n bs h w =
    record {
      all = all_append bs (digit (n % 10) ∷ []) w.all (one_digit (n % 10) (omega arith));
      worth = value_append 0 bs (digit (n % 10) ∷ []) ∙ omega (arith, w.worth);
      first = λ p. starts_append bs (digit (n % 10) ∷ []) (w.first (omega arith));
    }

written_in : (k n : ℕ) → n < k → Written n (digits_in k n)
written_in zero n h = absurd (omega arith)
written_in (suc k) n h = by (dec_lt n 10) (written_in k (n / 10))
  where
    by : Dec (n < 10) → (n / 10 < k → Written (n / 10) (digits_in k (n / 10))) → Written n (digits_in (suc k) n)
    by (yes p) ih = rw (digits_one k n p) (written_one n p)
    by (no p) ih = rw (digits_more k n (omega arith)) (written_more n (digits_in k (n / 10)) (omega arith) (ih (omega arith)))

written : (n : ℕ) → Written n (decimal n)
unfolding decimal
written n = written_in (suc n) n (omega arith)

-- a number that is written and read back is the same number
pub decimal_value : (n : ℕ) → value (decimal n) ≡ n
decimal_value n = (written n).worth

pub decimal_digits : (n : ℕ) → all_digits (decimal n) ≡ true
decimal_digits n = (written n).all

pub decimal_plain : (n : ℕ) → plain (decimal n) ≡ true
decimal_plain n = joins (no_leading_zero (decimal n)) (all_digits (decimal n)) (by (dec_lt n 10)) (decimal_digits n)
  where
    by : Dec (n < 10) → no_leading_zero (decimal n) ≡ true
    by (yes p) = ap no_leading_zero (decimal_one n p)
    by (no p) = starts_plain (decimal n) ((written n).first (omega arith))

-- ---- what is plain is what is written

-- a digit more
decimal_digit : (v b : ℕ) → 0 < v → is_digit b ≡ true → decimal (v * 10 + (b - 48)) ≡ decimal v ++ (b ∷ [])
decimal_digit v b h e =
    let r = digit_bounds b e in
    let w = v * 10 + (b - 48) in
    let q : w / 10 ≡ v = omega (arith, r.0, r.1) in
    let d : digit (w % 10) ≡ b = omega (arith, r.0, r.1) in
    decimal_more w (omega arith)
    ∙ ap (λ (x : ℕ). decimal x ++ (digit (w % 10) ∷ [])) q
    ∙ ap (λ (x : ℕ). decimal v ++ (x ∷ [])) d

decimal_from : (v : ℕ) (bs : List ℕ) → 0 < v → all_digits bs ≡ true → decimal (value_from v bs) ≡ decimal v ++ bs
decimal_from v [] h e = sym (append-nil (decimal v))
decimal_from v (b ∷ bs) h e =
    let g = both (is_digit b) (all_digits bs) e in
    decimal_from (v * 10 + (b - 48)) bs (omega arith) g.1
    ∙ ap (λ (l : List ℕ). l ++ bs) (decimal_digit v b h g.0)
    ∙ append_assoc (decimal v) (b ∷ []) bs

first_digit : (b : ℕ) → is_digit b ≡ true → decimal (0 * 10 + (b - 48)) ≡ b ∷ []
first_digit b e =
    let r = digit_bounds b e in
    let d : digit (0 * 10 + (b - 48)) ≡ b = omega (arith, r.0) in
    decimal_one (0 * 10 + (b - 48)) (omega (arith, r.1)) ∙ ap (λ (x : ℕ). x ∷ []) d

-- a plain text is the text of its value
pub plain_decimal : (bs : List ℕ) → plain bs ≡ true → decimal (value bs) ≡ bs
plain_decimal [] e = absurd (let z : ◌≡◌ {A = ℕ} 0 1 = cc in omega arith)
plain_decimal (b ∷ []) e = first_digit b (both (is_digit b) true e).0
plain_decimal (b ∷ c ∷ bs) e =
    let g = both (not (eqb b 48)) (all_digits (b ∷ c ∷ bs)) e in
    let h = both (is_digit b) (all_digits (c ∷ bs)) g.1 in
    let r = digit_bounds b h.0 in
    let z = eqb-false b 48 (not-true (eqb b 48) g.0) in
    decimal_from (0 * 10 + (b - 48)) (c ∷ bs) (by b r.0 z) h.1
    ∙ ap (λ (l : List ℕ). l ++ (c ∷ bs)) (first_digit b h.0)
  where
    by : (b : ℕ) → 48 ≤ b → (b ≡ 48 → ⊥) → 0 < 0 * 10 + (b - 48)
    by b l n = omega arith
