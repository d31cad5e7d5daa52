-- Laws of reading a number digit by digit.
-- Assumes nothing.
use Prim.Native.Nat.{ℕ, suc, ◌+◌, ◌*◌, ◌-◌, ◌≤◌, ◌<◌}
use mathlib.Core.Path.{◌≡◌, refl, sym, ap, subst, ◌∙◌}
use mathlib.Core.Bool.{Bool, true, false, ◌&&◌}
use mathlib.Core.List.{List, [], ◌∷◌}
use Rattle.std.specs.Prelude.{Option, None}
use native.Mathlib.Omega.{arith}
use native.Mathlib.Numerals.{add-one}
use borrow.Author.Tests.{lt-ltb, le-ltb, ltb-true, ltb-false, eq-eqb, ne_eqb}
use lib.Dec.{ltb}
use native.Mathlib.Decide.{ℕ_discrete}
use lib.ListN.{length, drop, get_or, drop_of_length-le}
use lib.Seq.{drop-cons}
use Rattle.instruction.specs.Bits.{pick}
use Rattle.text.specs.Cut.{before, place_of}
use Rattle.text.specs.Number.{is_digit, all_digits, no_leading_zero, plain, value_from, value, numbers, is_number, counted, field_to, counted_to, Led}
use Rattle.text.proofs.Cuts.{place_none, place_here, place_next}
use Rattle.text.specs.declared.Counted.{Counted}
use Rattle.text.proofs.Bools.{and_false, never}
use Rattle.text.proofs.Decimals.{digit_bounds}

-- ---- digit by digit

-- the digits of a field up to place i, and their value
pub record Counting (x from : ℕ) (line : List ℕ) (v i : ℕ) : Type 0 where
  pub inside : from ≤ length line
  pub order : from ≤ i
  pub upto : i ≤ length line
  pub small : v < numbers
  pub place : place_of x i line ≡ place_of x from line
  pub digits : all_digits (field_to x from line) ≡ all_digits (field_to x i line)
  pub said : value (field_to x from line) ≡ value_from v (field_to x i line)

module _ (x from : ℕ) (line : List ℕ) (h : from ≤ length line) where
  pub counting_start : Counting x from line 0 from
  counting_start = record { inside = h; order = omega arith; upto = h; small = omega arith; place = refl; digits = refl; said = refl }

-- a field that is no number
not_counted : (x from : ℕ) (line : List ℕ) → is_number (field_to x from line) ≡ false → None ≡ counted_to x from line
not_counted x from line e = rw e

-- more digits never make a number less
grows : (v : ℕ) (bs : List ℕ) → v ≤ value_from v bs
grows v [] = omega arith
grows v (b ∷ bs) = omega (arith, grows (v * 10 + (b - 48)) bs)

digit_other : (x b : ℕ) → is_digit x ≡ false → is_digit b ≡ true → b ≡ x → ⊥
digit_other x b n e f = never (sym e ∙ ap is_digit f ∙ n)

-- nothing stands where the byte does
field_here : (x i : ℕ) (line : List ℕ) → i < length line → get_or line i 0 ≡ x → field_to x i line ≡ []
field_here x i line h e = ap (before x) (drop-cons line i 0 h) ∙ ap (λ (t : Bool). pick t [] (get_or line i 0 ∷ before x (drop (suc i) line))) (eq-eqb (get_or line i 0) x e)

module _ (x from : ℕ) (line : List ℕ) {v i : ℕ} (c : Counting x from line v i) where
  -- all digits are read
  spelled : no_leading_zero (field_to x from line) ≡ true → i ≡ place_of x i line → field_to x i line ≡ [] → counted v i ≡ counted_to x from line
  spelled z p n = (λ j. counted (said j) ((p ∙ c.place) j)) ∙ sym (rw is)
    where
      said : v ≡ value (field_to x from line)
      said = sym (c.said ∙ ap (value_from v) n)

      is : is_number (field_to x from line) ≡ true
      is = rw (z, c.digits ∙ ap all_digits n, lt-ltb (value (field_to x from line)) numbers (omega (arith, said, c.small)))

  -- the field ends where the line does
  pub counting_last : no_leading_zero (field_to x from line) ≡ true → length line ≤ i → counted v i ≡ counted_to x from line
  counting_last z h = spelled z (place_none x line i h) (ap (before x) (drop_of_length-le line h))

  module _ (h : i < length line) where
    abbrev b : ℕ
    b = get_or line i 0

    rest : drop i line ≡ b ∷ drop (i + 1) line
    rest = drop-cons line i 0 h ∙ ap (λ (k : ℕ). b ∷ drop k line) (sym (add-one i))

    -- or at the byte
    pub counting_end : no_leading_zero (field_to x from line) ≡ true → b ≡ x → counted v i ≡ counted_to x from line
    counting_end z e = spelled z (place_here x line i h e) (field_here x i line h e)

    module _ (e : b ≡ x → ⊥) where
      more : field_to x i line ≡ b ∷ field_to x (i + 1) line
      more = ap (before x) rest ∙ ap (λ (t : Bool). pick t [] (b ∷ before x (drop (i + 1) line))) (ne_eqb b x e)

      digits_go : {t : Bool} → is_digit b ≡ t → all_digits (field_to x from line) ≡ (t && all_digits (field_to x (i + 1) line))
      digits_go f = c.digits ∙ ap all_digits more ∙ ap (λ (s : Bool). s && all_digits (field_to x (i + 1) line)) f

      said_go : value (field_to x from line) ≡ value_from (v * 10 + (b - 48)) (field_to x (i + 1) line)
      said_go = c.said ∙ ap (value_from v) more

      -- a byte that is no digit
      pub counting_not : is_digit b ≡ false → None ≡ counted_to x from line
      counting_not f =
          not_counted x from line
          (ap (λ (t : Bool). (no_leading_zero (field_to x from line) && t) && ltb (value (field_to x from line)) numbers) (digits_go f)
          ∙ ap (λ (t : Bool). t && ltb (value (field_to x from line)) numbers) (and_false (no_leading_zero (field_to x from line))))

    module _ {d : ℕ} (f : d ≡ b - 48) (n : is_digit x ≡ false) (g : is_digit b ≡ true) where
      -- too large, whatever follows
      pub counting_large : ltb (v * 10 + d) numbers ≡ false → None ≡ counted_to x from line
      counting_large l =
          not_counted x from line
          (ap (λ (t : Bool). plain (field_to x from line) && t)
          (le-ltb (value (field_to x from line)) numbers
          (omega (arith, f, ltb-false (v * 10 + d) numbers l, said_go (digit_other x b n g), grows (v * 10 + (b - 48)) (field_to x (i + 1) line))))
          ∙ and_false (plain (field_to x from line)))

      pub counting_next : ltb (v * 10 + d) numbers ≡ true → Counting x from line (v * 10 + d) (i + 1)
      counting_next l =
          record {
            inside = c.inside;
            order = omega (arith, c.order);
            upto = omega arith;
            small = ltb-true (v * 10 + d) numbers l;
            place = place_next x line i h (digit_other x b n g) ∙ c.place;
            digits = digits_go (digit_other x b n g) g;
            said = said_go (digit_other x b n g) ∙ ap (λ (y : ℕ). value_from (v * 10 + y) (field_to x (i + 1) line)) (sym f);
          }

-- ---- the first digit

lead_other : (b : ℕ) (bs : List ℕ) → (b ≡ 48 → ⊥) → no_leading_zero (b ∷ bs) ≡ true
lead_other b [] n = refl
lead_other b (c ∷ bs) n = rw (ne_eqb b 48 n)

module _ (x from : ℕ) (text : List ℕ) where
  pub first_none : length text ≤ from → None ≡ counted_to x from text
  first_none h = not_counted x from text (ap (λ (l : List ℕ). is_number (before x l)) (drop_of_length-le text h))

  module _ (h : from < length text) where
    start : Counting x from text 0 from
    start = counting_start x from text (omega arith)

    pub first_not : is_digit (get_or text from 0) ≡ false → None ≡ counted_to x from text
    first_not f = by (ℕ_discrete (get_or text from 0) x)
      where
        by : Dec (get_or text from 0 ≡ x) → None ≡ counted_to x from text
        by (yes e) = not_counted x from text (ap is_number (field_here x from text h e))
        by (no e) = counting_not x from text start h e f

module _ (x from : ℕ) (text : List ℕ) {first : ℕ} (l : Led x from first text) where
  led_field : field_to x from text ≡ get_or text from 0 ∷ field_to x (from + 1) text
  led_field = more x from text (counting_start x from text (omega (arith, l.inside))) l.inside (digit_other x (get_or text from 0) l.other l.digit)

  -- it is the number so far
  pub led_counting : Counting x from text first (from + 1)
  led_counting = subst (λ (v : ℕ). Counting x from text v (from + 1)) (sum first)
      (counting_next x from text (counting_start x from text (omega (arith, l.inside))) l.inside l.said l.other l.digit (lt-ltb (0 * 10 + first) numbers (omega (arith, l.said, digit_bounds (get_or text from 0) l.digit))))
    where
      sum : (v : ℕ) → 0 * 10 + v ≡ v
      sum v = omega arith

  pub led_lead : (first ≡ 0 → ⊥) → no_leading_zero (field_to x from text) ≡ true
  led_lead n = ap no_leading_zero led_field ∙ lead_other (get_or text from 0) (field_to x (from + 1) text) (λ e. n (omega (arith, e, l.said)))

-- a "0"
module _ (x from : ℕ) (text : List ℕ) (l : Led x from 0 text) where
  is_zero : get_or text from 0 ≡ 48
  is_zero = omega (arith, l.said, digit_bounds (get_or text from 0) l.digit)

  alone : field_to x (from + 1) text ≡ [] → counted 0 (from + 1) ≡ counted_to x from text
  alone e = sym (ap told (led_field x from text l ∙ (λ j. is_zero j ∷ e j)))
    where
      told : List ℕ → Option Counted
      told f = pick (is_number f) (counted (value f) (from + length f)) None

  pub zero_last : length text ≤ from + 1 → counted 0 (from + 1) ≡ counted_to x from text
  zero_last h = alone (ap (before x) (drop_of_length-le text h))

  module _ (h : from + 1 < length text) where
    pub zero_here : get_or text (from + 1) 0 ≡ x → counted 0 (from + 1) ≡ counted_to x from text
    zero_here e = alone (field_here x (from + 1) text h e)

    pub zero_more : (get_or text (from + 1) 0 ≡ x → ⊥) → None ≡ counted_to x from text
    zero_more n =
        not_counted x from text
        (ap is_number (led_field x from text l ∙ (λ j. is_zero j ∷ next j)))
      where
        next : field_to x (from + 1) text ≡ get_or text (from + 1) 0 ∷ field_to x (from + 1 + 1) text
        next = more x (from + 1) text (counting_start x (from + 1) text (omega arith)) h n
