-- Laws of numbers as they are typed: digits are read one after the other, and of what is too large only that it is.
-- Assumes nothing.
use Prim.Native.Nat.{ℕ, ◌+◌, ◌*◌, ◌-◌, ◌≤◌, ◌<◌}
use mathlib.Core.Path.{◌≡◌, refl, sym, ap, ◌∙◌}
use mathlib.Core.Bool.{Bool, true, false, ◌&&◌}
use mathlib.Core.List.{List, [], ◌∷◌}
use native.Mathlib.Omega.{arith}
use native.Mathlib.Decide.{dec_lt}
use native.Mathlib.Numerals.{add-one}
use borrow.Author.Tests.{lt-ltb, le-ltb, leb-true}
use lib.Dec.{leb}
use lib.ListN.{length, drop, get_or}
use lib.Seq.{drop-cons}
use Rattle.text.specs.Number.{between, is_digit, value_from, all_digits}
use Rattle.text.proofs.Alike.{ended}
use Rattle.typed.specs.Number.{some_digits, at_most, amount_of, capped}
use Rattle.std.specs.Prelude.{Ok, Err}
use Rattle.typed.specs.declared.AmountError.TheVariants.{NoNumber, TooLarge}
use Rattle.text.proofs.Bools.{both}

pub in_between : (first last b : ℕ) → between first last b ≡ true → (first ≤ b) × (b ≤ last)
in_between first last b e =
    let h = both (leb first b) (leb b last) e in
    (leb-true first b h.0, leb-true b last h.1)

-- ---- too large

pub capped_above : (m v : ℕ) → m < v → capped m v ≡ m + 1
capped_above m v h = rw (lt-ltb m v h)

pub capped_within : (m v : ℕ) → v ≤ m → capped m v ≡ v
capped_within m v h = rw (le-ltb m v h)

pub capped_small : (m v : ℕ) → capped m v ≤ m + 1
capped_small m v = by (dec_lt m v)
  where
    by : Dec (m < v) → capped m v ≤ m + 1
    by (yes h) = omega (arith, capped_above m v h)
    by (no h) = omega (arith, capped_within m v (omega arith))

capped_digit : (m v d : ℕ) → capped m (capped m v * 10 + d) ≡ capped m (v * 10 + d)
capped_digit m v d = by (dec_lt m v)
  where
    by : Dec (m < v) → capped m (capped m v * 10 + d) ≡ capped m (v * 10 + d)
    by (yes h) = capped_above m (capped m v * 10 + d) (omega (arith, capped_above m v h)) ∙ sym (capped_above m (v * 10 + d) (omega arith))
    by (no h) = ap (λ (x : ℕ). capped m (x * 10 + d)) (capped_within m v (omega arith))

capped_from : (m v : ℕ) (bs : List ℕ) → capped m (value_from (capped m v) bs) ≡ capped m (value_from v bs)
capped_from m v [] = by (dec_lt m v)
  where
    by : Dec (m < v) → capped m (capped m v) ≡ capped m v
    by (yes h) = capped_above m (capped m v) (omega (arith, capped_above m v h)) ∙ sym (capped_above m v h)
    by (no h) = ap (capped m) (capped_within m v (omega arith))
capped_from m v (b ∷ bs) =
    sym (capped_from m (capped m v * 10 + (b - 48)) bs)
    ∙ ap (λ (x : ℕ). capped m (value_from x bs)) (capped_digit m v (b - 48))
    ∙ capped_from m (v * 10 + (b - 48)) bs

pub at_most_above : (m v : ℕ) → m < v → at_most m v ≡ Err TooLarge
at_most_above m v h = rw (lt-ltb m v h)

pub at_most_within : (m v : ℕ) → v ≤ m → at_most m v ≡ Ok v
at_most_within m v h = rw (le-ltb m v h)

-- ---- digit by digit

-- what is known after i bytes of a text that is not empty
pub record Read (most : ℕ) (text : List ℕ) (value i : ℕ) : Type 0 where
  pub inside : i ≤ length text
  pub small : value ≤ most + 1
  pub digits : some_digits text ≡ all_digits (drop i text)
  pub said : capped most (value_from value (drop i text)) ≡ capped most (value_from 0 text)

pub read_start : (most : ℕ) (text : List ℕ) → 0 < length text → Read most text 0 0
read_start most [] h = absurd (omega arith)
read_start most (b ∷ bs) h = record { inside = omega arith; small = omega arith; digits = refl; said = refl }

module _ (most : ℕ) (text : List ℕ) (value i : ℕ) (h : i < length text) (r : Read most text value i) where
  abbrev b : ℕ
  b = get_or text i 0

  rest : drop i text ≡ b ∷ drop (i + 1) text
  rest = drop-cons text i 0 h ∙ ap (λ (k : ℕ). b ∷ drop k text) (sym (add-one i))

  pub read_next : is_digit b ≡ true → Read most text (capped most (value * 10 + (b - 48))) (i + 1)
  read_next e =
      record {
        inside = omega arith;
        small = capped_small most (value * 10 + (b - 48));
        digits = r.digits ∙ ap all_digits rest ∙ ap (λ (t : Bool). t && all_digits (drop (i + 1) text)) e;
        said =
            capped_from most (value * 10 + (b - 48)) (drop (i + 1) text)
            ∙ ap (λ (l : List ℕ). capped most (value_from value l)) (sym rest)
            ∙ r.said;
      }

  pub read_none : is_digit b ≡ false → Err NoNumber ≡ amount_of most text
  read_none e = rw (r.digits ∙ ap all_digits rest ∙ ap (λ (t : Bool). t && all_digits (drop (i + 1) text)) e)

module _ (most : ℕ) (text : List ℕ) (value i : ℕ) (h : length text ≤ i) (r : Read most text value i) where
  said : capped most value ≡ capped most (value_from 0 text)
  said = ap (λ (l : List ℕ). capped most (value_from value l)) (sym (ended text i h)) ∙ r.said

  digits : some_digits text ≡ true
  digits = r.digits ∙ ap all_digits (ended text i h)

  number : amount_of most text ≡ at_most most (value_from 0 text)
  number = rw digits

  pub read_large : most < value → Err TooLarge ≡ amount_of most text
  read_large l = by (dec_lt most (value_from 0 text))
    where
      by : Dec (most < value_from 0 text) → Err TooLarge ≡ amount_of most text
      by (yes g) = sym (number ∙ at_most_above most (value_from 0 text) g)
      by (no g) = absurd (omega (arith, said, capped_above most value l, capped_within most (value_from 0 text) (omega arith)))

  pub read_number : value ≤ most → Ok value ≡ amount_of most text
  read_number l = by (dec_lt most (value_from 0 text))
    where
      by : Dec (most < value_from 0 text) → Ok value ≡ amount_of most text
      by (yes g) = absurd (omega (arith, said, capped_within most value l, capped_above most (value_from 0 text) g))
      by (no g) =
          ap (λ (x : ℕ). Ok x) (sym (capped_within most value l) ∙ said ∙ capped_within most (value_from 0 text) (omega arith))
          ∙ sym (number ∙ at_most_within most (value_from 0 text) (omega arith))

pub read_empty : (most : ℕ) (text : List ℕ) → length text ≡ 0 → Err NoNumber ≡ amount_of most text
read_empty most [] h = refl
read_empty most (b ∷ bs) h = absurd (omega arith)
