-- A field that is a number: "decimals without leading zeros", "plain decimal below 2^64".
use Rattle.std.specs.Prelude.{ℕ, ◌+◌, ◌*◌, ◌-◌, ◌^◌, ◌<◌, ◌≡◌, Bool, true, false, not, ◌&&◌, List, [], ◌∷◌, ltb, leb, eqb, length, drop, get_or, Option, Some, None}
use Rattle.instruction.specs.Bits.{pick}
use Rattle.text.specs.Cut.{tab, before, place_of}
use Rattle.text.specs.declared.Counted.{Counted}

-- from one letter to another
abbrev pub between : ℕ → ℕ → ℕ → Bool
between first last b = leb first b && leb b last

-- "0" to "9"
abbrev pub is_digit : ℕ → Bool
is_digit b = between 48 57 b

abbrev pub all_digits : List ℕ → Bool
all_digits [] = true
all_digits (b ∷ bs) = is_digit b && all_digits bs

-- "without leading zeros": something stands there, and a "0" only alone
abbrev pub no_leading_zero : List ℕ → Bool
no_leading_zero [] = false
no_leading_zero (b ∷ []) = true
no_leading_zero (b ∷ c ∷ bs) = not (eqb b 48)

-- the number that digits spell behind those that were read
abbrev pub value_from : ℕ → List ℕ → ℕ
value_from v [] = v
value_from v (b ∷ bs) = value_from (v * 10 + (b - 48)) bs

abbrev pub value : List ℕ → ℕ
value bs = value_from 0 bs

-- "below 2^64"
abbrev pub numbers : ℕ
numbers = 2 ^ 64

abbrev pub plain : List ℕ → Bool
plain bs = no_leading_zero bs && all_digits bs

-- "plain decimal below 2^64"
abbrev pub is_number : List ℕ → Bool
is_number bs = plain bs && ltb (value bs) numbers

-- ---- what the functions tell

abbrev pub counted : ℕ → ℕ → Option Counted
counted v end = Some (record { value = v; end = end })

-- what stands from a place on, up to a byte or the text's end
abbrev pub field_to : ℕ → ℕ → List ℕ → List ℕ
field_to x from text = before x (drop from text)

-- which number it is, and where it ends; none where it is no number
abbrev pub counted_to : ℕ → ℕ → List ℕ → Option Counted
counted_to x from text =
    pick (is_number (field_to x from text)) (counted (value (field_to x from text)) (place_of x from text)) None

-- which number it is, and the place behind the byte that stands behind it; none where it is none, or the byte is not there
abbrev pub counted_then : ℕ → ℕ → List ℕ → Option Counted
counted_then x from text =
    pick (is_number (field_to x from text) && ltb (place_of x from text) (length text)) (counted (value (field_to x from text)) (place_of x from text + 1)) None

-- a field of a line, from a place on
abbrev pub field_at : ℕ → List ℕ → List ℕ
field_at from line = field_to tab from line

abbrev pub counted_at : ℕ → List ℕ → Option Counted
counted_at from line = counted_to tab from line

-- a digit that stands at a place, of so much
pub record Led (x from first : ℕ) (text : List ℕ) : Type 0 where
  pub inside : from < length text
  pub other : is_digit x ≡ false
  pub digit : is_digit (get_or text from 0) ≡ true
  pub said : first ≡ get_or text from 0 - 48
