-- Words as a listing says them: the row of a name and the numbers behind it, whatever the edition; and the fields that each edition makes of them.
-- Assumes nothing.
use Prim.Native.Nat.{ℕ, zero, suc, ◌+◌, ◌<◌}
use mathlib.Core.Path.{◌≡◌, refl, sym, ap, ap₂, ◌∙◌}
use mathlib.Core.Bool.{Bool, true, false, not, ◌||◌}
use mathlib.Core.List.{List, [], ◌∷◌, ◌++◌, map}
use native.Mathlib.Omega.{arith}
use borrow.Author.Tests.{eqb-true}
use lib.Dec.{eqb}
use lib.ListN.{length, get_or, take}
use Rattle.instruction.specs.Bits.{pick}
use Rattle.text.specs.Cut.{tab, line_feed, has}
use Rattle.text.specs.Line.{letters, decimal}
use Rattle.text.specs.Number.{value, is_number}
use Rattle.text.proofs.Back.{decimal_free, has_append, number_text}
use Rattle.text.proofs.Below.{all_below_lem}
use Rattle.text.proofs.Bools.{both, joins, never}
use Rattle.text.proofs.Decimals.{decimal_value}
use Rattle.fields.specs.Fields.{all_numbers}
use Rattle.names.specs.Names.{name_count, name_at}
use Rattle.names.proofs.Rows.{row_found}
use Rattle.listing_reader.specs.ReadBack.{field_count}
use Rattle.editions.specs.Editions.{jumps, aimed, line_of, jumps_one, target_one}
use Rattle.editions.specs.Moves.{label_of, fields_named}
use Rattle.moved.proofs.Lines.{clean_field, clean_fields, clean_is}

-- ---- words, and their fields

-- the row of the table that has the name, and the numbers behind it
pub record Word : Type 0 where
  pub row : ℕ
  pub values : List ℕ

-- a jump, and the address it aims at
abbrev pub aims : Word → Bool
aims w = jumps w.row

abbrev pub aim_of : Word → ℕ
aim_of w = get_or w.values 2 0

-- its numbers as they are written
abbrev pub numerals : Word → List (List ℕ)
numerals w = map decimal w.values

-- the fields of the word of address a in edition 1, and of a word in edition 2
abbrev pub fields_one : ℕ → Word → List (List ℕ)
fields_one a w = decimal a ∷ name_at w.row ∷ numerals w

abbrev pub behind_name : Word → List (List ℕ)
behind_name w = pick (aims w) (aimed (label_of (aim_of w)) (numerals w)) (numerals w)

abbrev pub fields_aimed : Word → List (List ℕ)
fields_aimed w = name_at w.row ∷ behind_name w

abbrev pub fields_label : ℕ → List (List ℕ)
fields_label a = letters "label" ∷ label_of a ∷ []

-- as many numbers as the name has, each below 2^64, and a jump aims at one of n words
pub record Fine (n : ℕ) (w : Word) : Type 0 where
  pub known : w.row < name_count
  pub count : length w.values ≡ field_count w.row
  pub small : all_numbers (numerals w) ≡ true
  pub inside : aims w ≡ true → aim_of w < n

abbrev pub AllFine : ℕ → List Word → Type 0
AllFine n [] = Unit {0}
AllFine n (w ∷ ws) = Fine n w × AllFine n ws

-- the text of words from address a on, in edition 1
abbrev pub text_one : ℕ → List Word → List ℕ
text_one a [] = []
text_one a (w ∷ ws) = line_of (fields_one a w) ++ text_one (a + 1) ws

-- and in edition 2, with a label line before each of some addresses
abbrev pub text_two : List ℕ → ℕ → List Word → List ℕ
text_two targets a [] = []
text_two targets a (w ∷ ws) = pick (has a targets) (line_of (fields_label a)) [] ++ (line_of (fields_aimed w) ++ text_two targets (a + 1) ws)

-- the addresses that words aim at
abbrev pub aims_of : List Word → List ℕ
aims_of [] = []
aims_of (w ∷ ws) = pick (aims w) (aim_of w ∷ aims_of ws) (aims_of ws)

-- ---- numbers behind a name

-- a jump has three of them
pub jump_count : (row : ℕ) → row < name_count → jumps row ≡ true → field_count row ≡ 3
jump_count row h e = by (jumps row) e (all_below_lem name_count (λ k. not (jumps k) || eqb (field_count k) 3) refl row h)
  where
    by : (t : Bool) → t ≡ true → (not t || eqb (field_count row) 3) ≡ true → field_count row ≡ 3
    by true f g = eqb-true (field_count row) 3 g
    by false f g = never (sym f)

-- a list of three is its three places
three : {A : Type 0} (d : A) (xs : List A) → length xs ≡ 3 → get_or xs 0 d ∷ get_or xs 1 d ∷ get_or xs 2 d ∷ [] ≡ xs
three d [] e = absurd (omega arith)
three d (x ∷ []) e = absurd (omega arith)
three d (x ∷ y ∷ []) e = absurd (omega arith)
three d (x ∷ y ∷ z ∷ []) e = refl
three d (x ∷ y ∷ z ∷ v ∷ xs) e = absurd (omega arith)

pub three_fields : (fs : List (List ℕ)) → length fs ≡ 3 → get_or fs 0 [] ∷ get_or fs 1 [] ∷ get_or fs 2 [] ∷ [] ≡ fs
three_fields fs e = three [] fs e

pub three_values : {n : ℕ} (w : Word) → Fine n w → aims w ≡ true → get_or w.values 0 0 ∷ get_or w.values 1 0 ∷ aim_of w ∷ [] ≡ w.values
three_values w f e = three 0 w.values (f.count ∙ jump_count w.row f.known e)

-- the number in a place
pub value_at : (vs : List ℕ) (k : ℕ) → value (get_or (map decimal vs) k []) ≡ get_or vs k 0
value_at [] k = refl
value_at (v ∷ vs) zero = decimal_value v
value_at (v ∷ vs) (suc k) = value_at vs k

-- fields that are numbers are the texts of what they say
pub texts_back : (ns : List (List ℕ)) → all_numbers ns ≡ true → map decimal (map value ns) ≡ ns
texts_back [] e = refl
texts_back (n ∷ ns) e =
    let g = both (is_number n) (all_numbers ns) e in
    ap₂ (λ (x : List ℕ) (l : List (List ℕ)). x ∷ l) (number_text n g.0) (texts_back ns g.1)

-- ---- clean fields

-- numbers, names and labels are clean
pub clean_decimal : (n : ℕ) → clean_field (decimal n) ≡ true
clean_decimal n = clean_is (decimal n) (decimal_free tab n refl) (decimal_free line_feed n refl)

clean_numerals : (vs : List ℕ) → clean_fields (map decimal vs) ≡ true
clean_numerals [] = refl
clean_numerals (v ∷ vs) = joins (clean_field (decimal v)) (clean_fields (map decimal vs)) (clean_decimal v) (clean_numerals vs)

clean_name_lem : (row : ℕ) → row < name_count → clean_field (name_at row) ≡ true
clean_name_lem row h = all_below_lem name_count (λ k. clean_field (name_at k)) refl row h

pub clean_label : (a : ℕ) → clean_field (label_of a) ≡ true
clean_label a =
    clean_is (label_of a)
    (has_append tab (letters "L") (decimal a) refl (decimal_free tab a refl))
    (has_append line_feed (letters "L") (decimal a) refl (decimal_free line_feed a refl))

-- and so are lines made of them
pub clean_one : {n : ℕ} (a : ℕ) (w : Word) → Fine n w → clean_fields (fields_one a w) ≡ true
clean_one a w f =
    joins (clean_field (decimal a)) _ (clean_decimal a)
    (joins (clean_field (name_at w.row)) _ (clean_name_lem w.row f.known) (clean_numerals w.values))

pub clean_aimed : {n : ℕ} (w : Word) → Fine n w → clean_fields (fields_aimed w) ≡ true
clean_aimed w f =
    joins (clean_field (name_at w.row)) _ (clean_name_lem w.row f.known)
    (by (aims w) refl)
  where
    front : (k : ℕ) (vs : List ℕ) (t : List ℕ) → clean_field t ≡ true → clean_fields (take k (map decimal vs) ++ (t ∷ [])) ≡ true
    front zero vs t c = joins (clean_field t) true c refl
    front (suc k) [] t c = joins (clean_field t) true c refl
    front (suc k) (v ∷ vs) t c = joins (clean_field (decimal v)) _ (clean_decimal v) (front k vs t c)

    by : (t : Bool) → aims w ≡ t → clean_fields (pick t (aimed (label_of (aim_of w)) (numerals w)) (numerals w)) ≡ true
    by true e = front 2 w.values (label_of (aim_of w)) (clean_label (aim_of w))
    by false e = clean_numerals w.values

pub clean_label_line : (a : ℕ) → clean_fields (fields_label a) ≡ true
clean_label_line a = joins (clean_field (label_of a)) true (clean_label a) refl

-- ---- from the fields of edition 1 to those of edition 2

module _ {n : ℕ} (a : ℕ) (w : Word) (f : Fine n w) where
  -- the same jump, the same target, and so the fields of edition 2
  pub one_jumps : jumps_one (fields_one a w) ≡ aims w
  one_jumps = ap jumps (row_found w.row f.known)

  pub one_target : target_one (fields_one a w) ≡ aim_of w
  one_target = value_at w.values 2

  pub one_named : fields_named (fields_one a w) ≡ fields_aimed w
  one_named =
      ap₂ (λ (t : Bool) (k : ℕ). name_at w.row ∷ pick t (aimed (label_of k) (numerals w)) (numerals w)) one_jumps one_target
