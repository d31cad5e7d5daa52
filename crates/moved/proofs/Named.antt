-- Lines of words in edition 2: a label line defines its label, and a word's line is good where its label is defined.
-- Assumes nothing.
use Prim.Native.Nat.{ℕ, zero, suc, ◌≤◌, ◌<◌}
use mathlib.Core.Path.{◌≡◌, refl, sym, ap, ap₂, ◌∙◌}
use mathlib.Core.Bool.{Bool, true, false, not, ◌||◌, ◌&&◌}
use mathlib.Core.List.{List, [], ◌∷◌, ◌++◌, map}
use native.Mathlib.Omega.{arith}
use borrow.Author.Tests.{le-leb, lt-ltb, eq-eqb, not-true}
use lib.Dec.{eqb, leb, ltb}
use lib.ListN.{length, get_or, take, drop, length-map}
use Rattle.instruction.specs.Bits.{pick}
use Rattle.text.specs.Cut.{Row, rows_in, fields_in, same_text}
use Rattle.text.specs.Line.{letters, decimal}
use Rattle.text.specs.Number.{value, is_number, is_digit, all_digits}
use Rattle.text.proofs.Alike.{same_text_lem}
use Rattle.text.proofs.Below.{all_below_lem}
use Rattle.text.proofs.Bools.{both, joins, and_false}
use Rattle.text.proofs.Decimals.{decimal_value, decimal_digits}
use Rattle.page.proofs.Decimal.{decimal_short}
use Rattle.fields.specs.Fields.{all_numbers}
use Rattle.names.specs.Names.{name_count, name_at, row_named}
use Rattle.names.proofs.Rows.{row_found}
use Rattle.listing_reader.specs.ReadBack.{field_count}
use Rattle.label.specs.Label.{is_letter, is_label, all_label_bytes, label_size, among}
use Rattle.editions.specs.Editions.{jumps, target_of, aimed, line_of, name_two, fields_two, is_label_line, label_in, is_known_two, jumps_two, target_two, has_fields_two, is_shaped_two, defines, have_word, label_number, word_number, fields_number_two, number_two}
use Rattle.editions.specs.Moves.{label_of, Definition, meaning_in, fields_placed}
use Rattle.moved.specs.Moved.{named_lines}
use Rattle.moved.proofs.Lines.{row_of, fields_again, line_again}
use Rattle.moved.proofs.Words.{Word, aims, aim_of, numerals, fields_one, behind_name, fields_aimed, fields_label, Fine, three_values, jump_count, clean_aimed, clean_label_line}

-- ---- labels of addresses

-- digits are bytes of a label
digits_label : (bs : List ℕ) → all_digits bs ≡ true → all_label_bytes bs ≡ true
digits_label [] e = refl
digits_label (b ∷ bs) e =
    let g = both (is_digit b) (all_digits bs) e in
    joins _ (all_label_bytes bs) (ap (λ (t : Bool). t || is_letter b) g.0) (digits_label bs g.1)

-- `L` and an address are a label
pub label_is : (a : ℕ) → a < named_lines → is_label (label_of a) ≡ true
label_is a h =
    let s = decimal_short 14 a h in
    joins (leb 1 (suc (length (decimal a)))) _ (le-leb 1 (suc (length (decimal a))) (omega arith))
    (joins (leb (suc (length (decimal a))) label_size) (all_label_bytes (label_of a)) (le-leb (suc (length (decimal a))) label_size (omega arith)) (digits_label (decimal a) (decimal_digits a)))

-- two addresses have two labels
pub label_other : (a c : ℕ) → (a ≡ c → ⊥) → same_text (label_of a) (label_of c) ≡ false
label_other a c n = by (same_text (label_of a) (label_of c)) refl
  where
    by : (t : Bool) → same_text (label_of a) (label_of c) ≡ t → same_text (label_of a) (label_of c) ≡ false
    by false e = e
    by true e = absurd (n (sym (decimal_value a) ∙ ap (λ (l : List ℕ). value (drop 1 l)) (same_text_lem (label_of a) (label_of c) e) ∙ decimal_value c))

-- ---- a label line

module _ (a : ℕ) where
  -- its fields and its line are cut out again
  label_fields : fields_in (row_of (fields_label a)) ≡ fields_label a
  label_fields = fields_again (letters "label") (label_of a ∷ []) (clean_label_line a)

  pub label_row : (more : List ℕ) → rows_in (line_of (fields_label a) ++ more) ≡ row_of (fields_label a) ∷ rows_in more
  label_row more = line_again (letters "label") (label_of a ∷ []) more (clean_label_line a)

  -- it is a label line, with this label
  pub label_named : label_in (fields_in (row_of (fields_label a))) ≡ label_of a
  label_named = ap label_in label_fields

  pub label_line_lem : is_label_line (fields_in (row_of (fields_label a))) ≡ true
  label_line_lem = ap is_label_line label_fields

module _ (a : ℕ) (h : a < named_lines) where
  shaped_label : is_shaped_two true (fields_label a) ≡ true
  shaped_label = label_is a h

  -- it is well-shaped, and so defines the label
  pub label_defines : defines (row_of (fields_label a)) ≡ true
  label_defines = ap (λ (fs : List (List ℕ)). is_label_line fs && is_shaped_two true fs) (label_fields a) ∙ shaped_label

  -- it is good where the label is new and a word follows
  pub label_good : (labels before : List (List ℕ)) (rows : List Row) → among (label_of a) before ≡ false → have_word rows ≡ true
      → number_two labels before rows (row_of (fields_label a)) ≡ 0
  unfolding number_two
  label_good labels before rows e g =
      ap (fields_number_two labels before rows true) (label_fields a)
      ∙ ap (λ (t : Bool). pick (not t) 61 (label_number before rows (label_of a))) shaped_label
      ∙ ap₂ (λ (t u : Bool). pick t 65 (pick (not u) 66 0)) e g

-- ---- the line of a word

module _ {n : ℕ} (w : Word) (f : Fine n w) where
  -- its fields and its line are cut out again
  word_fields : fields_in (row_of (fields_aimed w)) ≡ fields_aimed w
  word_fields = fields_again (name_at w.row) (behind_name w) (clean_aimed w f)

  pub word_row : (more : List ℕ) → rows_in (line_of (fields_aimed w) ++ more) ≡ row_of (fields_aimed w) ∷ rows_in more
  word_row more = line_again (name_at w.row) (behind_name w) more (clean_aimed w f)

  -- no name is `label`
  not_label : is_label_line (fields_aimed w) ≡ false
  not_label = not-true _ (all_below_lem name_count (λ k. not (same_text (name_at k) (letters "label"))) refl w.row f.known)

  pub word_line : is_label_line (fields_in (row_of (fields_aimed w))) ≡ false
  word_line = ap is_label_line word_fields ∙ not_label

  -- its name is the one of its row
  found : row_named (name_at w.row) ≡ w.row
  found = row_found w.row f.known

  known_word : is_known_two (fields_aimed w) ≡ true
  known_word = ap (λ (k : ℕ). ltb k name_count) found ∙ lt-ltb w.row name_count f.known

  -- what stands behind the name of a jump
  module _ (e : aims w ≡ true) where
    abbrev engine : ℕ
    engine = get_or w.values 0 0

    abbrev write : ℕ
    write = get_or w.values 1 0

    -- engine select, write flag, and a target or its label
    jump_numerals : numerals w ≡ decimal engine ∷ decimal write ∷ decimal (aim_of w) ∷ []
    jump_numerals = ap (map decimal) (sym (three_values w f e))

    jump_fields : fields_aimed w ≡ name_at w.row ∷ decimal engine ∷ decimal write ∷ label_of (aim_of w) ∷ []
    jump_fields = ap₂ (λ (t : Bool) (ns : List (List ℕ)). name_at w.row ∷ pick t (aimed (label_of (aim_of w)) ns) ns) e jump_numerals

  -- what stands behind any other name
  plain_fields : aims w ≡ false → fields_aimed w ≡ name_at w.row ∷ numerals w
  plain_fields e = ap (λ (t : Bool). name_at w.row ∷ pick t (aimed (label_of (aim_of w)) (numerals w)) (numerals w)) e

  -- it has the fields of its name
  module _ (h : n ≤ named_lines) where
    -- whether it has them, by whether it is a jump
    abbrev has_by : Bool → List (List ℕ) → Bool
    has_by t fs = eqb (length (drop 1 fs)) (field_count w.row) && pick t (all_numbers (take 2 (drop 1 fs)) && is_label (target_of (drop 1 fs))) (all_numbers (drop 1 fs))

    has_two : has_fields_two w.row (behind_name w) ≡ true
    has_two = by (aims w) refl
      where
        front : (k : ℕ) (ns : List (List ℕ)) → all_numbers ns ≡ true → all_numbers (take k ns) ≡ true
        front zero ns e = refl
        front (suc k) [] e = refl
        front (suc k) (m ∷ ns) e =
            let g = both (is_number m) (all_numbers ns) e in
            joins (is_number m) (all_numbers (take k ns)) g.0 (front k ns g.1)

        by : (t : Bool) → aims w ≡ t → has_fields_two w.row (behind_name w) ≡ true
        by true e =
            let t : aim_of w < n = f.inside e in
            ap₂ has_by e (jump_fields e)
            ∙ joins (eqb 3 (field_count w.row)) _ (eq-eqb 3 (field_count w.row) (sym (jump_count w.row f.known e)))
            (joins (all_numbers (decimal (engine e) ∷ decimal (write e) ∷ [])) (is_label (label_of (aim_of w)))
            (ap (λ (ns : List (List ℕ)). all_numbers (take 2 ns)) (sym (jump_numerals e)) ∙ front 2 (numerals w) f.small)
            (label_is (aim_of w) (omega arith)))
        by false e =
            ap₂ has_by e (plain_fields e)
            ∙ joins (eqb (length (numerals w)) (field_count w.row)) (all_numbers (numerals w)) (eq-eqb _ _ (length-map w.values decimal ∙ f.count)) f.small

    -- it is well-shaped
    shaped_word : is_shaped_two true (fields_aimed w) ≡ true
    shaped_word =
        ap₂ (λ (t u : Bool). pick t (eqb (length (fields_aimed w)) 2 && is_label (label_in (fields_aimed w))) (not u || has_fields_two (row_named (name_at w.row)) (behind_name w)))
        not_label known_word
        ∙ ap (λ (k : ℕ). has_fields_two k (behind_name w)) found
        ∙ has_two

    -- it is good where the label of its target is defined
    pub word_good : (labels before : List (List ℕ)) (rows : List Row) → (aims w ≡ true → among (label_of (aim_of w)) labels ≡ true)
        → number_two labels before rows (row_of (fields_aimed w)) ≡ 0
    unfolding number_two
    word_good labels before rows d =
        ap (fields_number_two labels before rows true) word_fields
        ∙ ap₂ (λ (t u : Bool). pick (not t) 61 (pick (not (is_label_line (fields_aimed w) || u)) 63 (pick (is_label_line (fields_aimed w)) (label_number before rows (label_in (fields_aimed w))) (word_number labels (fields_aimed w)))))
        shaped_word known_word
        ∙ ap (λ (t : Bool). pick (not (t || true)) 63 (pick t (label_number before rows (label_in (fields_aimed w))) (word_number labels (fields_aimed w)))) not_label
        ∙ by (aims w) refl
      where
        by : (t : Bool) → aims w ≡ t → word_number labels (fields_aimed w) ≡ 0
        by true e =
            ap (λ (t : Bool). pick (jumps_two (fields_aimed w) && not t) 67 0) (ap (λ (fs : List (List ℕ)). among (target_two fs) labels) (jump_fields e) ∙ d e)
            ∙ ap (λ (t : Bool). pick t 67 0) (and_false (jumps_two (fields_aimed w)))
        by false e = ap (λ (t : Bool). pick (t && not (among (target_two (fields_aimed w)) labels)) 67 0) (ap jumps found ∙ e)

  -- its fields with the address again, where its label means its target
  pub word_placed : (ds : List Definition) (a : ℕ) → (aims w ≡ true → meaning_in ds (label_of (aim_of w)) ≡ aim_of w) → fields_placed ds a (fields_in (row_of (fields_aimed w))) ≡ fields_one a w
  word_placed ds a m = ap (fields_placed ds a) word_fields ∙ by (aims w) refl
    where
      by : (t : Bool) → aims w ≡ t → fields_placed ds a (fields_aimed w) ≡ fields_one a w
      by true e =
          ap₂ (λ (t : Bool) (fs : List (List ℕ)). decimal a ∷ name_two fs ∷ pick t (aimed (decimal (meaning_in ds (target_two fs))) (fields_two fs)) (fields_two fs))
          (ap jumps found ∙ e) (jump_fields e)
          ∙ ap (λ (k : ℕ). decimal a ∷ name_at w.row ∷ decimal (engine e) ∷ decimal (write e) ∷ decimal k ∷ []) (m e)
          ∙ ap (λ (ns : List (List ℕ)). decimal a ∷ name_at w.row ∷ ns) (sym (jump_numerals e))
      by false e =
          ap₂ (λ (t : Bool) (fs : List (List ℕ)). decimal a ∷ name_two fs ∷ pick t (aimed (decimal (meaning_in ds (target_two fs))) (fields_two fs)) (fields_two fs))
          (ap jumps found ∙ e) (plain_fields e)
