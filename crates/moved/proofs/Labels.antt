-- Laws of edition 2, line by line: what is defined, what is judged, and what is written with addresses.
-- Assumes nothing.
use Prim.Native.Nat.{ℕ, ◌+◌}
use mathlib.Core.Path.{◌≡◌, refl, sym, ap, ◌∙◌}
use mathlib.Core.Bool.{Bool, true, false, ◌&&◌}
use mathlib.Core.List.{List, [], ◌∷◌, ◌++◌}
use native.Mathlib.Decide.{ℕ_discrete}
use borrow.Author.Tests.{eq-eqb, ne_eqb}
use Rattle.instruction.specs.Bits.{pick}
use Rattle.text.specs.Cut.{Row, fields_in}
use Rattle.editions.specs.Editions.{line_of, is_label_line, label_in, is_shaped_two, defines, number_two}
use Rattle.editions.specs.Moves.{refused_at, moved, Definition, defined_from, labels_past, judged_two, fields_placed, addressed_from}
use Rattle.editions.specs.declared.Moved.{Moved}

-- ---- judged

module _ (labels before : List (List ℕ)) (line : ℕ) where
  -- no line, nothing wrong
  pub judged_none : judged_two labels before line [] ≡ moved 0
  unfolding judged_two
  judged_none = refl

  module _ (row : Row) (rows : List Row) where
    abbrev number : ℕ
    number = number_two labels before rows row

    -- a good line is passed, and its label is then one of those before
    pub judged_next : number ≡ 0 → judged_two labels before line (row ∷ rows) ≡ judged_two labels (labels_past row before) (line + 1) rows
    unfolding judged_two
    judged_next e = ap (λ (t : Bool). pick t (judged_two labels (labels_past row before) (line + 1) rows) (refused_at number line)) (eq-eqb number 0 e)

    -- a bad line is told
    judged_bad : (number ≡ 0 → ⊥) → judged_two labels before line (row ∷ rows) ≡ refused_at number line
    unfolding judged_two
    judged_bad e = ap (λ (t : Bool). pick t (judged_two labels (labels_past row before) (line + 1) rows) (refused_at number line)) (ne_eqb number 0 e)

    -- where nothing is wrong with lines, nothing is with the first and with the rest
    pub judged_good : (judged_two labels before line (row ∷ rows)).number ≡ 0 → (number ≡ 0) × ((judged_two labels (labels_past row before) (line + 1) rows).number ≡ 0)
    judged_good z = by (ℕ_discrete number 0)
      where
        by : Dec (number ≡ 0) → (number ≡ 0) × ((judged_two labels (labels_past row before) (line + 1) rows).number ≡ 0)
        by (yes p) = (p, sym (ap (λ (m : Moved). m.number) (judged_next p)) ∙ z)
        by (no p) = absurd (p (sym (ap (λ (m : Moved). m.number) (judged_bad p)) ∙ z))

-- ---- defined

module _ (a : ℕ) (row : Row) (rows : List Row) where
  -- a label line defines its label at the address of the next word
  pub defined_label : defines row ≡ true → defined_from a (row ∷ rows) ≡ record { called = label_in (fields_in row); means = a } ∷ defined_from a rows
  defined_label e =
      ap (λ (t : Bool). pick t (record { called = label_in (fields_in row); means = a } ∷ defined_from a rows) (pick (is_label_line (fields_in row)) (defined_from a rows) (defined_from (a + 1) rows))) e

  -- any other line is a word, and the next word has the next address
  pub defined_word : is_label_line (fields_in row) ≡ false → defined_from a (row ∷ rows) ≡ defined_from (a + 1) rows
  defined_word e =
      ap (λ (t : Bool). pick (t && is_shaped_two row.ended (fields_in row)) (record { called = label_in (fields_in row); means = a } ∷ defined_from a rows) (pick t (defined_from a rows) (defined_from (a + 1) rows))) e

-- ---- written with addresses

module _ (ds : List Definition) (a : ℕ) where
  -- of no line nothing is written
  pub addressed_none : addressed_from ds a [] ≡ []
  unfolding addressed_from
  addressed_none = refl

  module _ (row : Row) (rows : List Row) where
    -- a label line is left out
    pub addressed_label : is_label_line (fields_in row) ≡ true → addressed_from ds a (row ∷ rows) ≡ addressed_from ds a rows
    unfolding addressed_from
    addressed_label e = ap (λ (t : Bool). pick t (addressed_from ds a rows) (line_of (fields_placed ds a (fields_in row)) ++ addressed_from ds (a + 1) rows)) e

    -- any other line is written with its address
    pub addressed_word : is_label_line (fields_in row) ≡ false → addressed_from ds a (row ∷ rows) ≡ line_of (fields_placed ds a (fields_in row)) ++ addressed_from ds (a + 1) rows
    unfolding addressed_from
    addressed_word e = ap (λ (t : Bool). pick t (addressed_from ds a rows) (line_of (fields_placed ds a (fields_in row)) ++ addressed_from ds (a + 1) rows)) e
