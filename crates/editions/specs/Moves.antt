-- Moving a listing from one edition to the other. Document 02, CR 7: "Moving edition 1 to 2 names each target `L` and its address. Moving 2 to 1
-- takes any labels"; "after 60 to 63 on the first bad line, then 64; nothing written".
use Rattle.std.specs.Prelude.{ℕ, ◌+◌, ◌≡◌, List, [], ◌∷◌, ◌++◌, map, ltb, eqb, length, drop}
use Rattle.instruction.specs.Bits.{pick}
use Rattle.text.specs.Cut.{Row, fields_in, has, same_text}
use Rattle.text.specs.Line.{letters, decimal}
use Rattle.listing.specs.Listing.{head_of}
use Rattle.listing_reader.specs.ReadBack.{name_in, numbers_in, is_edition, rows_behind}
use Rattle.editions.specs.Editions.{aimed, line_of, jumps_one, target_one, number_one, name_two, fields_two, is_label_line, label_in, jumps_two, target_two, defines, number_two}
use Rattle.editions.specs.declared.Moved.{Moved}

-- ---- what is told

-- "number, line, how many bytes"; after a refusal there are none
abbrev pub refused_at : ℕ → ℕ → Moved
refused_at number line = record { number = number; line = line; size = 0 }

abbrev pub moved : ℕ → Moved
moved size = record { number = 0; line = 0; size = size }

-- "64 last of all, with line 0", after what was said of the lines
abbrev pub told_of : ℕ → Moved → List ℕ → Moved
told_of room judged text = pick (eqb judged.number 0) (pick (ltb room (length text)) (refused_at 64 0) (moved (length text))) judged

-- what a move answers, and what it leaves in the buffer: "whole or not at all"
pub record Moves (judged : Moved) (text before after : List ℕ) (r : Moved) : Type 0 where
  pub answer : r ≡ told_of (length before) judged text
  pub bytes : after ≡ pick (eqb r.number 0) (text ++ drop (length text) before) before

-- ---- from edition 1 to 2

-- the first bad line, n being how many lines there are, from the line of address a on; the header is line 1
unfoldable pub judged_one : ℕ → ℕ → List Row → Moved
judged_one n a [] = moved 0
judged_one n a (row ∷ rows) = pick (eqb (number_one n a row) 0) (judged_one n (a + 1) rows) (refused_at (number_one n a row) (a + 2))

unfoldable pub lines_judged : List ℕ → Moved
lines_judged text = pick (is_edition 1 text) (judged_one (length (rows_behind 1 text)) 0 (rows_behind 1 text)) (refused_at 60 1)

-- the targets of jumps
abbrev pub targets_in : List Row → List ℕ
targets_in [] = []
targets_in (row ∷ rows) = pick (jumps_one (fields_in row)) (target_one (fields_in row) ∷ targets_in rows) (targets_in rows)

-- "names each target `L` and its address"
abbrev pub label_of : ℕ → List ℕ
label_of a = letters "L" ++ decimal a

abbrev pub label_line : ℕ → List ℕ
label_line a = line_of (letters "label" ∷ label_of a ∷ [])

-- "drops the address field", and a target is named
abbrev pub fields_named : List (List ℕ) → List (List ℕ)
fields_named fs = name_in fs ∷ pick (jumps_one fs) (aimed (label_of (target_one fs)) (numbers_in fs)) (numbers_in fs)

-- lines from the one of address a on, a label line before each target
unfoldable pub labelled_from : List ℕ → ℕ → List Row → List ℕ
labelled_from targets a [] = []
labelled_from targets a (row ∷ rows) = pick (has a targets) (label_line a) [] ++ (line_of (fields_named (fields_in row)) ++ labelled_from targets (a + 1) rows)

unfoldable pub labelled : List ℕ → List ℕ
labelled text = head_of 2 ++ labelled_from (targets_in (rows_behind 1 text)) 0 (rows_behind 1 text)

abbrev pub ToLabels : List ℕ → List ℕ → List ℕ → Moved → Type 0
ToLabels text before after r = Moves (lines_judged text) (labelled text) before after r

-- ---- from edition 2 to 1

-- a label, and the address of the word it means
pub record Definition : Type 0 where
  pub called : List ℕ
  pub means : ℕ

-- what the lines from address a on define: "before the word meant"
abbrev pub defined_from : ℕ → List Row → List Definition
defined_from a [] = []
defined_from a (row ∷ rows) =
    pick (defines row) (record { called = label_in (fields_in row); means = a } ∷ defined_from a rows)
    (pick (is_label_line (fields_in row)) (defined_from a rows) (defined_from (a + 1) rows))

abbrev pub labels_of : List Definition → List (List ℕ)
labels_of ds = map (λ (d : Definition). d.called) ds

-- what a label means, by its first definition
abbrev pub meaning_in : List Definition → List ℕ → ℕ
meaning_in [] name = 0
meaning_in (d ∷ ds) name = pick (same_text d.called name) d.means (meaning_in ds name)

-- the labels before the next line
abbrev pub labels_past : Row → List (List ℕ) → List (List ℕ)
labels_past row before = pick (is_label_line (fields_in row)) (label_in (fields_in row) ∷ before) before

-- the first bad line, from a line on, by the labels of the text and those before
unfoldable pub judged_two : List (List ℕ) → List (List ℕ) → ℕ → List Row → Moved
judged_two labels before line [] = moved 0
judged_two labels before line (row ∷ rows) =
    pick (eqb (number_two labels before rows row) 0) (judged_two labels (labels_past row before) (line + 1) rows) (refused_at (number_two labels before rows row) line)

unfoldable pub labels_judged : List ℕ → Moved
labels_judged text = pick (is_edition 2 text) (judged_two (labels_of (defined_from 0 (rows_behind 2 text))) [] 2 (rows_behind 2 text)) (refused_at 60 1)

-- the address field again, and a target's address for its label
abbrev pub fields_placed : List Definition → ℕ → List (List ℕ) → List (List ℕ)
fields_placed ds a fs = decimal a ∷ name_two fs ∷ pick (jumps_two fs) (aimed (decimal (meaning_in ds (target_two fs))) (fields_two fs)) (fields_two fs)

-- lines from address a on, without the label lines
unfoldable pub addressed_from : List Definition → ℕ → List Row → List ℕ
addressed_from ds a [] = []
addressed_from ds a (row ∷ rows) =
    pick (is_label_line (fields_in row)) (addressed_from ds a rows) (line_of (fields_placed ds a (fields_in row)) ++ addressed_from ds (a + 1) rows)

unfoldable pub addressed : List ℕ → List ℕ
addressed text = head_of 1 ++ addressed_from (defined_from 0 (rows_behind 2 text)) 0 (rows_behind 2 text)

abbrev pub ToAddresses : List ℕ → List ℕ → List ℕ → Moved → Type 0
ToAddresses text before after r = Moves (labels_judged text) (addressed text) before after r
