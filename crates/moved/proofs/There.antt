-- The text of words in edition 1 is good, and moves to the text of the same words in edition 2.
-- Assumes nothing.
use Prim.Native.Nat.{ℕ, suc, ◌+◌, ◌≤◌}
use mathlib.Core.Path.{◌≡◌, refl, ap, ap₂, ◌∙◌}
use mathlib.Core.Bool.{Bool}
use mathlib.Core.List.{List, [], ◌∷◌, ◌++◌}
use native.Mathlib.Omega.{arith}
use lib.ListN.{length}
use Rattle.instruction.specs.Bits.{pick}
use Rattle.text.specs.Cut.{Row, rows_in, fields_in, has}
use Rattle.text.specs.Line.{decimal}
use Rattle.text.specs.Number.{numbers}
use Rattle.names.specs.Names.{name_at}
use Rattle.listing.specs.Listing.{head_of}
use Rattle.listing_reader.specs.ReadBack.{rows_behind}
use Rattle.editions.specs.Editions.{line_of, jumps_one, target_one}
use Rattle.editions.specs.Moves.{refused_at, moved, judged_one, lines_judged, targets_in, label_line, fields_named, labelled_from, labelled}
use Rattle.moved.proofs.Lines.{row_of, fields_again, line_again, edition_again, behind_again}
use Rattle.moved.proofs.Words.{Word, aims, aim_of, numerals, fields_one, Fine, AllFine, text_one, text_two, aims_of, clean_one, one_jumps, one_target, one_named}
use Rattle.moved.proofs.One.{one_good, judged_next, judged_none}

-- ---- a word's line

module _ {n : ℕ} (a : ℕ) (w : Word) (f : Fine n w) where
  -- its fields and its line are cut out again
  fields_one_lem : fields_in (row_of (fields_one a w)) ≡ fields_one a w
  fields_one_lem = fields_again (decimal a) (name_at w.row ∷ numerals w) (clean_one a w f)

  rows_one : (ws : List Word) → rows_in (text_one a (w ∷ ws)) ≡ row_of (fields_one a w) ∷ rows_in (text_one (a + 1) ws)
  rows_one ws = line_again (decimal a) (name_at w.row ∷ numerals w) (text_one (a + 1) ws) (clean_one a w f)

-- ---- lines, one after the other

-- as many lines as words
count_words : (n a : ℕ) (ws : List Word) → AllFine n ws → length (rows_in (text_one a ws)) ≡ length ws
count_words n a [] f = refl
count_words n a (w ∷ ws) f = ap length (rows_one a w f.0 ws) ∙ ap suc (count_words n (a + 1) ws f.1)

-- nothing is wrong with them
judged_words : (n a : ℕ) (ws : List Word) → AllFine n ws → a + length ws ≤ numbers → judged_one n a (rows_in (text_one a ws)) ≡ moved 0
judged_words n a [] f h = judged_none n a
judged_words n a (w ∷ ws) f h =
    ap (judged_one n a) (rows_one a w f.0 ws)
    ∙ judged_next n a (row_of (fields_one a w)) (rows_in (text_one (a + 1) ws)) (one_good a (omega arith) w f.0)
    ∙ judged_words n (a + 1) ws f.1 (omega arith)

-- their targets are what the words aim at
targets_words : (n a : ℕ) (ws : List Word) → AllFine n ws → targets_in (rows_in (text_one a ws)) ≡ aims_of ws
targets_words n a [] f = refl
targets_words n a (w ∷ ws) f =
    let ts = targets_in (rows_in (text_one (a + 1) ws)) in
    ap targets_in (rows_one a w f.0 ws)
    ∙ ap (λ (fs : List (List ℕ)). pick (jumps_one fs) (target_one fs ∷ ts) ts) (fields_one_lem a w f.0)
    ∙ ap₂ (λ (t : Bool) (k : ℕ). pick t (k ∷ ts) ts) (one_jumps a w f.0) (one_target a w f.0)
    ∙ ap (λ (l : List ℕ). pick (aims w) (aim_of w ∷ l) l) (targets_words n (a + 1) ws f.1)

-- of no line nothing is written, and of a line what edition 2 has of it
labelled_none : (targets : List ℕ) (a : ℕ) → labelled_from targets a [] ≡ []
unfolding labelled_from
labelled_none targets a = refl

labelled_next : (targets : List ℕ) (a : ℕ) (row : Row) (rows : List Row)
    → labelled_from targets a (row ∷ rows) ≡ pick (has a targets) (label_line a) [] ++ (line_of (fields_named (fields_in row)) ++ labelled_from targets (a + 1) rows)
unfolding labelled_from
labelled_next targets a row rows = refl

-- so they move to the lines of the same words
labelled_words : (n : ℕ) (targets : List ℕ) (a : ℕ) (ws : List Word) → AllFine n ws → labelled_from targets a (rows_in (text_one a ws)) ≡ text_two targets a ws
labelled_words n targets a [] f = labelled_none targets a
labelled_words n targets a (w ∷ ws) f =
    ap (labelled_from targets a) (rows_one a w f.0 ws)
    ∙ labelled_next targets a (row_of (fields_one a w)) (rows_in (text_one (a + 1) ws))
    ∙ ap₂ (λ (fs : List (List ℕ)) (l : List ℕ). pick (has a targets) (label_line a) [] ++ (line_of fs ++ l))
    (ap fields_named (fields_one_lem a w f.0) ∙ one_named a w f.0)
    (labelled_words n targets (a + 1) ws f.1)

-- ---- a text

module _ (ws : List Word) (f : AllFine (length ws) ws) where
  rows : rows_behind 1 (head_of 1 ++ text_one 0 ws) ≡ rows_in (text_one 0 ws)
  rows = behind_again 1 (text_one 0 ws)

  -- nothing is wrong with it
  pub words_judged : length ws ≤ numbers → lines_judged (head_of 1 ++ text_one 0 ws) ≡ moved 0
  unfolding lines_judged
  words_judged h =
      ap₂ (λ (t : Bool) (l : List Row). pick t (judged_one (length l) 0 l) (refused_at 60 1)) (edition_again 1 (text_one 0 ws)) rows
      ∙ ap (λ (n : ℕ). judged_one n 0 (rows_in (text_one 0 ws))) (count_words (length ws) 0 ws f)
      ∙ judged_words (length ws) 0 ws f (omega arith)

  -- what it moves to
  pub words_labelled : labelled (head_of 1 ++ text_one 0 ws) ≡ head_of 2 ++ text_two (aims_of ws) 0 ws
  unfolding labelled
  words_labelled =
      ap (λ (l : List Row). head_of 2 ++ labelled_from (targets_in l) 0 l) rows
      ∙ ap (λ (ts : List ℕ). head_of 2 ++ labelled_from ts 0 (rows_in (text_one 0 ws))) (targets_words (length ws) 0 ws f)
      ∙ ap (λ (l : List ℕ). head_of 2 ++ l) (labelled_words (length ws) (aims_of ws) 0 ws f)
