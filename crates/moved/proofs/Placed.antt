-- A text of edition 2 with which nothing is wrong moves to the text of words: each label means one of them.
-- Assumes nothing.
use Prim.Native.Nat.{ℕ, suc, ◌+◌, ◌≤◌, ◌<◌}
use mathlib.Core.Path.{◌≡◌, refl, sym, ap, ap₂, subst, subst₂, ◌∙◌}
use mathlib.Core.Bool.{Bool, true, false, not, ◌||◌}
use mathlib.Core.List.{List, [], ◌∷◌, ◌++◌}
use native.Mathlib.Omega.{arith}
use native.Mathlib.Nat.{zero-add}
use lib.ListN.{length}
use Rattle.instruction.specs.Bits.{pick}
use Rattle.text.specs.Cut.{Row, fields_in, same_text}
use Rattle.text.specs.Number.{numbers}
use Rattle.text.proofs.Bools.{never}
use Rattle.listing.specs.Listing.{head_of}
use Rattle.listing_reader.specs.ReadBack.{is_edition, rows_behind}
use Rattle.label.specs.Label.{among}
use Rattle.editions.specs.Editions.{line_of, is_label_line, label_in, target_two, have_word, number_two}
use Rattle.editions.specs.Moves.{refused_at, Definition, defined_from, labels_of, meaning_in, labels_past, judged_two, labels_judged, addressed_from, addressed}
use Rattle.moved.proofs.Words.{Word, AllFine, text_one}
use Rattle.moved.proofs.Labels.{judged_good, defined_label, defined_word, addressed_none, addressed_label, addressed_word}
use Rattle.moved.proofs.One.{not_zero}
use Rattle.moved.proofs.Said.{good_label, good_word, word_of}

-- ---- what labels mean

-- how many lines are no label lines
abbrev word_count : List Row → ℕ
word_count [] = 0
word_count (row ∷ rows) = pick (is_label_line (fields_in row)) (word_count rows) (suc (word_count rows))

-- there are no more words than lines
count_few : (rows : List Row) → word_count rows ≤ length rows
count_few [] = omega arith
count_few (row ∷ rows) = by (is_label_line (fields_in row)) (count_few rows)
  where
    by : (t : Bool) → word_count rows ≤ length rows → pick t (word_count rows) (suc (word_count rows)) ≤ suc (length rows)
    by true h = omega arith
    by false h = omega arith

-- where a word follows, there is one
have_some : (rows : List Row) → have_word rows ≡ true → 0 < word_count rows
have_some [] e = never (sym e)
have_some (row ∷ rows) e = by (is_label_line (fields_in row)) e (have_some rows)
  where
    by : (t : Bool) → (not t || have_word rows) ≡ true → (have_word rows ≡ true → 0 < word_count rows) → 0 < pick t (word_count rows) (suc (word_count rows))
    by true f ih = ih f
    by false f ih = omega arith

-- what a name means, where it is defined, is below a bound
abbrev Below : List ℕ → List Definition → ℕ → Type 0
Below name ds k = among name (labels_of ds) ≡ true → meaning_in ds name < k

-- one definition more
below_more : (name : List ℕ) (d : Definition) (ds : List Definition) (k : ℕ) → d.means < k → Below name ds k → Below name (d ∷ ds) k
below_more name d ds k h b = by (same_text d.called name)
  where
    by : (t : Bool) → (t || among name (labels_of ds)) ≡ true → pick t d.means (meaning_in ds name) < k
    by true e = h
    by false e = b e

-- a label of good lines means one of their words
means_below : (labels before : List (List ℕ)) (line a : ℕ) (rows : List Row) → (judged_two labels before line rows).number ≡ 0
    → (name : List ℕ) → Below name (defined_from a rows) (a + word_count rows)
means_below labels before line a [] z name = λ e. never (sym e)
means_below labels before line a (row ∷ rows) z name =
    let g = judged_good labels before line row rows z in
    by (is_label_line (fields_in row)) refl g.0
    (λ b. means_below labels (labels_past row before) (line + 1) b rows g.1 name)
  where
    up : (a k : ℕ) → a + 1 + k ≡ a + suc k
    up a k = omega arith

    by : (t : Bool) → is_label_line (fields_in row) ≡ t → number_two labels before rows row ≡ 0
        → ((b : ℕ) → Below name (defined_from b rows) (b + word_count rows)) → Below name (defined_from a (row ∷ rows)) (a + word_count (row ∷ rows))
    by true f n ih =
        let g = good_label labels before rows row n f in
        let some = have_some rows g.1 in
        subst₂ (λ (ds : List Definition) (k : ℕ). Below name ds (a + k))
        (sym (defined_label a row rows g.0))
        (sym (ap (λ (t : Bool). pick t (word_count rows) (suc (word_count rows))) f))
        (below_more name (record { called = label_in (fields_in row); means = a }) (defined_from a rows) (a + word_count rows) (omega arith) (ih a))
    by false f n ih =
        subst₂ (λ (ds : List Definition) (k : ℕ). Below name ds k)
        (sym (defined_word a row rows f))
        (up a (word_count rows) ∙ ap (λ (t : Bool). a + pick t (word_count rows) (suc (word_count rows))) (sym f))
        (ih (a + 1))

-- ---- good lines, one after the other

-- the words that lines from address a on move to
record Placed (ds : List Definition) (n a : ℕ) (rows : List Row) : Type 0 where
  words : List Word
  fine : AllFine n words
  size : length words ≡ word_count rows
  same : addressed_from ds a rows ≡ text_one a words

-- each label line is left out, and each other line is that of a word
lines_move : (labels : List (List ℕ)) (ds : List Definition) (n : ℕ) → n ≤ numbers → ((name : List ℕ) → among name labels ≡ true → meaning_in ds name < n)
    → (before : List (List ℕ)) (line a : ℕ) (rows : List Row) → (judged_two labels before line rows).number ≡ 0 → Placed ds n a rows
lines_move labels ds n few m before line a [] z = record { words = []; fine = tt; size = refl; same = addressed_none ds a }
lines_move labels ds n few m before line a (row ∷ rows) z =
    let g = judged_good labels before line row rows z in
    by (is_label_line (fields_in row)) refl g.0 (λ b. lines_move labels ds n few m (labels_past row before) (line + 1) b rows g.1)
  where
    by : (t : Bool) → is_label_line (fields_in row) ≡ t → number_two labels before rows row ≡ 0 → ((b : ℕ) → Placed ds n b rows) → Placed ds n a (row ∷ rows)
    by true f q ih =
        record {
          words = (ih a).words;
          fine = (ih a).fine;
          size = (ih a).size ∙ sym (ap (λ (t : Bool). pick t (word_count rows) (suc (word_count rows))) f);
          same = addressed_label ds a row rows f ∙ (ih a).same;
        }
    by false f q ih =
        let g = good_word labels before rows row q f in
        let r = word_of ds n a few (fields_in row) g.known g.shaped (λ e. m (target_two (fields_in row)) (g.aim e)) in
        record {
          words = r.word ∷ (ih (a + 1)).words;
          fine = (r.fine, (ih (a + 1)).fine);
          size = ap suc (ih (a + 1)).size ∙ sym (ap (λ (t : Bool). pick t (word_count rows) (suc (word_count rows))) f);
          same = addressed_word ds a row rows f ∙ ap₂ (λ (fs : List (List ℕ)) (l : List ℕ). line_of fs ++ l) r.fields (ih (a + 1)).same;
        }

-- ---- a text

-- words whose text this moves to
pub record Backs (text : List ℕ) : Type 0 where
  pub words : List Word
  pub fine : AllFine (length words) words
  pub few : length words ≤ length (rows_behind 2 text)
  pub same : addressed text ≡ head_of 1 ++ text_one 0 words

-- a good text moves to the text of its words
pub two_text : (text : List ℕ) → length (rows_behind 2 text) ≤ numbers → (labels_judged text).number ≡ 0 → Backs text
unfolding labels_judged addressed
two_text text h z = by (is_edition 2 text) z
  where
    by : (t : Bool) → (pick t (judged_two (labels_of (defined_from 0 (rows_behind 2 text))) [] 2 (rows_behind 2 text)) (refused_at 60 1)).number ≡ 0 → Backs text
    by false g = not_zero 59 g
    by true g =
        let rows = rows_behind 2 text in
        let ds = defined_from 0 rows in
        let few = count_few rows in
        let m = lines_move (labels_of ds) ds (word_count rows) (omega arith)
        (λ name e. subst (λ (k : ℕ). meaning_in ds name < k) (zero-add (word_count rows)) (means_below (labels_of ds) [] 2 0 rows g name e)) [] 2 0 rows g in
        record {
          words = m.words;
          fine = subst (λ (k : ℕ). AllFine k m.words) (sym m.size) m.fine;
          few = subst (λ (k : ℕ). k ≤ length rows) (sym m.size) few;
          same = ap (λ (l : List ℕ). head_of 1 ++ l) m.same;
        }
