-- A line of edition 1 with which nothing is wrong is the line of a word, and the other way; and so is a text.
-- Assumes nothing.
use Prim.Native.Nat.{ℕ, suc, ◌+◌, ◌≤◌, ◌<◌}
use mathlib.Core.Path.{◌≡◌, refl, sym, ap, ap₂, subst, ◌∙◌}
use mathlib.Core.Bool.{Bool, true, false, not, ◌||◌, ◌&&◌}
use mathlib.Core.List.{List, [], ◌∷◌, ◌++◌, map, append_assoc}
use native.Mathlib.Omega.{arith}
use native.Mathlib.Decide.{ℕ_discrete}
use borrow.Author.Tests.{eq-eqb, ne_eqb, eqb-true, leb-true, leb-false, lt-leb, ltb-true}
use lib.Dec.{eqb, leb}
use lib.ListN.{length, get_or, take, drop, length-map, take-append-drop}
use Rattle.instruction.specs.Bits.{pick}
use Rattle.instruction.specs.Form.{filled}
use Rattle.text.specs.Cut.{tab, line_feed, cut, Row, rows_of, fields_in, joined}
use Rattle.text.specs.Line.{decimal}
use Rattle.text.specs.Number.{value, numbers, is_number}
use Rattle.text.proofs.Alike.{same_text_lem}
use Rattle.text.proofs.Back.{number_back, number_text}
use Rattle.text.proofs.Bools.{both, joins, never}
use Rattle.text.proofs.Cuts.{joined_cut}
use Rattle.text.proofs.Decimals.{decimal_value}
use Rattle.fields.specs.Fields.{all_numbers}
use Rattle.names.specs.Names.{name_count, name_at, row_named}
use Rattle.names.proofs.Rows.{row_found, named_has}
use Rattle.listing.specs.Listing.{head_of}
use Rattle.listing_reader.specs.ReadBack.{is_known, has_fields, shape_number, field_count, is_edition, rows_behind}
use Rattle.listing_reader.proofs.Fields.{has_fields_lem, fields_known, known_good}
use Rattle.editions.specs.Editions.{jumps_one, target_one, fields_number_one, number_one}
use Rattle.editions.specs.Moves.{refused_at, moved, judged_one, lines_judged}
use Rattle.editions.specs.declared.Moved.{Moved}
use Rattle.moved.proofs.Lines.{row_of, fields_again}
use Rattle.moved.proofs.Words.{Word, aims, aim_of, numerals, fields_one, Fine, AllFine, text_one, value_at, texts_back, clean_one, one_jumps, one_target}

-- ---- the line of a word is good

module _ {n : ℕ} (a : ℕ) (small : a < numbers) (w : Word) (f : Fine n w) where
  -- it has the fields of its name, each a number
  has_all : has_fields w.row (numerals w) ≡ true
  has_all =
      has_fields_lem w.row (numerals w) f.known
      ∙ joins (eqb (length (numerals w)) (field_count w.row)) (all_numbers (numerals w)) (eq-eqb _ _ (length-map w.values decimal ∙ f.count)) f.small

  -- its address counts, and its name is known
  shape_good : shape_number a true (fields_one a w) ≡ 0
  shape_good =
      let k = row_found w.row f.known in
      sym (fields_known a (decimal a) (name_at w.row) (numerals w) (number_back a small) (subst (λ (i : ℕ). i < name_count) (sym k) f.known))
      ∙ sym (known_good (row_named (name_at w.row)) (value (decimal a)) a (numerals w) (ap (λ (i : ℕ). has_fields i (numerals w)) k ∙ has_all) (decimal_value a))

  -- no jump aims past the last word
  not_past : (jumps_one (fields_one a w) && leb n (target_one (fields_one a w))) ≡ false
  not_past = ap₂ (λ (t : Bool) (k : ℕ). t && leb n k) (one_jumps a w f) (one_target a w f) ∙ by (aims w) refl
    where
      by : (t : Bool) → aims w ≡ t → (t && leb n (aim_of w)) ≡ false
      by true e = lt-leb n (aim_of w) (f.inside e)
      by false e = refl

  -- nothing is wrong with it
  pub one_good : number_one n a (row_of (fields_one a w)) ≡ 0
  unfolding number_one
  one_good =
      ap (fields_number_one n a true) (fields_again (decimal a) (name_at w.row ∷ numerals w) (clean_one a w f))
      ∙ ap₂ (λ (s : ℕ) (t : Bool). pick (filled s) s (pick t 21 0)) shape_good not_past

-- ---- a good line is the line of a word

-- no number that is given is 0
pub not_zero : {A : Type 0} (n : ℕ) → suc n ≡ 0 → A
not_zero n q = absurd (omega arith)

-- the number of a line, by the tests that it passes
abbrev shape_by : Bool → Bool → Bool → Bool → Bool → Bool → ℕ
shape_by e p q k s c = pick (not (e && (p && (q && (not k || s))))) 61 (pick (not c) 62 (pick (not k) 63 0))

abbrev number_by : ℕ → Bool → ℕ
number_by s t = pick (filled s) s (pick t 21 0)

record Good (n a : ℕ) (ended : Bool) (fs : List (List ℕ)) : Type 0 where
  ends : ended ≡ true
  address : is_number (get_or fs 0 []) ≡ true
  two : 2 ≤ length fs
  known : row_named (get_or fs 1 []) < name_count
  shaped : has_fields (row_named (get_or fs 1 [])) (drop 2 fs) ≡ true
  counted : value (get_or fs 0 []) ≡ a
  inside : (jumps_one fs && leb n (target_one fs)) ≡ false

-- what number 0 says of a line
good_fields : (n a : ℕ) (ended : Bool) (fs : List (List ℕ)) → fields_number_one n a ended fs ≡ 0 → Good n a ended fs
good_fields n a ended fs z =
    by ended refl (is_number (get_or fs 0 [])) refl (leb 2 (length fs)) refl (is_known fs) refl (has_fields (row_named (get_or fs 1 [])) (drop 2 fs)) refl
    (eqb (value (get_or fs 0 [])) a) refl (jumps_one fs && leb n (target_one fs)) refl z
  where
    by : (e : Bool) → ended ≡ e → (p : Bool) → is_number (get_or fs 0 []) ≡ p → (q : Bool) → leb 2 (length fs) ≡ q → (k : Bool) → is_known fs ≡ k
        → (s : Bool) → has_fields (row_named (get_or fs 1 [])) (drop 2 fs) ≡ s → (c : Bool) → eqb (value (get_or fs 0 [])) a ≡ c
        → (t : Bool) → (jumps_one fs && leb n (target_one fs)) ≡ t
        → number_by (shape_by e p q k s c) t ≡ 0 → Good n a ended fs
    by true e0 true e1 true e2 true e3 true e4 true e5 false e6 g =
        record {
          ends = e0;
          address = e1;
          two = leb-true 2 (length fs) e2;
          known = ltb-true (row_named (get_or fs 1 [])) name_count e3;
          shaped = e4;
          counted = eqb-true (value (get_or fs 0 [])) a e5;
          inside = e6;
        }
    by true e0 true e1 true e2 true e3 true e4 true e5 true e6 g = not_zero 20 g
    by true e0 true e1 true e2 true e3 true e4 false e5 t e6 g = not_zero 61 g
    by true e0 true e1 true e2 true e3 false e4 c e5 t e6 g = not_zero 60 g
    by true e0 true e1 true e2 false e3 s e4 true e5 t e6 g = not_zero 62 g
    by true e0 true e1 true e2 false e3 s e4 false e5 t e6 g = not_zero 61 g
    by true e0 true e1 false e2 k e3 s e4 c e5 t e6 g = not_zero 60 g
    by true e0 false e1 q e2 k e3 s e4 c e5 t e6 g = not_zero 60 g
    by false e0 p e1 q e2 k e3 s e4 c e5 t e6 g = not_zero 60 g

-- the word of such fields
pub record Reads (n a : ℕ) (fs : List (List ℕ)) : Type 0 where
  pub word : Word
  pub fine : Fine n word
  pub fields : fs ≡ fields_one a word

-- the name is that of its row, and the fields are the texts of their numbers
good_word : (n a : ℕ) (ended : Bool) (fs : List (List ℕ)) → Good n a ended fs → Reads n a fs
good_word n a ended [] g = absurd (omega (arith, g.two))
good_word n a ended (f ∷ []) g = absurd (omega (arith, g.two))
good_word n a ended (f ∷ m ∷ ns) g =
    let c = both (eqb (length ns) (field_count (row_named m))) (all_numbers ns) (sym (has_fields_lem (row_named m) ns g.known) ∙ g.shaped) in
    let texts = texts_back ns c.1 in
    let first : f ≡ decimal a = sym (number_text f g.address) ∙ ap decimal g.counted in
    record {
      word = record { row = row_named m; values = map value ns };
      fine =
          record {
            known = g.known;
            count = length-map ns value ∙ eqb-true (length ns) (field_count (row_named m)) c.0;
            small = ap all_numbers texts ∙ c.1;
            inside = λ e. subst (λ (k : ℕ). k < n) (ap (λ (l : List (List ℕ)). value (get_or l 2 [])) (sym texts) ∙ value_at (map value ns) 2)
                (leb-false n (target_one (f ∷ m ∷ ns)) (sym (ap (λ (t : Bool). t && leb n (target_one (f ∷ m ∷ ns))) e) ∙ g.inside));
          };
      fields = λ j. first j ∷ named_has m g.known j ∷ sym texts j;
    }

-- a good line has its line feed, and is the line of a word
pub one_word : (n a : ℕ) (row : Row) → number_one n a row ≡ 0 → (row.ended ≡ true) × Reads n a (fields_in row)
unfolding number_one
one_word n a row z =
    let g = good_fields n a row.ended (fields_in row) z in
    (g.ends, good_word n a row.ended (fields_in row) g)

-- ---- lines, one after the other

module _ (n a : ℕ) (row : Row) (rows : List Row) where
  -- a good line is passed
  pub judged_next : number_one n a row ≡ 0 → judged_one n a (row ∷ rows) ≡ judged_one n (a + 1) rows
  unfolding judged_one
  judged_next e = ap (λ (t : Bool). pick t (judged_one n (a + 1) rows) (refused_at (number_one n a row) (a + 2))) (eq-eqb (number_one n a row) 0 e)

  -- a bad line is told
  pub judged_bad : (number_one n a row ≡ 0 → ⊥) → judged_one n a (row ∷ rows) ≡ refused_at (number_one n a row) (a + 2)
  unfolding judged_one
  judged_bad e = ap (λ (t : Bool). pick t (judged_one n (a + 1) rows) (refused_at (number_one n a row) (a + 2))) (ne_eqb (number_one n a row) 0 e)

  -- where nothing is wrong with lines, nothing is with the first and with the rest
  judged_good : (judged_one n a (row ∷ rows)).number ≡ 0 → (number_one n a row ≡ 0) × ((judged_one n (a + 1) rows).number ≡ 0)
  judged_good z = by (ℕ_discrete (number_one n a row) 0)
    where
      by : Dec (number_one n a row ≡ 0) → (number_one n a row ≡ 0) × ((judged_one n (a + 1) rows).number ≡ 0)
      by (yes p) = (p, sym (ap (λ (m : Moved). m.number) (judged_next p)) ∙ z)
      by (no p) = absurd (p (sym (ap (λ (m : Moved). m.number) (judged_bad p)) ∙ z))

-- no line, nothing wrong
pub judged_none : (n a : ℕ) → judged_one n a [] ≡ moved 0
unfolding judged_one
judged_none n a = refl

-- words whose text this is
pub record WordsOf (n a : ℕ) (rows : List Row) (text : List ℕ) : Type 0 where
  pub words : List Word
  pub fine : AllFine n words
  pub size : length words ≡ length rows
  pub same : text ≡ text_one a words

-- pieces whose lines are all good
pieces_text : (n a : ℕ) (ps : List (List ℕ)) → (judged_one n a (rows_of ps)).number ≡ 0 → WordsOf n a (rows_of ps) (joined line_feed ps)
pieces_text n a [] z = record { words = []; fine = tt; size = refl; same = refl }
pieces_text n a ([] ∷ []) z = record { words = []; fine = tt; size = refl; same = refl }
pieces_text n a ((b ∷ bs) ∷ []) z =
    let row : Row = record { bytes = b ∷ bs; ended = false } in
    never (sym (one_word n a row (judged_good n a row [] z).0).0)
pieces_text n a (p ∷ q ∷ ps) z =
    let row : Row = record { bytes = p; ended = true } in
    let g = judged_good n a row (rows_of (q ∷ ps)) z in
    let r = (one_word n a row g.0).1 in
    let t = pieces_text n (a + 1) (q ∷ ps) g.1 in
    record {
      words = r.word ∷ t.words;
      fine = (r.fine, t.fine);
      size = ap suc t.size;
      same =
          sym (append_assoc p (line_feed ∷ []) (joined line_feed (q ∷ ps)))
          ∙ ap₂ (λ (x y : List ℕ). (x ++ (line_feed ∷ [])) ++ y) (sym (joined_cut tab p) ∙ ap (joined tab) r.fields) t.same;
    }

-- a text of edition 1 with which nothing is wrong is the text of words
pub one_text : (text : List ℕ) → (lines_judged text).number ≡ 0
    → (t : WordsOf (length (rows_behind 1 text)) 0 (rows_behind 1 text) (drop (length (head_of 1)) text)) × (text ≡ head_of 1 ++ text_one 0 t.words)
unfolding lines_judged
one_text text z = by (is_edition 1 text) refl z
  where
    by : (t : Bool) → is_edition 1 text ≡ t → (pick t (judged_one (length (rows_behind 1 text)) 0 (rows_behind 1 text)) (refused_at 60 1)).number ≡ 0
        → (t : WordsOf (length (rows_behind 1 text)) 0 (rows_behind 1 text) (drop (length (head_of 1)) text)) × (text ≡ head_of 1 ++ text_one 0 t.words)
    by false e g = absurd (omega (arith, g))
    by true e g =
        let t = pieces_text (length (rows_behind 1 text)) 0 (cut line_feed (drop (length (head_of 1)) text)) g in
        let same = sym (joined_cut line_feed (drop (length (head_of 1)) text)) ∙ t.same in (
          record { words = t.words; fine = t.fine; size = t.size; same = same },
          sym (take-append-drop (length (head_of 1)) text) ∙ ap₂ (λ (x y : List ℕ). x ++ y) (same_text_lem (take (length (head_of 1)) text) (head_of 1) e) same,
        )
