-- Laws of lines judged one after the other: doubles, words behind labels, and the number of a line by what was passed before it.
-- Assumes nothing.
use Prim.Native.Nat.{ℕ, suc, ◌+◌, ◌≤◌, ◌<◌}
use mathlib.Core.Path.{◌≡◌, refl, sym, ap, ap₂, ◌∙◌}
use mathlib.Core.Bool.{Bool, true, false, not, ◌||◌}
use mathlib.Core.List.{List, [], ◌∷◌}
use native.Mathlib.Omega.{arith}
use native.Mathlib.Decide.{ℕ_discrete, dec_lt}
use borrow.Author.Tests.{eq-eqb, ne_eqb, lt-ltb, le-ltb, ltb-true, ltb-false, le-leb, lt-leb, eqb-false}
use lib.Dec.{eqb, ltb, leb}
use lib.ListN.{length, get_or, drop, length-drop}
use Rattle.std.specs.Prelude.{Some}
use Rattle.instruction.specs.Bits.{pick}
use Rattle.instruction.specs.Form.{filled}
use Rattle.text.specs.Cut.{Row, row_at, fields_in, same_text}
use Rattle.text.proofs.Alike.{same_text_lem, same_self}
use Rattle.text.proofs.Bools.{never}
use Rattle.label.specs.Label.{among}
use Rattle.label.specs.First.{first_name, IsFirst}
use Rattle.label.proofs.Packed.{first_name_lem}
use Rattle.editions.specs.Editions.{is_label_line, label_in, is_shaped_two, is_known_two, defines, have_word, label_number, word_number, number_two}
use Rattle.editions.specs.Moves.{Definition, defined_from, labels_of}
use Rattle.editions.specs.Told.{shape_two}
use Rattle.to_addresses.specs.Moving.{rows_from, defined_in, word_count, Stands, Twice, label_number_at, number_at}
use Rattle.to_addresses.specs.declared.Known.{Known}
use Rattle.to_addresses.specs.declared.Passed.{Passed}
use Rattle.to_addresses.proofs.Keeping.{head_is}
use Rattle.to_addresses.proofs.Passing.{next_defined}
use Rattle.to_addresses.proofs.Seeking.{labels_length, label_at}

-- ---- labels before

-- whether a label is one of them, by where it stands first
pub among_first : (labels : List (List ℕ)) (l : List ℕ) → among l labels ≡ ltb (first_name labels l) (length labels)
among_first [] l = sym (le-ltb 0 0 (omega arith))
among_first (x ∷ xs) l = by (same_text x l) (among_first xs l)
  where
    by : (t : Bool) → among l xs ≡ ltb (first_name xs l) (length xs) → (t || among l xs) ≡ ltb (pick t 0 (suc (first_name xs l))) (suc (length xs))
    by true ih = sym (lt-ltb 0 (suc (length xs)) (omega arith))
    by false ih = ih ∙ again (dec_lt (first_name xs l) (length xs))
      where
        again : Dec (first_name xs l < length xs) → ltb (first_name xs l) (length xs) ≡ ltb (suc (first_name xs l)) (suc (length xs))
        again (yes h) = lt-ltb _ _ h ∙ sym (lt-ltb (suc (first_name xs l)) (suc (length xs)) (omega arith))
        again (no h) = le-ltb (first_name xs l) (length xs) (omega arith) ∙ sym (le-ltb (suc (first_name xs l)) (suc (length xs)) (omega arith))

-- the labels before are the first n
abbrev pub Before : List (List ℕ) → ℕ → List (List ℕ) → Type 0
Before labels n before = (l : List ℕ) → among l before ≡ ltb (first_name labels l) n

pub before_none : (labels : List (List ℕ)) → Before labels 0 []
before_none labels l = sym (le-ltb (first_name labels l) 0 (omega arith))

module _ (labels : List (List ℕ)) (n : ℕ) (x : List ℕ) (few : n < length labels) (is : get_or labels n [] ≡ x) where
  -- the first place of the label that is the n-th
  first_low : first_name labels x ≤ n
  first_low = by (dec_lt n (first_name labels x))
    where
      by : Dec (n < first_name labels x) → first_name labels x ≤ n
      by (yes l) = absurd ((first_name_lem labels x).none n l is)
      by (no l) = omega arith

  pub before_more : (before : List (List ℕ)) → Before labels n before → Before labels (n + 1) (x ∷ before)
  before_more before h l = ap (λ (t : Bool). same_text x l || t) (h l) ∙ by (ltb (first_name labels l) n) (same_text x l) refl refl
    where
      by : (s t : Bool) → ltb (first_name labels l) n ≡ s → same_text x l ≡ t → (t || s) ≡ ltb (first_name labels l) (n + 1)
      by true true p q = let m = ltb-true (first_name labels l) n p in sym (lt-ltb (first_name labels l) (n + 1) (omega arith))
      by true false p q = let m = ltb-true (first_name labels l) n p in sym (lt-ltb (first_name labels l) (n + 1) (omega arith))
      by false true p q =
          let m = first_low in
          let e = ap (first_name labels) (same_text_lem x l q) in
          sym (lt-ltb (first_name labels l) (n + 1) (omega (arith, m, e)))
      by false false p q = sym (le-ltb (first_name labels l) (n + 1) (far (ℕ_discrete (first_name labels l) n)))
        where
          far : Dec (first_name labels l ≡ n) → n + 1 ≤ first_name labels l
          far (yes e) = never (sym (ap (λ (y : List ℕ). same_text y l) (sym is ∙ ap (λ (i : ℕ). get_or labels i []) (sym e) ∙ (first_name_lem labels l).here (omega (arith, e, few))) ∙ same_self l) ∙ q)
          far (no e) = let m = ltb-false (first_name labels l) n p in omega arith

-- ---- doubles

module _ (text : List ℕ) (k : Known) (j : ℕ) (name : List ℕ) (h : Twice text k j name) where
  abbrev labels : List (List ℕ)
  labels = labels_of (defined_in text k.from)

  here : get_or (labels_of (defined_in text k.from)) j [] ≡ name
  here = label_at (defined_in text k.from) j ∙ h.is

  size : length (labels_of (defined_in text k.from)) ≡ length (defined_in text k.from)
  size = labels_length (defined_in text k.from)

  module _ {d : ℕ} (r : k.double ≡ Some d) where
    -- label j stood before just where it is the first double
    pub double_is : eqb j d ≡ ltb (first_name (labels_of (defined_in text k.from)) name) j
    double_is = by (ℕ_discrete j d)
      where
        first : IsFirst (λ i. get_or (labels_of (defined_in text k.from)) i []) (length (labels_of (defined_in text k.from))) name (first_name (labels_of (defined_in text k.from)) name)
        first = first_name_lem (labels_of (defined_in text k.from)) name

        sooner : (i : ℕ) → i < j → get_or (labels_of (defined_in text k.from)) i [] ≡ name → first_name (labels_of (defined_in text k.from)) name < j
        sooner i l e = low (dec_lt i (first_name (labels_of (defined_in text k.from)) name))
          where
            low : Dec (i < first_name (labels_of (defined_in text k.from)) name) → first_name (labels_of (defined_in text k.from)) name < j
            low (yes m) = absurd (first.none i m e)
            low (no m) = omega arith

        later : (j < d) → j ≤ first_name (labels_of (defined_in text k.from)) name
        later l = low (dec_lt (first_name (labels_of (defined_in text k.from)) name) j)
          where
            low : Dec (first_name (labels_of (defined_in text k.from)) name < j) → j ≤ first_name (labels_of (defined_in text k.from)) name
            low (yes m) = absurd ((h.known d r).none j (first_name (labels_of (defined_in text k.from)) name) l m (first.here (omega (arith, m, size, h.few)) ∙ sym here))
            low (no m) = omega arith

        by : Dec (j ≡ d) → eqb j d ≡ ltb (first_name (labels_of (defined_in text k.from)) name) j
        by (yes e) =
            let w = (h.known d r).here (omega (arith, e, h.few)) in
            eq-eqb j d e
            ∙ sym (lt-ltb (first_name (labels_of (defined_in text k.from)) name) j (sooner w.0 (omega (arith, w.1, e)) (w.2 ∙ ap (λ (i : ℕ). get_or (labels_of (defined_in text k.from)) i []) (sym e) ∙ here)))
        by (no e) = ne_eqb j d e ∙ sym (le-ltb (first_name (labels_of (defined_in text k.from)) name) j (later (let s = h.single d r in omega arith)))

    -- and where it did not, the first double is behind it
    pub single_next : ltb (first_name (labels_of (defined_in text k.from)) name) j ≡ false → j + 1 ≤ d
    single_next e = let q = eqb-false j d (double_is ∙ e) in let s = h.single d r in omega arith

-- ---- words behind a label

some_word : (rows : List Row) → have_word rows ≡ true → 0 < word_count rows
some_word [] e = never (sym e)
some_word (row ∷ rows) e = by (is_label_line (fields_in row)) (some_word rows) e
  where
    by : (t : Bool) → (have_word rows ≡ true → 0 < word_count rows) → (not t || have_word rows) ≡ true → 0 < pick t 0 1 + word_count rows
    by true ih f = let m = ih f in omega arith
    by false ih f = omega arith

no_word : (rows : List Row) → have_word rows ≡ false → word_count rows ≡ 0
no_word [] e = refl
no_word (row ∷ rows) e = by (is_label_line (fields_in row)) (no_word rows) e
  where
    by : (t : Bool) → (have_word rows ≡ false → word_count rows ≡ 0) → (not t || have_word rows) ≡ false → pick t 0 1 + word_count rows ≡ 0
    by true ih f = let m = ih f in omega arith
    by false ih f = never f

pub words_behind : (rows : List Row) (words all : ℕ) → words + word_count rows ≡ all → not (have_word rows) ≡ leb all words
words_behind rows words all e = by (have_word rows) refl
  where
    by : (t : Bool) → have_word rows ≡ t → not (have_word rows) ≡ leb all words
    by true f = let m = some_word rows f in ap not f ∙ sym (lt-leb all words (omega arith))
    by false f = let m = no_word rows f in ap not f ∙ sym (le-leb all words (omega arith))

-- ---- the number of a line

number_by : Bool → Bool → ℕ → ℕ
number_by s k x = pick (not s) 61 (pick (not k) 63 x)

shape_first : (s k : Bool) (x : ℕ) → number_by s k x ≡ pick (filled (number_by s k 0)) (number_by s k 0) x
unfolding number_by
shape_first true true x = refl
shape_first true false x = refl
shape_first false k x = refl

module _ (labels before : List (List ℕ)) (past : Passed) (prior : Before labels past.labels before) (row : Row) (rows : List Row) (all : ℕ) where
  pub number_is : (is_label_line (fields_in row) ≡ true → past.words + word_count rows ≡ all) → number_two labels before rows row ≡ number_at labels all past row
  unfolding number_two number_by
  number_is w =
      shape_first (is_shaped_two row.ended (fields_in row)) (is_label_line (fields_in row) || is_known_two (fields_in row)) (pick (is_label_line (fields_in row)) (label_number before rows (label_in (fields_in row))) (word_number labels (fields_in row)))
      ∙ ap (λ (x : ℕ). pick (filled (shape_two row.ended (fields_in row))) (shape_two row.ended (fields_in row)) x) (by (is_label_line (fields_in row)) refl)
    where
      by : (t : Bool) → is_label_line (fields_in row) ≡ t → pick t (label_number before rows (label_in (fields_in row))) (word_number labels (fields_in row)) ≡ pick t (label_number_at labels all past (label_in (fields_in row))) (word_number labels (fields_in row))
      by true e = ap₂ (λ (s t : Bool). pick s 65 (pick t 66 0)) (prior (label_in (fields_in row))) (words_behind rows past.words all (w e))
      by false e = refl

-- ---- a label line, where it stands

module _ (text keys table : List ℕ) (k : Known) (at end : ℕ) (past : Passed) (s : Stands text keys table k at end past) (d : defines (row_at text at end) ≡ true) where
  next : drop past.labels (defined_in text k.from) ≡ record { called = label_in (fields_in (row_at text at end)); means = past.words } ∷ defined_from past.words (rows_from text (end + 1))
  next = next_defined text k.from s.along s.here s.ends d

  -- it is the next of the labels
  pub twice_here : Twice text k past.labels (label_in (fields_in (row_at text at end)))
  twice_here =
      record {
        known = s.knows.double;
        single = s.single;
        few = omega (arith, ap length next, length-drop past.labels (defined_in text k.from));
        is = ap (λ (d : Definition). d.called) (head_is (defined_in text k.from) past.labels (record { called = label_in (fields_in (row_at text at end)); means = past.words }) (defined_from past.words (rows_from text (end + 1))) next);
      }

-- ---- a good line has its shape

shape_zero : (s k : Bool) (x : ℕ) → number_by s k x ≡ 0 → number_by s k 0 ≡ 0
unfolding number_by
shape_zero true true x e = refl
shape_zero true false x e = absurd (omega (arith, e))
shape_zero false k x e = absurd (omega (arith, e))

pub shape_of_number : (labels before : List (List ℕ)) (rows : List Row) (row : Row) → number_two labels before rows row ≡ 0 → shape_two row.ended (fields_in row) ≡ 0
unfolding number_two number_by
shape_of_number labels before rows row e =
    shape_zero (is_shaped_two row.ended (fields_in row)) (is_label_line (fields_in row) || is_known_two (fields_in row))
    (pick (is_label_line (fields_in row)) (label_number before rows (label_in (fields_in row))) (word_number labels (fields_in row))) e
