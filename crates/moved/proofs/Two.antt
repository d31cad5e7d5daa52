-- The text of words in edition 2 is good, and moves back to the text of the same words in edition 1.
-- Assumes nothing.
use Prim.Native.Nat.{ℕ, ◌+◌, ◌≤◌, ◌<◌}
use mathlib.Core.Path.{◌≡◌, refl, sym, ap, ap₂, subst, ◌∙◌}
use mathlib.Core.Bool.{Bool, true, false, not, ◌||◌}
use mathlib.Core.List.{List, [], ◌∷◌, ◌++◌}
use native.Mathlib.Omega.{arith}
use native.Mathlib.Decide.{ℕ_discrete}
use borrow.Author.Tests.{eq-eqb}
use lib.Dec.{eqb}
use lib.ListN.{length}
use Rattle.instruction.specs.Bits.{pick}
use Rattle.text.specs.Cut.{Row, rows_in, fields_in, has, same_text}
use Rattle.text.proofs.Alike.{same_self}
use Rattle.listing.specs.Listing.{head_of}
use Rattle.listing_reader.specs.ReadBack.{rows_behind}
use Rattle.label.specs.Label.{among}
use Rattle.editions.specs.Editions.{line_of, label_in, have_word}
use Rattle.editions.specs.Moves.{refused_at, moved, label_of, Definition, defined_from, labels_of, meaning_in, judged_two, labels_judged, addressed_from, addressed}
use Rattle.moved.specs.Moved.{named_lines}
use Rattle.moved.proofs.Lines.{row_of, edition_again, behind_again}
use Rattle.moved.proofs.Words.{Word, aims, aim_of, fields_aimed, fields_label, Fine, AllFine, text_one, text_two, aims_of}
use Rattle.moved.proofs.Named.{label_other, label_row, label_named, label_line_lem, label_defines, label_good, word_row, word_line, word_good, word_placed}
use Rattle.moved.proofs.Labels.{judged_none, judged_next, defined_label, defined_word, addressed_none, addressed_label, addressed_word}

-- ---- the lines

-- with a label line in front, where there is one
abbrev label_before : Bool → ℕ → List Row → List Row
label_before t a rows = pick t (row_of (fields_label a) ∷ rows) rows

-- the lines of words, a label line before each target
abbrev rows_two : List ℕ → ℕ → List Word → List Row
rows_two targets a [] = []
rows_two targets a (w ∷ ws) = label_before (has a targets) a (row_of (fields_aimed w) ∷ rows_two targets (a + 1) ws)

-- the text is cut into them
two_rows : (n : ℕ) (targets : List ℕ) (a : ℕ) (ws : List Word) → AllFine n ws → rows_in (text_two targets a ws) ≡ rows_two targets a ws
two_rows n targets a [] f = refl
two_rows n targets a (w ∷ ws) f =
    by (has a targets) (word_row w f.0 (text_two targets (a + 1) ws) ∙ ap (λ (l : List Row). row_of (fields_aimed w) ∷ l) (two_rows n targets (a + 1) ws f.1))
  where
    by : (t : Bool) → rows_in (line_of (fields_aimed w) ++ text_two targets (a + 1) ws) ≡ row_of (fields_aimed w) ∷ rows_two targets (a + 1) ws
        → rows_in (pick t (line_of (fields_label a)) [] ++ (line_of (fields_aimed w) ++ text_two targets (a + 1) ws)) ≡ label_before t a (row_of (fields_aimed w) ∷ rows_two targets (a + 1) ws)
    by true e = label_row a (line_of (fields_aimed w) ++ text_two targets (a + 1) ws) ∙ ap (λ (l : List Row). row_of (fields_label a) ∷ l) e
    by false e = e

-- ---- what they define

abbrev defined : ℕ → Definition
defined a = record { called = label_of a; means = a }

-- each target has its label, in the order of the addresses
abbrev defined_two : List ℕ → ℕ → List Word → List Definition
defined_two targets a [] = []
defined_two targets a (w ∷ ws) = pick (has a targets) (defined a ∷ defined_two targets (a + 1) ws) (defined_two targets (a + 1) ws)

-- this is what the lines define
two_defined : (n : ℕ) (targets : List ℕ) (a : ℕ) (ws : List Word) → AllFine n ws → a + length ws ≤ named_lines → defined_from a (rows_two targets a ws) ≡ defined_two targets a ws
two_defined n targets a [] f h = refl
two_defined n targets a (w ∷ ws) f h =
    by (has a targets) (defined_word a (row_of (fields_aimed w)) (rows_two targets (a + 1) ws) (word_line w f.0) ∙ two_defined n targets (a + 1) ws f.1 (omega arith))
  where
    by : (t : Bool) → defined_from a (row_of (fields_aimed w) ∷ rows_two targets (a + 1) ws) ≡ defined_two targets (a + 1) ws
        → defined_from a (label_before t a (row_of (fields_aimed w) ∷ rows_two targets (a + 1) ws)) ≡ pick t (defined a ∷ defined_two targets (a + 1) ws) (defined_two targets (a + 1) ws)
    by true e =
        defined_label a (row_of (fields_label a)) (row_of (fields_aimed w) ∷ rows_two targets (a + 1) ws) (label_defines a (omega arith))
        ∙ ap₂ (λ (l : List ℕ) (ds : List Definition). record { called = l; means = a } ∷ ds) (label_named a) e
    by false e = e

-- an address whose label is defined, and means it
abbrev Known : List Definition → ℕ → Type 0
Known ds t = (among (label_of t) (labels_of ds) ≡ true) × (meaning_in ds (label_of t) ≡ t)

-- a label that is defined means its address, be it the first or a later one
known_here : (a t : ℕ) (ds : List Definition) → a ≡ t → Known (defined a ∷ ds) t
known_here a t ds e =
    let s : same_text (label_of a) (label_of t) ≡ true = ap (λ (k : ℕ). same_text (label_of k) (label_of t)) e ∙ same_self (label_of t) in
    (ap (λ (b : Bool). b || among (label_of t) (labels_of ds)) s, ap (λ (b : Bool). pick b a (meaning_in ds (label_of t))) s ∙ e)

known_later : (a t : ℕ) (ds : List Definition) → (a ≡ t → ⊥) → Known ds t → Known (defined a ∷ ds) t
known_later a t ds n k =
    let s = label_other a t n in
    (ap (λ (b : Bool). b || among (label_of t) (labels_of ds)) s ∙ k.0, ap (λ (b : Bool). pick b a (meaning_in ds (label_of t))) s ∙ k.1)

-- each target from address a on is known
two_known : (targets : List ℕ) (t a : ℕ) (ws : List Word) → has t targets ≡ true → a ≤ t → t < a + length ws → Known (defined_two targets a ws) t
two_known targets t a [] e h l = absurd (omega arith)
two_known targets t a (w ∷ ws) e h l = by (ℕ_discrete a t) (λ m. two_known targets t (a + 1) ws e m (omega arith))
  where
    by : Dec (a ≡ t) → (a + 1 ≤ t → Known (defined_two targets (a + 1) ws) t) → Known (defined_two targets a (w ∷ ws)) t
    by (yes p) ih =
        subst (λ (b : Bool). Known (pick b (defined a ∷ defined_two targets (a + 1) ws) (defined_two targets (a + 1) ws)) t)
        (sym (ap (λ (k : ℕ). has k targets) p ∙ e)) (known_here a t (defined_two targets (a + 1) ws) p)
    by (no p) ih = or (has a targets)
      where
        or : (b : Bool) → Known (pick b (defined a ∷ defined_two targets (a + 1) ws) (defined_two targets (a + 1) ws)) t
        or true = known_later a t (defined_two targets (a + 1) ws) p (ih (omega arith))
        or false = ih (omega arith)

-- ---- what words aim at

-- what holds of each address that is aimed at
abbrev AllAims : (ℕ → Type 0) → List Word → Type 0
AllAims P [] = Unit {0}
AllAims P (w ∷ ws) = (aims w ≡ true → P (aim_of w)) × AllAims P ws

-- it does where it holds of each target below n
all_aims : (n : ℕ) (P : ℕ → Type 0) (ws : List Word) → AllFine n ws → ((t : ℕ) → has t (aims_of ws) ≡ true → t < n → P t) → AllAims P ws
all_aims n P [] f g = tt
all_aims n P (w ∷ ws) f g = (λ e. g (aim_of w) (here e) (f.0.inside e), all_aims n P ws f.1 (λ t h l. g t (later t h (aims w)) l))
  where
    here : aims w ≡ true → has (aim_of w) (pick (aims w) (aim_of w ∷ aims_of ws) (aims_of ws)) ≡ true
    here e =
        ap (λ (b : Bool). has (aim_of w) (pick b (aim_of w ∷ aims_of ws) (aims_of ws))) e
        ∙ ap (λ (b : Bool). b || has (aim_of w) (aims_of ws)) (eq-eqb (aim_of w) (aim_of w) refl)

    later : (t : ℕ) → has t (aims_of ws) ≡ true → (b : Bool) → has t (pick b (aim_of w ∷ aims_of ws) (aims_of ws)) ≡ true
    later t h false = h
    later t h true = or (eqb (aim_of w) t)
      where
        or : (b : Bool) → (b || has t (aims_of ws)) ≡ true
        or true = refl
        or false = h

-- ---- judged

-- a word's line is passed, and so is a label line, whose label is then behind
word_next : {n : ℕ} (labels before : List (List ℕ)) (line : ℕ) (w : Word) (rows : List Row) → n ≤ named_lines → Fine n w → (aims w ≡ true → among (label_of (aim_of w)) labels ≡ true)
    → judged_two labels before line (row_of (fields_aimed w) ∷ rows) ≡ judged_two labels before (line + 1) rows
word_next labels before line w rows h f d =
    judged_next labels before line (row_of (fields_aimed w)) rows (word_good w f h labels before rows d)
    ∙ ap (λ (t : Bool). judged_two labels (pick t (label_in (fields_in (row_of (fields_aimed w))) ∷ before) before) (line + 1) rows) (word_line w f)

label_next : (labels before : List (List ℕ)) (line a : ℕ) (rows : List Row) → a < named_lines → among (label_of a) before ≡ false → have_word rows ≡ true
    → judged_two labels before line (row_of (fields_label a) ∷ rows) ≡ judged_two labels (label_of a ∷ before) (line + 1) rows
label_next labels before line a rows h e g =
    judged_next labels before line (row_of (fields_label a)) rows (label_good a h labels before rows e g)
    ∙ ap₂ (λ (t : Bool) (l : List ℕ). judged_two labels (pick t (l ∷ before) before) (line + 1) rows) (label_line_lem a) (label_named a)

-- nothing is wrong with the lines, where the labels before stand for addresses before
two_judged : (n : ℕ) (targets : List ℕ) (labels : List (List ℕ)) (a : ℕ) (ws : List Word) → n ≤ named_lines → a + length ws ≤ named_lines → AllFine n ws
    → AllAims (λ t. among (label_of t) labels ≡ true) ws
    → (before : List (List ℕ)) (line : ℕ) → ((c : ℕ) → a ≤ c → among (label_of c) before ≡ false)
    → judged_two labels before line (rows_two targets a ws) ≡ moved 0
two_judged n targets labels a [] h l f d before line new = judged_none labels before line
two_judged n targets labels a (w ∷ ws) h l f d before line new = by (has a targets) (two_judged n targets labels (a + 1) ws h (omega arith) f.1 d.1)
  where
    by : (t : Bool)
        → ((before : List (List ℕ)) (line : ℕ) → ((c : ℕ) → a + 1 ≤ c → among (label_of c) before ≡ false) → judged_two labels before line (rows_two targets (a + 1) ws) ≡ moved 0)
        → judged_two labels before line (label_before t a (row_of (fields_aimed w) ∷ rows_two targets (a + 1) ws)) ≡ moved 0
    by true ih =
        label_next labels before line a (row_of (fields_aimed w) ∷ rows_two targets (a + 1) ws) (omega arith) (new a (omega arith))
        (ap (λ (t : Bool). not t || have_word (rows_two targets (a + 1) ws)) (word_line w f.0))
        ∙ word_next labels (label_of a ∷ before) (line + 1) w (rows_two targets (a + 1) ws) h f.0 d.0
        ∙ ih (label_of a ∷ before) (line + 1 + 1)
        (λ c m. ap (λ (t : Bool). t || among (label_of c) before) (label_other a c (λ e. omega arith)) ∙ new c (omega arith))
    by false ih =
        word_next labels before line w (rows_two targets (a + 1) ws) h f.0 d.0
        ∙ ih before (line + 1) (λ c m. new c (omega arith))

-- ---- written with addresses

-- the lines with addresses are the words of edition 1
two_addressed : (n : ℕ) (targets : List ℕ) (ds : List Definition) (a : ℕ) (ws : List Word) → AllFine n ws → AllAims (λ t. meaning_in ds (label_of t) ≡ t) ws
    → addressed_from ds a (rows_two targets a ws) ≡ text_one a ws
two_addressed n targets ds a [] f m = addressed_none ds a
two_addressed n targets ds a (w ∷ ws) f m =
    by (has a targets)
    (addressed_word ds a (row_of (fields_aimed w)) (rows_two targets (a + 1) ws) (word_line w f.0)
    ∙ ap₂ (λ (fs : List (List ℕ)) (l : List ℕ). line_of fs ++ l) (word_placed w f.0 ds a m.0) (two_addressed n targets ds (a + 1) ws f.1 m.1))
  where
    by : (t : Bool) → addressed_from ds a (row_of (fields_aimed w) ∷ rows_two targets (a + 1) ws) ≡ text_one a (w ∷ ws)
        → addressed_from ds a (label_before t a (row_of (fields_aimed w) ∷ rows_two targets (a + 1) ws)) ≡ text_one a (w ∷ ws)
    by true e = addressed_label ds a (row_of (fields_label a)) (row_of (fields_aimed w) ∷ rows_two targets (a + 1) ws) (label_line_lem a) ∙ e
    by false e = e

-- ---- a text

module _ (ws : List Word) (f : AllFine (length ws) ws) (h : length ws ≤ named_lines) where
  abbrev targets : List ℕ
  targets = aims_of ws

  abbrev lines : List ℕ
  lines = text_two targets 0 ws

  abbrev meant : List Definition
  meant = defined_two targets 0 ws

  -- the lines behind the header, and what they define
  rows : rows_behind 2 (head_of 2 ++ lines) ≡ rows_two targets 0 ws
  rows = behind_again 2 lines ∙ two_rows (length ws) targets 0 ws f

  means : defined_from 0 (rows_two targets 0 ws) ≡ meant
  means = two_defined (length ws) targets 0 ws f (omega arith)

  -- what holds of each known address holds of each that is aimed at
  all : (P : ℕ → Type 0) → ((t : ℕ) → Known meant t → P t) → AllAims P ws
  all P g = all_aims (length ws) P ws f (λ t e l. g t (two_known targets t 0 ws e (omega arith) (omega arith)))

  -- nothing is wrong with it
  pub labels_judged_lem : labels_judged (head_of 2 ++ lines) ≡ moved 0
  unfolding labels_judged
  labels_judged_lem =
      ap₂ (λ (t : Bool) (l : List Row). pick t (judged_two (labels_of (defined_from 0 l)) [] 2 l) (refused_at 60 1)) (edition_again 2 lines) rows
      ∙ ap (λ (ds : List Definition). judged_two (labels_of ds) [] 2 (rows_two targets 0 ws)) means
      ∙ two_judged (length ws) targets (labels_of meant) 0 ws h (omega arith) f (all _ (λ t k. k.0)) [] 2 (λ c m. refl)

  -- what it moves to
  pub labels_addressed : addressed (head_of 2 ++ lines) ≡ head_of 1 ++ text_one 0 ws
  unfolding addressed
  labels_addressed =
      ap (λ (l : List Row). head_of 1 ++ addressed_from (defined_from 0 l) 0 l) rows
      ∙ ap (λ (ds : List Definition). head_of 1 ++ addressed_from ds 0 (rows_two targets 0 ws)) means
      ∙ ap (λ (l : List ℕ). head_of 1 ++ l) (two_addressed (length ws) targets meant 0 ws f (all _ (λ t k. k.1)))
