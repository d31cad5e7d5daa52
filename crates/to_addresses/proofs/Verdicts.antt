-- Laws of all lines: judged one after the other, and the room that what they move to leaves.
-- Assumes nothing.
use Prim.Native.Nat.{ℕ, zero, suc, ◌+◌, ◌*◌, ◌/◌, ◌≤◌, ◌<◌}
use mathlib.Core.Path.{◌≡◌, refl, sym, ap, ap₂, subst, ◌∙◌}
use mathlib.Core.Bool.{Bool, true, false, not, ◌&&◌}
use mathlib.Core.List.{List, [], ◌∷◌, ◌++◌}
use native.Mathlib.Omega.{arith}
use native.Mathlib.Decide.{ℕ_discrete, dec_lt}
use native.Mathlib.Numerals.{add-one}
use borrow.Author.Tests.{eq-eqb, ne_eqb, le-leb, lt-leb}
use lib.Dec.{ltb, leb}
use lib.ListN.{length, get_or, set, length-append, length-set}
use lib.Seq.{get_or-set_same, get_or-set_other}
use Rattle.std.specs.Prelude.{Some}
use Rattle.instruction.specs.Bits.{pick}
use Rattle.instruction.specs.Form.{filled}
use Rattle.text.specs.Cut.{line_feed, place_of, Row, row_at, fields_in}
use Rattle.text.proofs.Cuts.{found_order, found_inside}
use Rattle.text.proofs.Rows.{rows_next, rows_none}
use Rattle.label.specs.First.{first_name}
use Rattle.editions.specs.Editions.{line_of, is_label_line, label_in, is_shaped_two, word_number, number_two}
use Rattle.editions.specs.Moves.{refused_at, moved, Definition, labels_of, labels_past, judged_two, fields_placed, addressed_from}
use Rattle.editions.specs.Told.{shape_two, RoomFor, Takes}
use Rattle.editions.specs.declared.Room.{Room}
use Rattle.editions.proofs.Rooms.{takes_none}
use Rattle.editions.proofs.Two.{good_defines}
use Rattle.to_addresses.specs.Moving.{rows_from, defined_in, word_count, start, passed_by, Along, Knows, Stands, label_number_at, moved_line, note_count, start_in, stop_in, means_in, next_in, behind_in, kept_note, Note, NoteIn, Notes, Weighs, BadLine, GoodLines}
use Rattle.to_addresses.specs.declared.Known.{Known}
use Rattle.to_addresses.specs.declared.Passed.{Passed}
use Rattle.to_addresses.specs.declared.Weighed.{Weighed}
use Rattle.to_addresses.proofs.Judging.{Before, before_none, before_more, single_next, number_is, twice_here}
use Rattle.to_addresses.proofs.Passing.{along_start, along_words, past_label, past_word}
use Rattle.to_addresses.proofs.Seeking.{labels_length, label_at}
use Rattle.to_addresses.proofs.Weighing.{note_sizes}

-- ---- one line, and the rest

module _ (labels before : List (List ℕ)) (line : ℕ) (row : Row) (rows : List Row) where
  pub judged_next : number_two labels before rows row ≡ 0 → judged_two labels before line (row ∷ rows) ≡ judged_two labels (labels_past row before) (line + 1) rows
  unfolding judged_two
  judged_next e = ap (λ (t : Bool). pick t (judged_two labels (labels_past row before) (line + 1) rows) (refused_at (number_two labels before rows row) line)) (eq-eqb (number_two labels before rows row) 0 e)

  pub judged_bad : (number_two labels before rows row ≡ 0 → ⊥) → judged_two labels before line (row ∷ rows) ≡ refused_at (number_two labels before rows row) line
  unfolding judged_two
  judged_bad e = ap (λ (t : Bool). pick t (judged_two labels (labels_past row before) (line + 1) rows) (refused_at (number_two labels before rows row) line)) (ne_eqb (number_two labels before rows row) 0 e)

pub judged_none : (labels before : List (List ℕ)) (line : ℕ) → judged_two labels before line [] ≡ moved 0
unfolding judged_two
judged_none labels before line = refl

module _ (ds : List Definition) (a : ℕ) (row : Row) (rows : List Row) where
  pub addressed_label : is_label_line (fields_in row) ≡ true → addressed_from ds a (row ∷ rows) ≡ addressed_from ds a rows
  unfolding addressed_from
  addressed_label e = ap (λ (t : Bool). pick t (addressed_from ds a rows) (line_of (fields_placed ds a (fields_in row)) ++ addressed_from ds (a + 1) rows)) e

  pub addressed_word : is_label_line (fields_in row) ≡ false → addressed_from ds a (row ∷ rows) ≡ line_of (fields_placed ds a (fields_in row)) ++ addressed_from ds (a + 1) rows
  unfolding addressed_from
  addressed_word e = ap (λ (t : Bool). pick t (addressed_from ds a rows) (line_of (fields_placed ds a (fields_in row)) ++ addressed_from ds (a + 1) rows)) e

pub addressed_none : (ds : List Definition) (a : ℕ) → addressed_from ds a [] ≡ []
unfolding addressed_from
addressed_none ds a = refl

-- ---- what a number of 0 tells

shape_good : (n x : ℕ) → pick (filled n) n x ≡ 0 → (n ≡ 0) × (x ≡ 0)
shape_good n x e = by (ℕ_discrete n 0)
  where
    by : Dec (n ≡ 0) → (n ≡ 0) × (x ≡ 0)
    by (yes z) = (z, sym (ap (λ (t : Bool). pick (not t) n x) (eq-eqb n 0 z)) ∙ e)
    by (no z) = absurd (z (sym (ap (λ (t : Bool). pick (not t) n x) (ne_eqb n 0 z)) ∙ e))

abbrev twice_or : Bool → Bool → ℕ
twice_or s t = pick s 65 (pick t 66 0)

not_twice : (s t : Bool) → twice_or s t ≡ 0 → s ≡ false
not_twice true t e = absurd (omega (arith, e))
not_twice false t e = refl

-- ---- notes of words

-- a note is so whatever else is noted
note_stays : (text : List ℕ) (from a : ℕ) {start stop means next behind start' stop' means' next' behind' : ℕ}
    → start' ≡ start → stop' ≡ stop → means' ≡ means → next' ≡ next → behind' ≡ behind
    → Note text from start stop means next behind a → Note text from start' stop' means' next' behind' a
note_stays text from a {start = start} {stop = stop} {means = means} {next = next} {stop' = stop'} {means' = means'} {next' = next'} {behind' = behind'} p q r s t n =
    subst (λ (i : ℕ). Note text from i stop' means' next' behind' a) (sym p)
    (subst (λ (i : ℕ). Note text from start i means' next' behind' a) (sym q)
    (subst (λ (i : ℕ). Note text from start stop i next' behind' a) (sym r)
    (subst (λ (i : ℕ). Note text from start stop means i behind' a) (sym s)
    (subst (λ (i : ℕ). Note text from start stop means next i a) (sym t) n))))

module _ (notes : List ℕ) (a at : ℕ) (told : Weighed) (next : ℕ) (l : told.label ≡ false) (few : a < note_count notes) where
  one : List ℕ
  one = set notes (4 * a) at

  two : List ℕ
  two = set (set notes (4 * a) at) (4 * a + 1) told.stop

  three : List ℕ
  three = set (set (set notes (4 * a) at) (4 * a + 1) told.stop) (4 * a + 2) told.means

  four : List ℕ
  four = set (set (set (set notes (4 * a) at) (4 * a + 1) told.stop) (4 * a + 2) told.means) (4 * a + 3) next

  kept_is : kept_note notes a at told next ≡ four
  unfolding four
  kept_is =
      ap₂ (λ (t u : Bool). pick t notes (pick u notes (set (set (set (set notes (4 * a) at) (4 * a + 1) told.stop) (4 * a + 2) told.means) (4 * a + 3) next))) l (lt-leb (note_count notes) a few)

  sizes : (length one ≡ length notes) × (length two ≡ length notes) × (length three ≡ length notes)
  unfolding one two three
  sizes = note_sizes notes a at told.stop told.means

  -- what it says of this word
  start_here : start_in four a ≡ at
  unfolding four one two three
  start_here =
      get_or-set_other three (4 * a + 3) (4 * a) next 0 (λ q. omega arith) ∙ get_or-set_other two (4 * a + 2) (4 * a) told.means 0 (λ q. omega arith)
      ∙ get_or-set_other one (4 * a + 1) (4 * a) told.stop 0 (λ q. omega arith) ∙ get_or-set_same notes (4 * a) at 0 (omega arith)

  stop_here : stop_in four a ≡ told.stop
  unfolding four one two three
  stop_here =
      get_or-set_other three (4 * a + 3) (4 * a + 1) next 0 (λ q. omega arith) ∙ get_or-set_other two (4 * a + 2) (4 * a + 1) told.means 0 (λ q. omega arith)
      ∙ get_or-set_same one (4 * a + 1) told.stop 0 (omega (arith, sizes.0))

  means_here : means_in four a ≡ told.means
  unfolding four one two three
  means_here = get_or-set_other three (4 * a + 3) (4 * a + 2) next 0 (λ q. omega arith) ∙ get_or-set_same two (4 * a + 2) told.means 0 (omega (arith, sizes.1))

  next_here : next_in four a ≡ next
  unfolding four one two three
  next_here = get_or-set_same three (4 * a + 3) next 0 (omega (arith, sizes.2))

  -- and of others nothing else
  other_place : (i : ℕ) → (i < 4 * a) → get_or four i 0 ≡ get_or notes i 0
  unfolding four one two three
  other_place i m =
      get_or-set_other three (4 * a + 3) i next 0 (λ q. omega arith) ∙ get_or-set_other two (4 * a + 2) i told.means 0 (λ q. omega arith)
      ∙ get_or-set_other one (4 * a + 1) i told.stop 0 (λ q. omega arith) ∙ get_or-set_other notes (4 * a) i at 0 (λ q. omega arith)

  behind_before : (from : ℕ) (b : ℕ) → b ≤ a → behind_in from four b ≡ behind_in from notes b
  behind_before from zero m = refl
  behind_before from (suc b) m = other_place (4 * b + 3) (omega arith)

  pub notes_more : (text : List ℕ) (from : ℕ) → Notes text from notes a → Note text from at told.stop told.means next (behind_in from notes a) a → Notes text from (kept_note notes a at told next) (a + 1)
  notes_more text from before this = subst (λ (x : List ℕ). Notes text from x (a + 1)) (sym kept_is) all
    where
      all : Notes text from four (a + 1)
      all b m o = by (ℕ_discrete b a)
        where
          by : Dec (b ≡ a) → NoteIn text from four b
          by (yes e) =
              subst (NoteIn text from four) (sym e)
              (note_stays text from a start_here stop_here means_here next_here (behind_before from a (omega arith)) this)
          by (no e) =
              let lower : b < a = omega (arith, m, e) in
              note_stays text from b
              (other_place (4 * b) (omega (arith, lower))) (other_place (4 * b + 1) (omega (arith, lower))) (other_place (4 * b + 2) (omega (arith, lower))) (other_place (4 * b + 3) (omega (arith, lower)))
              (behind_before from b (omega (arith, lower))) (before b lower (omega (arith, lower, few)))

  pub behind_next : (from : ℕ) → behind_in from (kept_note notes a at told next) (a + 1) ≡ next
  behind_next from = ap (λ (n : ℕ). behind_in from (kept_note notes a at told next) n) (add-one a) ∙ ap (λ (x : List ℕ). next_in x a) kept_is ∙ next_here

pub kept_length : (notes : List ℕ) (a at : ℕ) (told : Weighed) (next : ℕ) → length (kept_note notes a at told next) ≡ length notes
kept_length notes a at told next = by told.label (leb (note_count notes) a)
  where
    by : (t u : Bool) → length (pick t notes (pick u notes (set (set (set (set notes (4 * a) at) (4 * a + 1) told.stop) (4 * a + 2) told.means) (4 * a + 3) next))) ≡ length notes
    by true u = refl
    by false true = refl
    by false false =
        length-set (set (set (set notes (4 * a) at) (4 * a + 1) told.stop) (4 * a + 2) told.means) (4 * a + 3) next
        ∙ length-set (set (set notes (4 * a) at) (4 * a + 1) told.stop) (4 * a + 2) told.means
        ∙ length-set (set notes (4 * a) at) (4 * a + 1) told.stop
        ∙ length-set notes (4 * a) at

pub kept_label_lem : (notes : List ℕ) (a at : ℕ) (told : Weighed) (next : ℕ) → told.label ≡ true → kept_note notes a at told next ≡ notes
kept_label_lem notes a at told next l = ap (λ (t : Bool). pick t notes (pick (leb (note_count notes) a) notes (set (set (set (set notes (4 * a) at) (4 * a + 1) told.stop) (4 * a + 2) told.means) (4 * a + 3) next))) l

pub kept_full : (notes : List ℕ) (a at : ℕ) (told : Weighed) (next : ℕ) → note_count notes ≤ a → kept_note notes a at told next ≡ notes
kept_full notes a at told next m = by told.label
  where
    by : (t : Bool) → pick t notes (pick (leb (note_count notes) a) notes (set (set (set (set notes (4 * a) at) (4 * a + 1) told.stop) (4 * a + 2) told.means) (4 * a + 3) next)) ≡ notes
    by true = refl
    by false = ap (λ (u : Bool). pick u notes (set (set (set (set notes (4 * a) at) (4 * a + 1) told.stop) (4 * a + 2) told.means) (4 * a + 3) next)) (le-leb (note_count notes) a m)

-- ---- lines so far

-- the lines so far are good, and what they move to fits or not
pub record Judging (text : List ℕ) (k : Known) (room₀ : Room) (at : ℕ) (past : Passed) (room : Room) (notes : List ℕ) : Type 0 where
  pub along : Along text k.from at past
  pub single : (d : ℕ) → k.double ≡ Some d → past.labels ≤ d
  pub before : List (List ℕ)
  pub prior : Before (labels_of (defined_in text k.from)) past.labels before
  pub same : judged_two (labels_of (defined_in text k.from)) before (past.labels + past.words + 2) (rows_from text at) ≡ judged_two (labels_of (defined_in text k.from)) [] 2 (rows_from text k.from)
  pub size : ℕ
  pub takes : Takes room₀ size room
  pub rest : size + length (addressed_from (defined_in text k.from) past.words (rows_from text at)) ≡ length (addressed_from (defined_in text k.from) 0 (rows_from text k.from))
  pub kept : Notes text k.from notes past.words
  pub behind : past.words ≤ note_count notes
      → addressed_from (defined_in text k.from) past.words (rows_from text (behind_in k.from notes past.words)) ≡ addressed_from (defined_in text k.from) past.words (rows_from text at)

module _ (text keys table : List ℕ) (k : Known) (room₀ : Room) (kn : Knows text keys table k) where
  pub judging_start : (notes : List ℕ) → Judging text k room₀ k.from start room₀ notes
  judging_start notes =
      record {
        along = along_start text k.from;
        single = λ d r. omega arith;
        before = [];
        prior = before_none (labels_of (defined_in text k.from));
        same = refl;
        size = 0;
        takes = takes_none room₀;
        rest = omega arith;
        kept = λ a l. absurd (omega (arith, l));
        behind = λ l. refl;
      }

  module _ {at : ℕ} {past : Passed} {room : Room} {notes : List ℕ} (j : Judging text k room₀ at past room notes) where
    pub judging_end : length text ≤ at → GoodLines text k.from room₀ notes room
    judging_end l =
        record {
          told =
              sym (judged_none (labels_of (defined_in text k.from)) j.before (past.labels + past.words + 2))
              ∙ ap (judged_two (labels_of (defined_in text k.from)) j.before (past.labels + past.words + 2)) (sym (rows_none text at l))
              ∙ j.same;
          takes = λ all before h.
              subst (λ (n : ℕ). RoomFor all n room)
              (omega (arith, j.rest, ap length (ap (addressed_from (defined_in text k.from) past.words) (rows_none text at l) ∙ addressed_none (defined_in text k.from) past.words)))
              (j.takes all before h);
          kept = λ a m. j.kept a (omega (arith, m, along_words text k.from j.along l));
        }

    module _ (h : at < length text) {end : ℕ} (f : end ≡ place_of line_feed at text) where
      pub judging_stands : Stands text keys table k at end past
      judging_stands = record { knows = kn; along = j.along; single = j.single; here = h; ends = f }

      module _ {r : Weighed} (w : Weighs text k at end past room r) where
        -- the words behind a label line
        behind : is_label_line (fields_in (row_at text at end)) ≡ true → past.words + word_count (rows_from text (end + 1)) ≡ k.words
        behind e =
            let p = ap word_count (rows_next text at f h) in
            let q = ap (λ (t : Bool). pick t 0 1 + word_count (rows_from text (end + 1))) e in
            omega (arith, p, q, j.along.words, kn.words)

        number : number_two (labels_of (defined_in text k.from)) j.before (rows_from text (end + 1)) (row_at text at end) ≡ r.number
        number = number_is (labels_of (defined_in text k.from)) j.before past j.prior (row_at text at end) (rows_from text (end + 1)) k.words behind ∙ sym w.number

        told_now : judged_two (labels_of (defined_in text k.from)) j.before (past.labels + past.words + 2) (row_at text at end ∷ rows_from text (end + 1))
            ≡ judged_two (labels_of (defined_in text k.from)) [] 2 (rows_from text k.from)
        told_now = ap (judged_two (labels_of (defined_in text k.from)) j.before (past.labels + past.words + 2)) (sym (rows_next text at f h)) ∙ j.same

        pub judging_bad : (r.number ≡ 0 → ⊥)
            → BadLine text k.from (record { number = r.number; line = past.labels + past.words + 2 })
        judging_bad z =
            record {
              told =
                  ap (λ (n : ℕ). refused_at n (past.labels + past.words + 2)) (sym number)
                  ∙ sym (judged_bad (labels_of (defined_in text k.from)) j.before (past.labels + past.words + 2) (row_at text at end) (rows_from text (end + 1)) (λ q. z (sym number ∙ q)))
                  ∙ told_now;
              some = z;
            }

        module _ (z : r.number ≡ 0) where
          both_zero : (shape_two (row_at text at end).ended (fields_in (row_at text at end)) ≡ 0)
              × (pick (is_label_line (fields_in (row_at text at end))) (label_number_at (labels_of (defined_in text k.from)) k.words past (label_in (fields_in (row_at text at end)))) (word_number (labels_of (defined_in text k.from)) (fields_in (row_at text at end))) ≡ 0)
          both_zero = shape_good (shape_two (row_at text at end).ended (fields_in (row_at text at end))) _ (sym w.number ∙ z)

          on : judged_two (labels_of (defined_in text k.from)) (labels_past (row_at text at end) j.before) (past.labels + past.words + 2 + 1) (rows_from text (end + 1))
              ≡ judged_two (labels_of (defined_in text k.from)) [] 2 (rows_from text k.from)
          on =
              sym (judged_next (labels_of (defined_in text k.from)) j.before (past.labels + past.words + 2) (row_at text at end) (rows_from text (end + 1)) (number ∙ z))
              ∙ told_now

          -- the size so far, with this line
          size_now : Takes room₀ (j.size + length (moved_line (defined_in text k.from) past.words (row_at text at end))) r.room
          size_now all before q = subst (λ (n : ℕ). RoomFor all n r.room) (omega arith) (w.left z all (before + j.size) (j.takes all before q))

          rows_here : length (addressed_from (defined_in text k.from) past.words (rows_from text at)) ≡ length (addressed_from (defined_in text k.from) past.words (row_at text at end ∷ rows_from text (end + 1)))
          rows_here = ap (λ (rows : List Row). length (addressed_from (defined_in text k.from) past.words rows)) (rows_next text at f h)

          past_one : (n : ℕ) (rows : List Row) (before : List (List ℕ)) {m : ℕ} → n ≡ m
              → judged_two (labels_of (defined_in text k.from)) before n rows ≡ judged_two (labels_of (defined_in text k.from)) before m rows
          past_one n rows before e = ap (λ (i : ℕ). judged_two (labels_of (defined_in text k.from)) before i rows) e

          next_label : is_label_line (fields_in (row_at text at end)) ≡ true → Judging text k room₀ (end + 1) (record { labels = past.labels + 1; words = past.words }) r.room notes
          next_label e =
              let d = good_defines (row_at text at end) both_zero.0 e in
              let t = twice_here text keys table k at end past judging_stands d in
              let one : label_number_at (labels_of (defined_in text k.from)) k.words past (label_in (fields_in (row_at text at end))) ≡ 0
              = ap (λ (u : Bool). pick u (label_number_at (labels_of (defined_in text k.from)) k.words past (label_in (fields_in (row_at text at end)))) (word_number (labels_of (defined_in text k.from)) (fields_in (row_at text at end)))) (sym e) ∙ both_zero.1 in
              record {
                along = past_label text k.from j.along h f d;
                single = λ d q. single_next text k past.labels (label_in (fields_in (row_at text at end))) t q
                    (not_twice (ltb (first_name (labels_of (defined_in text k.from)) (label_in (fields_in (row_at text at end)))) past.labels) (leb k.words past.words) one);
                before = label_in (fields_in (row_at text at end)) ∷ j.before;
                prior = before_more (labels_of (defined_in text k.from)) past.labels (label_in (fields_in (row_at text at end))) (omega (arith, t.few, labels_length (defined_in text k.from))) (label_at (defined_in text k.from) past.labels ∙ t.is) j.before j.prior;
                same =
                    past_one (past.labels + 1 + past.words + 2) (rows_from text (end + 1)) (label_in (fields_in (row_at text at end)) ∷ j.before) (let q : past.labels + 1 + past.words + 2 ≡ past.labels + past.words + 2 + 1 = omega arith in q)
                    ∙ ap (λ (u : Bool). judged_two (labels_of (defined_in text k.from)) (pick u (label_in (fields_in (row_at text at end)) ∷ j.before) j.before) (past.labels + past.words + 2 + 1) (rows_from text (end + 1))) (sym e)
                    ∙ on;
                size = j.size + length (moved_line (defined_in text k.from) past.words (row_at text at end));
                takes = size_now;
                rest =
                    omega (
                      arith,
                      j.rest,
                      rows_here,
                      ap length (addressed_label (defined_in text k.from) past.words (row_at text at end) (rows_from text (end + 1)) e),
                      ap (λ (u : Bool). length (pick u [] (line_of (fields_placed (defined_in text k.from) past.words (fields_in (row_at text at end)))))) e,
                    );
                kept = j.kept;
                behind = λ m. j.behind m ∙ ap (addressed_from (defined_in text k.from) past.words) (rows_next text at f h) ∙ addressed_label (defined_in text k.from) past.words (row_at text at end) (rows_from text (end + 1)) e;
              }

          next_word : r.label ≡ false → is_label_line (fields_in (row_at text at end)) ≡ false → Judging text k room₀ (end + 1) (record { labels = past.labels; words = past.words + 1 }) r.room (kept_note notes past.words at r (end + 1))
          next_word l e =
              record {
                along = past_word text k.from j.along h f (ap (λ (t : Bool). t && (is_shaped_two (row_at text at end).ended (fields_in (row_at text at end)))) e) e;
                single = j.single;
                before = j.before;
                prior = j.prior;
                same =
                    past_one (past.labels + (past.words + 1) + 2) (rows_from text (end + 1)) j.before (let q : past.labels + (past.words + 1) + 2 ≡ past.labels + past.words + 2 + 1 = omega arith in q)
                    ∙ ap (λ (u : Bool). judged_two (labels_of (defined_in text k.from)) (pick u (label_in (fields_in (row_at text at end)) ∷ j.before) j.before) (past.labels + past.words + 2 + 1) (rows_from text (end + 1))) (sym e)
                    ∙ on;
                size = j.size + length (moved_line (defined_in text k.from) past.words (row_at text at end));
                takes = size_now;
                rest =
                    omega (
                      arith,
                      j.rest,
                      rows_here,
                      ap length (addressed_word (defined_in text k.from) past.words (row_at text at end) (rows_from text (end + 1)) e),
                      length-append (line_of (fields_placed (defined_in text k.from) past.words (fields_in (row_at text at end)))) (addressed_from (defined_in text k.from) (past.words + 1) (rows_from text (end + 1))),
                      ap (λ (u : Bool). length (pick u [] (line_of (fields_placed (defined_in text k.from) past.words (fields_in (row_at text at end)))))) e,
                    );
                kept = notes_word;
                behind = λ m. ap (λ (p : ℕ). addressed_from (defined_in text k.from) (past.words + 1) (rows_from text p)) (behind_next notes past.words at r (end + 1) l (omega (arith, m, count_same)) k.from);
              }
            where
              count_same : note_count (kept_note notes past.words at r (end + 1)) ≡ note_count notes
              count_same = ap (λ (n : ℕ). n / 4) (kept_length notes past.words at r (end + 1))

              this : past.words < note_count notes → Note text k.from at r.stop r.means (end + 1) (behind_in k.from notes past.words) past.words
              this m =
                  let w' = w.word z e in
                  record {
                    order = w'.order;
                    inside = omega (arith, w'.inside, found_inside line_feed at text f (omega arith));
                    few = omega (arith, j.along.order, found_order line_feed at text f);
                    moves =
                        j.behind (omega (arith, m))
                        ∙ ap (addressed_from (defined_in text k.from) past.words) (rows_next text at f h)
                        ∙ addressed_word (defined_in text k.from) past.words (row_at text at end) (rows_from text (end + 1)) e
                        ∙ ap (λ (x : List ℕ). x ++ addressed_from (defined_in text k.from) (past.words + 1) (rows_from text (end + 1))) w'.says;
                    labels = labels_past (row_at text at end) j.before;
                    line = past.labels + past.words + 2 + 1;
                    same = on;
                  }

              notes_word : Notes text k.from (kept_note notes past.words at r (end + 1)) (past.words + 1)
              notes_word = by (dec_lt past.words (note_count notes))
                where
                  by : Dec (past.words < note_count notes) → Notes text k.from (kept_note notes past.words at r (end + 1)) (past.words + 1)
                  by (yes m) = notes_more notes past.words at r (end + 1) l m text k.from j.kept (this m)
                  by (no m) =
                      subst (λ (x : List ℕ). Notes text k.from x (past.words + 1)) (sym (kept_full notes past.words at r (end + 1) (omega arith)))
                      (λ a o q. j.kept a (omega (arith, q, m)) q)

          pub judging_next : {after : List ℕ} → after ≡ kept_note notes past.words at r (end + 1) → Judging text k room₀ (end + 1) (passed_by r.label true past) r.room after
          judging_next e = subst (Judging text k room₀ (end + 1) (passed_by r.label true past) r.room) (sym e) (by r.label refl)
            where
              by : (t : Bool) → r.label ≡ t → Judging text k room₀ (end + 1) (passed_by t true past) r.room (kept_note notes past.words at r (end + 1))
              by true e = subst (Judging text k room₀ (end + 1) (record { labels = past.labels + 1; words = past.words }) r.room) (sym (kept_label_lem notes past.words at r (end + 1) e)) (next_label (sym w.label ∙ e))
              by false e = next_word e (sym w.label ∙ e)
