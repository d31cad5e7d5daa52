-- Laws of a listing's lines: the header, lines judged one after the other, and their words laid from the front.
-- Assumes nothing.
use Prim.Native.Nat.{ℕ, ◌+◌, ◌-◌, ◌≤◌, ◌<◌}
use mathlib.Core.Path.{◌≡◌, refl, sym, ap, ap₂, ◌∙◌}
use mathlib.Core.Bool.{Bool, true, false, not}
use mathlib.Core.List.{List, [], ◌∷◌, ◌++◌, map, append_assoc, append-nil}
use native.Mathlib.Omega.{arith}
use native.Mathlib.Decide.{ℕ_discrete, dec_lt}
use borrow.Author.Tests.{eq-eqb, ne_eqb, le-leb, lt-leb, lt-ltb, ltb-true}
use lib.Dec.{leb}
use lib.ListN.{length, set, take, drop, length-append}
use lib.Seq.{take_all}
use Rattle.std.specs.Prelude.{Some, None}
use Rattle.instruction.specs.Bits.{pick}
use Rattle.instruction.specs.declared.Rules.{Rules}
use Rattle.instruction.specs.Form.{filled}
use Rattle.buffer.specs.Put.{put, Put}
use Rattle.buffer.proofs.Laws.{put_none, length_put, put_more, put_front, front_put}
use Rattle.text.specs.Cut.{line_feed, same_text, Row, fields_in, place_of, row_at, rows_in}
use Rattle.text.proofs.Alike.{same_sizes}
use Rattle.text.proofs.Cuts.{found_order, found_inside}
use Rattle.text.proofs.Decimals.{decimal_one}
use Rattle.text.proofs.Rows.{rows_none, rows_next}
use Rattle.listing.specs.Listing.{head_of, header_text}
use Rattle.writer.specs.Writing.{not_written, written_of}
use Rattle.writer.specs.declared.Written.{Written}
use Rattle.listing_reader.specs.ReadBack.{wish_in, shape_number, line_read, line_number, word_in, refused_at, told_of, is_edition, is_headed, body_rows, read_back, words_in, ReadsBack}
use Rattle.listing_reader.specs.declared.ReadBack.{ReadBack}

-- ---- the header

pub header_size : (edition : ℕ) → edition < 10 → length (head_of edition) ≡ 15
header_size edition h = rw (decimal_one edition h)

module _ (edition : ℕ) (text before : List ℕ) {page : List ℕ} {r : ℕ} (p : Put (head_of edition) before 0 page r) where
  size : r ≡ length (head_of edition)
  size = p.end ∙ omega arith

  on_page : take r page ≡ head_of edition
  on_page = ap (λ (n : ℕ). take n page) size ∙ ap (take (length (head_of edition))) p.wrote ∙ front_put before (head_of edition)

  judged : (t : Bool) → same_text (take r text) (take r page) ≡ t → is_edition edition text ≡ t
  judged t e =
      ap (λ (n : ℕ). same_text (take n text) (head_of edition)) (sym size)
      ∙ ap (same_text (take r text)) (sym on_page)
      ∙ e

  pub header_short : length text < r → None ≡ pick (is_edition edition text) (Some (length (head_of edition))) None
  header_short h =
      sym (ap (λ (t : Bool). pick t (Some (length (head_of edition))) None)
      (same_sizes (take (length (head_of edition)) text) (head_of edition) (λ e. omega (arith, h, size, e, ap length (take_all (length (head_of edition)) text (omega (arith, h, size)))))))

  pub header_here : same_text (take r text) (take r page) ≡ true → Some r ≡ pick (is_edition edition text) (Some (length (head_of edition))) None
  header_here e = ap (λ (k : ℕ). Some k) size ∙ sym (ap (λ (t : Bool). pick t (Some (length (head_of edition))) None) (judged true e))

  pub header_not : same_text (take r text) (take r page) ≡ false → None ≡ pick (is_edition edition text) (Some (length (head_of edition))) None
  header_not e = sym (ap (λ (t : Bool). pick t (Some (length (head_of edition))) None) (judged false e))

-- a text of an edition, by where its lines begin
module _ (edition : ℕ) (text : List ℕ) where
  pub edition_is : {from : ℕ} → Some from ≡ pick (is_edition edition text) (Some (length (head_of edition))) None → (is_edition edition text ≡ true) × (from ≡ length (head_of edition))
  edition_is {from = from} e = by (is_edition edition text) refl e
    where
      by : (t : Bool) → is_edition edition text ≡ t → Some from ≡ pick t (Some (length (head_of edition))) None → (is_edition edition text ≡ true) × (from ≡ length (head_of edition))
      by true f g = (f, cc)
      by false f g = cc

  pub edition_not : None ≡ pick (is_edition edition text) (Some (length (head_of edition))) None → is_edition edition text ≡ false
  edition_not e = by (is_edition edition text) refl e
    where
      by : (t : Bool) → is_edition edition text ≡ t → None ≡ pick t (Some (length (head_of edition))) None → is_edition edition text ≡ false
      by true f g = cc
      by false f g = f

-- ---- the number of a line

module _ (rules : Rules) (room a : ℕ) (row : Row) where
  pub number_open : row.ended ≡ false → 61 ≡ line_number rules room a row
  unfolding line_number line_read
  number_open e = rw e

  pub number_bad : {n : ℕ} → n ≡ (line_read rules a row).number → (n ≡ 0 → ⊥) → n ≡ line_number rules room a row
  unfolding line_number
  number_bad e h = e ∙ sym (ap (λ (t : Bool). pick (not t) (line_read rules a row).number (pick (leb room a) 64 0)) (ne_eqb (line_read rules a row).number 0 (λ q. h (e ∙ q))))

  module _ (e : (line_read rules a row).number ≡ 0) where
    passed : line_number rules room a row ≡ pick (leb room a) 64 0
    unfolding line_number
    passed = ap (λ (t : Bool). pick (not t) (line_read rules a row).number (pick (leb room a) 64 0)) (eq-eqb (line_read rules a row).number 0 e)

    pub number_full : room ≤ a → 64 ≡ line_number rules room a row
    number_full h = sym (passed ∙ ap (λ (t : Bool). pick t 64 0) (le-leb room a h))

    pub number_none : a < room → 0 ≡ line_number rules room a row
    number_none h = sym (passed ∙ ap (λ (t : Bool). pick t 64 0) (lt-leb room a h))

  -- a good line has its line feed, and a word that there is room for
  module _ (e : line_number rules room a row ≡ 0) where
    pub good_read : (line_read rules a row).number ≡ 0
    good_read = by (ℕ_discrete (line_read rules a row).number 0)
      where
        by : Dec ((line_read rules a row).number ≡ 0) → (line_read rules a row).number ≡ 0
        by (yes p) = p
        by (no p) = number_bad refl p ∙ e

    pub good_room : a < room
    good_room = by (dec_lt a room)
      where
        by : Dec (a < room) → a < room
        by (yes p) = p
        by (no p) = absurd (omega (arith, e, number_full good_read (omega arith)))

    pub good_ended : row.ended ≡ true
    good_ended = by row.ended refl
      where
        by : (t : Bool) → row.ended ≡ t → row.ended ≡ true
        by true f = f
        by false f = absurd (omega (arith, e, number_open f))

    pub good_word : (line_read rules a row).word ≡ word_in rules row
    unfolding line_read word_in
    good_word = last (shape_number a row.ended (fields_in row)) (written_of rules (wish_in (fields_in row))) good_read
      where
        last : (n : ℕ) (w : Written) → (pick (filled n) (not_written n) w).number ≡ 0 → (pick (filled n) (not_written n) w).word ≡ w.word
        last n w f = by (ℕ_discrete n 0)
          where
            by : Dec (n ≡ 0) → (pick (filled n) (not_written n) w).word ≡ w.word
            by (yes z) = ap (λ (t : Bool). (pick (not t) (not_written n) w).word) (eq-eqb n 0 z)
            by (no z) = absurd (z (sym (ap (λ (t : Bool). (pick (not t) (not_written n) w).number) (ne_eqb n 0 z)) ∙ f))

-- a line with its line feed, as it is read
pub read_number : (rules : Rules) (text : List ℕ) (at end a : ℕ) → end < length text → {read : Written}
    → read ≡ line_read rules a (record { bytes = take (end - at) (drop at text); ended = true }) → read.number ≡ (line_read rules a (row_at text at end)).number
read_number rules text at end a h e =
    ap (λ (x : Written). x.number) e
    ∙ ap (λ (t : Bool). (line_read rules a (record { bytes = take (end - at) (drop at text); ended = t })).number) (sym (lt-ltb end (length text) h))

-- ---- lines, one after the other

module _ (rules : Rules) (room a : ℕ) (row : Row) (rows : List Row) where
  pub told_next : line_number rules room a row ≡ 0 → told_of rules room a (row ∷ rows) ≡ told_of rules room (a + 1) rows
  unfolding told_of
  told_next e = ap (λ (t : Bool). pick t (told_of rules room (a + 1) rows) (refused_at (line_number rules room a row) (a + 2))) (eq-eqb (line_number rules room a row) 0 e)

  pub told_bad : (line_number rules room a row ≡ 0 → ⊥) → told_of rules room a (row ∷ rows) ≡ refused_at (line_number rules room a row) (a + 2)
  unfolding told_of
  told_bad e = ap (λ (t : Bool). pick t (told_of rules room (a + 1) rows) (refused_at (line_number rules room a row) (a + 2))) (ne_eqb (line_number rules room a row) 0 e)

  pub told_good : (told_of rules room a (row ∷ rows)).number ≡ 0 → (line_number rules room a row ≡ 0) × ((told_of rules room (a + 1) rows).number ≡ 0)
  told_good e = by (ℕ_discrete (line_number rules room a row) 0)
    where
      by : Dec (line_number rules room a row ≡ 0) → (line_number rules room a row ≡ 0) × ((told_of rules room (a + 1) rows).number ≡ 0)
      by (yes p) = (p, sym (ap (λ (t : ReadBack). t.number) (told_next p)) ∙ e)
      by (no p) = absurd (p (sym (ap (λ (t : ReadBack). t.number) (told_bad p)) ∙ e))

pub told_none : (rules : Rules) (room a : ℕ) → told_of rules room a [] ≡ record { number = 0; line = 0; count = a }
unfolding told_of
told_none rules room a = refl

pub record Judging (rules : Rules) (text : List ℕ) (from room at a : ℕ) : Type 0 where
  pub order : a + from ≤ at
  pub same : told_of rules room a (rows_in (drop at text)) ≡ told_of rules room 0 (rows_in (drop from text))

module _ (rules : Rules) (text : List ℕ) (from room : ℕ) where
  pub judging_start : Judging rules text from room from 0
  judging_start = record { order = omega arith; same = refl }

  module _ {at a : ℕ} (j : Judging rules text from room at a) where
    pub judging_end : length text ≤ at → record { number = 0; line = 0; count = a } ≡ told_of rules room 0 (rows_in (drop from text))
    judging_end h = sym (told_none rules room a) ∙ ap (told_of rules room a) (sym (rows_none text at h)) ∙ j.same

    module _ (h : at < length text) {end : ℕ} (f : end ≡ place_of line_feed at text) where
      next : told_of rules room a (row_at text at end ∷ rows_in (drop (end + 1) text)) ≡ told_of rules room 0 (rows_in (drop from text))
      next = ap (told_of rules room a) (sym (rows_next text at f h)) ∙ j.same

      pub judging_order : at ≤ end
      judging_order = found_order line_feed at text f

      pub judging_inside : end ≤ length text
      judging_inside = found_inside line_feed at text f (omega arith)

      module _ {n : ℕ} (e : n ≡ line_number rules room a (row_at text at end)) where
        pub judging_bad : (n ≡ 0 → ⊥) → refused_at n (a + 2) ≡ told_of rules room 0 (rows_in (drop from text))
        judging_bad p =
            ap (λ (k : ℕ). refused_at k (a + 2)) e
            ∙ sym (told_bad rules room a (row_at text at end) (rows_in (drop (end + 1) text)) (λ q. p (e ∙ q)))
            ∙ next

        pub judging_next : n ≡ 0 → Judging rules text from room (end + 1) (a + 1)
        judging_next p =
            record {
              order = omega (arith, j.order, found_order line_feed at text f);
              same = sym (told_next rules room a (row_at text at end) (rows_in (drop (end + 1) text)) (sym e ∙ p)) ∙ next;
            }

-- ---- words from the front

pub record Filling (rules : Rules) (text : List ℕ) (from : ℕ) (before words : List ℕ) (at a : ℕ) : Type 0 where
  pub good : (told_of rules (length before) a (rows_in (drop at text))).number ≡ 0
  pub few : a ≤ length before
  pub done : List ℕ
  pub size : length done ≡ a
  pub all : map (word_in rules) (rows_in (drop from text)) ≡ done ++ map (word_in rules) (rows_in (drop at text))
  pub wrote : words ≡ put before 0 done

module _ (rules : Rules) (text : List ℕ) (from : ℕ) (before : List ℕ) where
  pub filling_start : (told_of rules (length before) 0 (rows_in (drop from text))).number ≡ 0 → Filling rules text from before before from 0
  filling_start e = record { good = e; few = omega arith; done = []; size = refl; all = refl; wrote = sym (put_none before 0) }

  module _ {words : List ℕ} {at a : ℕ} (g : Filling rules text from before words at a) where
    pub filling_length : length words ≡ length before
    filling_length = ap length g.wrote ∙ length_put before g.done 0 (omega (arith, g.few, g.size))

    pub filling_end : length text ≤ at → words ≡ put before 0 (map (word_in rules) (rows_in (drop from text)))
    filling_end h =
        g.wrote
        ∙ ap (put before 0) (sym (g.all ∙ ap (λ (rows : List Row). g.done ++ map (word_in rules) rows) (rows_none text at h) ∙ append-nil g.done))

    module _ (h : at < length text) {end : ℕ} (f : end ≡ place_of line_feed at text) where
      abbrev row : Row
      row = row_at text at end

      abbrev rows : List Row
      rows = rows_in (drop (end + 1) text)

      both : (line_number rules (length before) a row ≡ 0) × ((told_of rules (length before) (a + 1) rows).number ≡ 0)
      both = told_good rules (length before) a row rows (ap (λ (l : List Row). (told_of rules (length before) a l).number) (sym (rows_next text at f h)) ∙ g.good)

      pub filling_room : a < length before
      filling_room = good_room rules (length before) a row both.0

      pub filling_order : at ≤ end
      filling_order = found_order line_feed at text f

      pub filling_ended : end < length text
      filling_ended = ltb-true end (length text) (good_ended rules (length before) a row both.0)

      whole : record { bytes = take (end - at) (drop at text); ended = true } ≡ row
      whole = ap (λ (t : Bool). record { bytes = take (end - at) (drop at text); ended = t }) (sym (lt-ltb end (length text) filling_ended))

      pub filling_next : {read : Written} → read ≡ line_read rules a (record { bytes = take (end - at) (drop at text); ended = true })
          → Filling rules text from before (set words a read.word) (end + 1) (a + 1)
      filling_next {read = read} e =
          let w : read.word ≡ word_in rules row = ap (λ (x : Written). x.word) e ∙ ap (λ (r : Row). (line_read rules a r).word) whole ∙ good_word rules (length before) a row both.0 in
          record {
            good = both.1;
            few = omega (arith, filling_room);
            done = g.done ++ (word_in rules row ∷ []);
            size = length-append g.done (word_in rules row ∷ []) ∙ ap (λ (i : ℕ). i + 1) g.size;
            all =
                g.all
                ∙ ap (λ (l : List Row). g.done ++ map (word_in rules) l) (rows_next text at f h)
                ∙ sym (append_assoc g.done (word_in rules row ∷ []) (map (word_in rules) rows));
            wrote =
                ap₂ (λ (t : List ℕ) (i : ℕ). set t i read.word) g.wrote (place (length g.done) a g.size)
                ∙ put_more before g.done 0 read.word (omega (arith, filling_room, g.size))
                ∙ ap (λ (x : ℕ). put before 0 (g.done ++ (x ∷ []))) w;
          }
        where
          place : (a b : ℕ) → a ≡ b → b ≡ 0 + a
          place a b e = omega arith

-- ---- a text

module _ (rules : Rules) (text before : List ℕ) where
  pub not_headed : None ≡ pick (is_headed text) (Some (length header_text)) None → ReadsBack rules text before before (refused_at 60 1)
  unfolding read_back
  not_headed e = record { answer = sym (ap (λ (t : Bool). pick t (told_of rules (length before) 0 (body_rows text)) (refused_at 60 1)) (edition_not 1 text e)); words = refl }

  module _ {from : ℕ} (e : Some from ≡ pick (is_headed text) (Some (length header_text)) None) {told : ReadBack} (t : told ≡ told_of rules (length before) 0 (rows_in (drop from text))) where
    headed : (is_headed text ≡ true) × (from ≡ length header_text)
    headed = edition_is 1 text e

    rest : rows_in (drop from text) ≡ body_rows text
    rest = ap (λ (n : ℕ). rows_in (drop n text)) headed.1

    answer : told ≡ read_back rules (length before) text
    unfolding read_back
    answer =
        t ∙ ap (told_of rules (length before) 0) rest
        ∙ sym (ap (λ (s : Bool). pick s (told_of rules (length before) 0 (body_rows text)) (refused_at 60 1)) headed.0)

    pub reads_refused : (told.number ≡ 0 → ⊥) → ReadsBack rules text before before told
    reads_refused n = record { answer = answer; words = sym (ap (λ (s : Bool). pick s (words_in rules text ++ drop (length (words_in rules text)) before) before) (ne_eqb told.number 0 n)) }

    pub reads_whole : told.number ≡ 0 → {after : List ℕ} → after ≡ put before 0 (map (word_in rules) (rows_in (drop from text))) → ReadsBack rules text before after told
    reads_whole n w =
        record {
          answer = answer;
          words =
              w ∙ ap (λ (l : List Row). put before 0 (map (word_in rules) l)) rest
              ∙ put_front before (words_in rules text)
              ∙ sym (ap (λ (s : Bool). pick s (words_in rules text ++ drop (length (words_in rules text)) before) before) (eq-eqb told.number 0 n));
        }
