-- Laws of the whole move: what is known of the labels once they are collected, and a text judged and then written whole or not at all.
-- Assumes nothing.
use Prim.Native.Nat.{ℕ, zero, suc, ◌+◌, ◌*◌, ◌≤◌, ◌<◌}
use mathlib.Core.Path.{◌≡◌, refl, sym, ap, ap₂, subst, ◌∙◌}
use mathlib.Core.Bool.{Bool, true, false}
use mathlib.Core.List.{List, [], ◌∷◌, ◌++◌}
use native.Mathlib.Omega.{arith}
use lib.ListN.{length, get_or, take, drop, length-append}
use lib.Seq.{get_or-take, length-take-le}
use Rattle.std.specs.Prelude.{Option, Some, None, IfSome}
use Rattle.instruction.specs.Bits.{pick}
use Rattle.buffer.specs.Put.{Fits, Put}
use Rattle.text.specs.Cut.{Row, fields_in, rows_in}
use Rattle.label.specs.Label.{is_label}
use Rattle.label.specs.First.{IsDouble}
use Rattle.label.specs.Key.{key_of, count, Holds, Seen}
use Rattle.label.specs.declared.Key.{Key}
use Rattle.label.proofs.Packed.{label_one}
use Rattle.listing.specs.Listing.{head_of}
use Rattle.listing_reader.specs.ReadBack.{is_edition, rows_behind}
use Rattle.listing_reader.proofs.Lines.{header_size, edition_is, edition_not}
use Rattle.editions.specs.Editions.{is_label_line, label_in, defines}
use Rattle.editions.specs.Moves.{refused_at, moved, Moves, defined_from, labels_of, judged_two, labels_judged, addressed_from, addressed, ToAddresses}
use Rattle.editions.specs.Told.{RoomFor}
use Rattle.editions.specs.declared.Moved.{Moved}
use Rattle.editions.specs.declared.Room.{Room}
use Rattle.editions.proofs.Two.{defined_label}
use Rattle.editions.proofs.Whole.{refused_lines, passed_lines, moves_short, head_fits, lines_fit, moves_whole}
use Rattle.to_addresses.specs.Moving.{rows_from, defined_in, nothing, Collected, Knows, Notes, BadLine, GoodLines, Parts, Finishes}
use Rattle.text.specs.declared.Refused.{Refused}
use Rattle.to_addresses.specs.declared.Passed.{Passed}
use Rattle.to_addresses.proofs.Seeking.{labels_length, label_at}

-- ---- what is known of the labels

-- what lines define is labels
all_labels : (a : ℕ) (rows : List Row) (j : ℕ) → j < length (defined_from a rows) → is_label (get_or (defined_from a rows) j nothing).called ≡ true
all_labels a [] j l = absurd (omega arith)
all_labels a (row ∷ rows) j l = by (defines row) (is_label_line (fields_in row)) refl j l (λ b i m. all_labels b rows i m)
  where
    by : (t u : Bool) → defines row ≡ t → (j : ℕ)
        → j < length (pick t (record { called = label_in (fields_in row); means = a } ∷ defined_from a rows) (pick u (defined_from a rows) (defined_from (a + 1) rows)))
        → ((b : ℕ) (i : ℕ) → i < length (defined_from b rows) → is_label (get_or (defined_from b rows) i nothing).called ≡ true)
        → is_label (get_or (pick t (record { called = label_in (fields_in row); means = a } ∷ defined_from a rows) (pick u (defined_from a rows) (defined_from (a + 1) rows))) j nothing).called ≡ true
    by true u e zero l ih = defined_label row e
    by true u e (suc j) l ih = ih a j (omega arith)
    by false true e j l ih = ih a j l
    by false false e j l ih = ih (a + 1) j l

module _ (text : List ℕ) (from : ℕ) (keys table : List ℕ) (end : Passed) (p : Parts text from keys end) where
  module _ {first : ℕ} (s : Seen keys table first × (count keys ≡ end.labels)) where
    whole : count keys ≡ end.labels
    whole = s.1

    many : count keys ≡ length (labels_of (defined_in text from))
    many = omega (arith, whole, p.collected.labels, labels_length (defined_in text from))

    inside : (j : ℕ) → j < length (labels_of (defined_in text from)) → j < length (defined_in text from)
    inside j l = omega (arith, l, labels_length (defined_in text from))

    holds : Holds (labels_of (defined_in text from)) keys
    holds =
        record {
          many = many;
          each = λ j l.
              (p.collected.kept j (omega (arith, inside j l, p.collected.labels)) (omega (arith, l, many))).0
              ∙ ap key_of (sym (label_at (defined_in text from) j));
          shaped = λ j l. ap is_label (label_at (defined_in text from) j) ∙ all_labels 0 (rows_from text from) j (inside j l);
        }

    double : IsDouble (λ i. get_or (labels_of (defined_in text from)) i []) (length (defined_in text from)) first
    double =
        let d = s.0.first in
        record {
          low = omega (arith, d.low, many, labels_length (defined_in text from));
          here = λ l.
              let w = d.here (omega (arith, l, many, labels_length (defined_in text from))) in
              (w.0, w.1, label_one (labels_of (defined_in text from)) keys holds w.0 first (omega (arith, w.1, l, labels_length (defined_in text from))) (omega (arith, l, labels_length (defined_in text from))) w.2);
          none = λ j i l m e.
              let k : j < length (labels_of (defined_in text from)) = omega (arith, l, d.low, many) in
              d.none j i l m (holds.each i (omega (arith, m, k)) ∙ ap key_of e ∙ sym (holds.each j k));
        }

  pub knows : {double : Option ℕ} → IfSome double (λ d. Seen keys table d × (count keys ≡ end.labels))
      → Knows text keys table (record { from = from; double = double; labels = end.labels; words = end.words })
  knows {double = None} s =
      record { labels = p.collected.labels; words = p.collected.words; holds = λ d r. cc; means = λ d r. cc; looked = λ d r. cc; double = λ d r. cc }
  knows {double = Some first} s =
      record {
        labels = p.collected.labels;
        words = p.collected.words;
        holds = λ d r. holds s;
        means = λ d r j l. (p.collected.kept j (omega (arith, l, whole s)) l).1;
        looked = λ d r. s.0.looked;
        double = λ d r. let e : first ≡ d = cc in subst (IsDouble (λ i. get_or (labels_of (defined_in text from)) i []) (length (defined_in text from))) e (double s);
      }

-- ---- judged, and written

pub finish_notes : (text : List ℕ) (from : ℕ) (keys : List ℕ) (end : Passed) → Parts text from keys end → {room left : Room} {notes : List ℕ} → GoodLines text from room notes left
    → Notes text from notes end.words
finish_notes text from keys end p {notes = notes} j = subst (Notes text from notes) (sym p.collected.words) j.kept

module _ (text : List ℕ) (from : ℕ) (before : List ℕ) where
  pub finish_bad : {e : Refused} → BadLine text from e → {m : Moved} → m ≡ refused_at e.number e.line → Finishes text from before before m
  finish_bad j e =
      refused_lines (judged_two (labels_of (defined_in text from)) [] 2 (rows_from text from)) (head_of 1 ++ addressed_from (defined_in text from) 0 (rows_from text from)) before
      (λ z. j.some (ap (λ (x : Moved). x.number) j.told ∙ z)) (e ∙ j.told)

  module _ (h : from ≡ length (head_of 1)) {room left : Room} (r : RoomFor (length before) from room) {notes : List ℕ} (j : GoodLines text from room notes left) where
    pub finish_good : (judged_two (labels_of (defined_in text from)) [] 2 (rows_from text from)).number ≡ 0
    finish_good = sym (ap (λ (x : Moved). x.number) j.told)

    told : RoomFor (length before) (length (head_of 1 ++ addressed_from (defined_in text from) 0 (rows_from text from))) left
    told =
        subst (λ (n : ℕ). RoomFor (length before) n left)
        (omega (arith, h, length-append (head_of 1) (addressed_from (defined_in text from) 0 (rows_from text from))))
        (j.takes (length before) from r)

    passed : {after : List ℕ} {m : Moved} → Moves (moved 0) (head_of 1 ++ addressed_from (defined_in text from) 0 (rows_from text from)) before after m → Finishes text from before after m
    passed w = passed_lines (judged_two (labels_of (defined_in text from)) [] 2 (rows_from text from)) (head_of 1 ++ addressed_from (defined_in text from) 0 (rows_from text from)) before finish_good w

    pub finish_short : left.left ≡ 0 → {m : Moved} → m ≡ refused_at 64 0 → Finishes text from before before m
    finish_short f e = passed (moves_short (head_of 1) (addressed_from (defined_in text from) 0 (rows_from text from)) before told f e)

    module _ (f : left.left ≡ 0 → ⊥) where
      pub finish_head : Fits (head_of 1) before 0
      finish_head = head_fits (head_of 1) (addressed_from (defined_in text from) 0 (rows_from text from)) before told f

      module _ {headed : List ℕ} {start : ℕ} (w : Put (head_of 1) before 0 headed start) where
        pub finish_rows : Fits (addressed_from (defined_in text from) 0 (rows_from text from)) headed start
        finish_rows = lines_fit (head_of 1) (addressed_from (defined_in text from) 0 (rows_from text from)) before told f w

        pub finish_whole : {after : List ℕ} {size : ℕ} → Put (addressed_from (defined_in text from) 0 (rows_from text from)) headed start after size → Finishes text from before after (moved size)
        finish_whole x = passed (moves_whole (head_of 1) (addressed_from (defined_in text from) 0 (rows_from text from)) before told f w x)

-- ---- a text

module _ (text : List ℕ) where
  module _ (e : None ≡ pick (is_edition 2 text) (Some (length (head_of 2))) None) (before : List ℕ) where
    judged_60 : labels_judged text ≡ refused_at 60 1
    unfolding labels_judged
    judged_60 = ap (λ (t : Bool). pick t (judged_two (labels_of (defined_from 0 (rows_behind 2 text))) [] 2 (rows_behind 2 text)) (refused_at 60 1)) (edition_not 2 text e)

    pub no_header : {m : Moved} → m ≡ refused_at 60 1 → ToAddresses text before before m
    no_header f = refused_lines (labels_judged text) (addressed text) before (λ q. omega (arith, ap (λ (x : Moved). x.number) judged_60, q)) (f ∙ sym judged_60)

  module _ {from : ℕ} (e : Some from ≡ pick (is_edition 2 text) (Some (length (head_of 2))) None) where
    headed : (is_edition 2 text ≡ true) × (from ≡ length (head_of 2))
    headed = edition_is 2 text e

    -- the headers of both editions are as long
    pub head_size : from ≡ length (head_of 1)
    head_size = headed.1 ∙ header_size 2 (omega arith) ∙ sym (header_size 1 (omega arith))

    rows_are : rows_from text from ≡ rows_behind 2 text
    rows_are = ap (λ (k : ℕ). rows_in (drop k text)) headed.1

    judged_is : judged_two (labels_of (defined_in text from)) [] 2 (rows_from text from) ≡ labels_judged text
    unfolding labels_judged
    judged_is =
        ap (λ (rows : List Row). judged_two (labels_of (defined_from 0 rows)) [] 2 rows) rows_are
        ∙ sym (ap (λ (t : Bool). pick t (judged_two (labels_of (defined_from 0 (rows_behind 2 text))) [] 2 (rows_behind 2 text)) (refused_at 60 1)) headed.0)

    text_is : head_of 1 ++ addressed_from (defined_in text from) 0 (rows_from text from) ≡ addressed text
    unfolding addressed
    text_is = ap (λ (rows : List Row). head_of 1 ++ addressed_from (defined_from 0 rows) 0 rows) rows_are

    pub move_done : (before : List ℕ) {after : List ℕ} {m : Moved} → Finishes text from before after m → ToAddresses text before after m
    move_done before {after = after} {m = m} w =
        subst (λ (j : Moved). Moves j (addressed text) before after m) judged_is
        (subst (λ (l : List ℕ). Moves (judged_two (labels_of (defined_in text from)) [] 2 (rows_from text from)) l before after m) text_is w)

    -- the first n labels of those collected
    pub parts : {keys : List ℕ} {end : Passed} → Collected text from keys end → (n : ℕ) → 3 * n ≤ length keys → Parts text from (take (3 * n) keys) end
    parts {keys = keys} {end = end} c n k =
        let a = length-take-le (3 * n) keys k in
        record {
          head = head_size;
          collected =
              record {
                labels = c.labels;
                words = c.words;
                kept = λ j m o.
                    let w = c.kept j m (omega (arith, o, a, k)) in (
                      ap₂ (λ (x y : ℕ). key_of_lem x y) (get_or-take (3 * n) keys (3 * j) 0 (omega (arith, o, a))) (get_or-take (3 * n) keys (3 * j + 1) 0 (omega (arith, o, a))) ∙ w.0,
                      get_or-take (3 * n) keys (3 * j + 2) 0 (omega (arith, o, a)) ∙ w.1,
                    );
              };
        }
      where
        key_of_lem : ℕ → ℕ → Key
        key_of_lem x y = record { lo = x; hi = y }
