-- Laws of lines laid one after the other, each with its label line before it; and how long all of them are.
-- Assumes nothing.
use Prim.Native.Nat.{ℕ, ◌+◌, ◌≤◌, ◌<◌}
use mathlib.Core.Path.{◌≡◌, refl, sym, ap, ap₂, subst, ◌∙◌}
use mathlib.Core.Bool.{Bool}
use mathlib.Core.List.{List, [], ◌∷◌, ◌++◌, append_assoc, append-nil}
use native.Mathlib.Omega.{arith}
use native.Mathlib.Nat.{add-zero}
use lib.ListN.{length, drop, length-append}
use Rattle.buffer.specs.Put.{Fits, Put}
use Rattle.buffer.proofs.Laws.{put_none, length_put, fits_next, puts_both}
use Rattle.text.specs.Cut.{line_feed, place_of, Row, row_at, rows_in, has}
use Rattle.text.proofs.Rows.{rows_next, rows_none}
use Rattle.editions.specs.Editions.{number_one}
use Rattle.editions.specs.Moves.{judged_one, targets_in, labelled_from}
use Rattle.to_labels.specs.Loops.{named_line, label_text, Movable, parts_text, PartsOf, place_at, Noted, named_size, labels_size, Layable, labelled_lines}
use Rattle.to_labels.specs.declared.Parts.{Parts}
use Rattle.to_labels.proofs.Judging.{row_well, judged_good}
use Rattle.to_labels.proofs.Noting.{place_next}

-- ---- laid one after the other

pub record Placing (n : ℕ) (text : List ℕ) (from : ℕ) (before : List ℕ) (start a at : ℕ) (out : List ℕ) (place : ℕ) : Type 0 where
  pub here : at ≡ place_at text from a
  pub count : a + length (rows_in (drop at text)) ≡ n
  pub well : (judged_one n a (rows_in (drop at text))).number ≡ 0
  pub done : List ℕ
  pub lines : done ++ labelled_from (targets_in (rows_in (drop from text))) a (rows_in (drop at text)) ≡ labelled_lines (rows_in (drop from text))
  pub puts : Put done before start out place

labelled_next : (targets : List ℕ) (a : ℕ) (row : Row) (rows : List Row)
    → labelled_from targets a (row ∷ rows) ≡ (label_text (has a targets) a ++ named_line row.bytes) ++ labelled_from targets (a + 1) rows
unfolding labelled_from
labelled_next targets a row rows = sym (append_assoc (label_text (has a targets) a) (named_line row.bytes) (labelled_from targets (a + 1) rows))

labelled_none : (targets : List ℕ) (a : ℕ) → labelled_from targets a [] ≡ []
unfolding labelled_from
labelled_none targets a = refl

module _ (n : ℕ) (text : List ℕ) (from : ℕ) (marks notes before : List ℕ) (start : ℕ) (all : Layable n text from marks notes before start) where
  abbrev rows : List Row
  rows = rows_in (drop from text)

  pub placing_start : Placing n text from before start 0 from before start
  placing_start =
      record {
        here = refl;
        count = omega (arith, all.known.all.lines.count);
        well = all.known.all.well;
        done = [];
        lines = refl;
        puts = record { wrote = sym (put_none before start); end = sym (add-zero start) };
      }

  module _ {a at : ℕ} {out : List ℕ} {place : ℕ} (p : Placing n text from before start a at out place) where
    abbrev left : List Row
    left = rows_in (drop at text)

    room : Fits p.done before start
    room = omega (arith, all.fits, ap length p.lines, length-append p.done (labelled_from (targets_in rows) a left))

    pub placing_length : length out ≡ length before
    placing_length = ap length p.puts.wrote ∙ length_put before p.done start room

    pub placing_end : length text ≤ at → Put (labelled_lines rows) before start out place
    placing_end h =
        subst (λ (l : List ℕ). Put l before start out place)
        (sym (append-nil p.done) ∙ ap (λ (l : List ℕ). p.done ++ l) (sym (labelled_none (targets_in rows) a) ∙ ap (labelled_from (targets_in rows) a) (sym (rows_none text at h))) ∙ p.lines)
        p.puts

    module _ (h : at < length text) where
      good : {end : ℕ} → end ≡ place_of line_feed at text → (number_one n a (row_at text at end) ≡ 0) × ((judged_one n (a + 1) (rows_in (drop (end + 1) text))).number ≡ 0)
      good {end = end} f = judged_good n a (row_at text at end) (rows_in (drop (end + 1) text)) (ap (λ (ls : List Row). (judged_one n a ls).number) (sym (rows_next text at f h)) ∙ p.well)

      pub placing_below : a < n
      placing_below = omega (arith, ap length (rows_next text at refl h), p.count)

      pub placing_movable : Movable text at
      placing_movable = record { here = h; n = n; a = a; well = row_well n a (row_at text at (place_of line_feed at text)) (good refl).0 }

      pub placing_noted : Noted text notes at a
      placing_noted = subst (λ (k : ℕ). Noted text notes k a) (sym p.here) (all.noted a placing_below)

      module _ {on : Bool} (o : on ≡ has a (targets_in rows)) {parts : Parts} (q : PartsOf text at parts) where
        abbrev piece : List ℕ
        piece = label_text on a ++ parts_text text parts

        later : List ℕ
        later = labelled_from (targets_in rows) (a + 1) (rows_in (drop (parts.end + 1) text))

        lines_next : (p.done ++ piece) ++ later ≡ labelled_lines rows
        unfolding later
        lines_next =
            append_assoc p.done piece later
            ∙ ap₂ (λ (t : Bool) (l : List ℕ). p.done ++ ((label_text t a ++ l) ++ later)) o (sym q.says)
            ∙ ap (λ (l : List ℕ). p.done ++ l) (sym (labelled_next (targets_in rows) a (row_at text at parts.end) (rows_in (drop (parts.end + 1) text))) ∙ ap (labelled_from (targets_in rows) a) (sym (rows_next text at q.ends h)))
            ∙ p.lines

        room_next : Fits (p.done ++ piece) before start
        room_next = omega (arith, all.fits, ap length lines_next, length-append (p.done ++ piece) later)

        pub placing_fits : Fits piece out place
        placing_fits = fits_next p.done piece before start room_next p.puts

        pub placing_next : {after : List ℕ} {r : ℕ} → Put piece out place after r → Placing n text from before start (a + 1) (parts.end + 1) after r
        unfolding later
        placing_next w =
            record {
              here = place_next text from a q.ends p.here;
              count = omega (arith, ap length (rows_next text at q.ends h), p.count);
              well = (good q.ends).1;
              done = p.done ++ piece;
              lines = lines_next;
              puts = puts_both p.done piece before start room_next p.puts w;
            }

-- ---- how long all of it is

pub labelled_size : (targets : List ℕ) (a : ℕ) (rows : List Row) → length (labelled_from targets a rows) ≡ named_size rows + labels_size targets a (length rows)
labelled_size targets a [] = ap length (labelled_none targets a)
labelled_size targets a (row ∷ rows) =
    let label = label_text (has a targets) a in
    let line = named_line row.bytes in
    omega (
      arith,
      ap length (labelled_next targets a row rows),
      length-append (label ++ line) (labelled_from targets (a + 1) rows),
      length-append label line,
      labelled_size targets (a + 1) rows,
    )
