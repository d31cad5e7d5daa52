-- Laws of the whole text: judged, and then written whole or not at all.
-- Assumes nothing.
use Prim.Native.Nat.{ℕ, ◌+◌}
use mathlib.Core.Path.{◌≡◌, sym, ap, ap₂, subst, ◌∙◌}
use mathlib.Core.Bool.{Bool, true}
use mathlib.Core.List.{List}
use native.Mathlib.Omega.{arith}
use lib.ListN.{length, drop, replicate, length-replicate, length-append}
use Rattle.std.specs.Prelude.{Some, None}
use Rattle.instruction.specs.Bits.{pick}
use Rattle.buffer.specs.Put.{Fits, Put}
use Rattle.text.specs.Cut.{Row, rows_in}
use Rattle.listing.specs.Listing.{head_of}
use Rattle.listing_reader.specs.ReadBack.{is_edition, rows_behind}
use Rattle.listing_reader.proofs.Lines.{header_size, edition_is, edition_not}
use Rattle.editions.specs.Moves.{refused_at, moved, Moves, judged_one, lines_judged, targets_in, labelled, ToLabels}
use Rattle.editions.specs.Told.{room_behind, RoomFor}
use Rattle.editions.specs.declared.Moved.{Moved}
use Rattle.editions.specs.declared.Room.{Room}
use Rattle.editions.proofs.Whole.{refused_lines, passed_lines, moves_short, head_fits, lines_fit, moves_whole}
use Rattle.editions.proofs.Rooms.{head_room}
use Rattle.to_labels.specs.Loops.{mark_count, LabelsRoom, named_size, labels_size, LineCount, Ready, BadLine, GoodLines, Layable, labelled_lines, Passed, labelled_text}
use Rattle.text.specs.declared.Refused.{Refused}
use Rattle.to_labels.proofs.Marks.{clear_marks}
use Rattle.to_labels.proofs.Placing.{labelled_size}

-- ---- written, or not

module _ (n : ℕ) (text : List ℕ) (from : ℕ) (marks notes before : List ℕ) {room : Room} (p : Passed n text from marks notes before room)
    {known : List ℕ} {left : Room} (t : LabelsRoom n (rows_in (drop from text)) room known left) where
  abbrev lines : List Row
  lines = rows_in (drop from text)

  size : from + named_size lines + labels_size (targets_in lines) 0 n ≡ length (labelled_text lines)
  size =
      ap₂ (λ (h k : ℕ). h + named_size lines + labels_size (targets_in lines) 0 k) p.head p.known.all.lines.count
      ∙ omega (arith, length-append (head_of 2) (labelled_lines lines), labelled_size (targets_in lines) 0 lines)

  told : RoomFor (length before) (length (labelled_text lines)) left
  told = subst (λ (k : ℕ). RoomFor (length before) k left) size (t.room (length before) (from + named_size lines) p.left)

  pub finish_short : left.left ≡ 0 → {r : Moved} → r ≡ refused_at 64 0 → Moves (moved 0) (labelled_text lines) before before r
  finish_short e f = moves_short (head_of 2) (labelled_lines lines) before told e f

  module _ (e : left.left ≡ 0 → ⊥) where
    pub finish_head : Fits (head_of 2) before 0
    finish_head = head_fits (head_of 2) (labelled_lines lines) before told e

    module _ {headed : List ℕ} {start : ℕ} (h : Put (head_of 2) before 0 headed start) where
      pub finish_lines : Layable n text from known notes headed start
      finish_lines = record { known = t.known; noted = p.noted; fits = lines_fit (head_of 2) (labelled_lines lines) before told e h }

      pub finish_whole : {after : List ℕ} {end : ℕ} → Put (labelled_lines lines) headed start after end → Moves (moved 0) (labelled_text lines) before after (moved end)
      finish_whole w = moves_whole (head_of 2) (labelled_lines lines) before told e h w

-- ---- judged first

module _ (text before : List ℕ) where
  module _ (e : None ≡ pick (is_edition 1 text) (Some (length (head_of 1))) None) where
    judged_60 : lines_judged text ≡ refused_at 60 1
    unfolding lines_judged
    judged_60 = ap (λ (t : Bool). pick t (judged_one (length (rows_behind 1 text)) 0 (rows_behind 1 text)) (refused_at 60 1)) (edition_not 1 text e)

    pub no_header : {r : Moved} → r ≡ refused_at 60 1 → ToLabels text before before r
    no_header f = refused_lines (lines_judged text) (labelled text) before (λ q. omega (arith, ap (λ (x : Moved). x.number) judged_60, q)) (f ∙ sym judged_60)

  module _ {from : ℕ} (e : Some from ≡ pick (is_edition 1 text) (Some (length (head_of 1))) None) where
    abbrev rows : List Row
    rows = rows_in (drop from text)

    headed : (is_edition 1 text ≡ true) × (from ≡ length (head_of 1))
    headed = edition_is 1 text e

    rows_are : rows ≡ rows_behind 1 text
    rows_are = ap (λ (k : ℕ). rows_in (drop k text)) headed.1

    text_is : labelled_text rows ≡ labelled text
    unfolding labelled
    text_is = ap labelled_text rows_are

    module _ {n : ℕ} (c : LineCount rows n) where
      judged_is : judged_one n 0 rows ≡ lines_judged text
      unfolding lines_judged
      judged_is =
          ap₂ (λ (k : ℕ) (ls : List Row). judged_one k 0 ls) (c.count ∙ ap length rows_are) rows_are
          ∙ sym (ap (λ (t : Bool). pick t (judged_one (length (rows_behind 1 text)) 0 (rows_behind 1 text)) (refused_at 60 1)) headed.0)

      pub lines_ready : Ready n rows (replicate mark_count 0)
      lines_ready = record { lines = c; size = length-replicate {A = ℕ} mark_count 0; clear = clear_marks mark_count 0 }

      pub bad_line_lem : {e : Refused} → BadLine n text from e → {r : Moved} → r ≡ refused_at e.number e.line → ToLabels text before before r
      bad_line_lem {e = e} j f =
          refused_lines (lines_judged text) (labelled text) before (λ z. j.some (ap (λ (x : Moved). x.number) told ∙ z)) (f ∙ told)
        where
          told : refused_at e.number e.line ≡ lines_judged text
          told = j.told ∙ judged_is

      module _ {room left : Room} {marks notes : List ℕ} (j : GoodLines n text from room marks notes left) where
        well : (judged_one n 0 rows).number ≡ 0
        well = sym (ap (λ (x : Moved). x.number) j.told)

        pub lines_passed : room ≡ room_behind (length before) from → Passed n text from marks notes before left
        lines_passed r =
            record {
              known = record { all = record { lines = c; well = well }; size = j.size; marked = j.marked };
              noted = j.noted;
              head = headed.1 ∙ header_size 1 (omega arith) ∙ sym (header_size 2 (omega arith));
              left = j.room (length before) from (head_room (length before) from r);
            }

        pub good_lines : {after : List ℕ} {r : Moved} → Moves (moved 0) (labelled_text rows) before after r → ToLabels text before after r
        good_lines {after = after} {r = r} m =
            passed_lines (lines_judged text) (labelled text) before (sym (ap (λ (x : Moved). x.number) judged_is) ∙ well)
            (subst (λ (l : List ℕ). Moves (moved 0) l before after r) text_is m)
