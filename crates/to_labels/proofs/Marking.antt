-- Laws of lines judged one after the other while their targets are marked and notes of them are kept.
-- Assumes nothing.
use Prim.Native.Nat.{ℕ, suc, ◌+◌, ◌-◌, ◌≤◌, ◌<◌}
use mathlib.Core.Path.{◌≡◌, refl, sym, ap, subst, ◌∙◌}
use mathlib.Core.List.{List, [], ◌∷◌}
use native.Mathlib.Omega.{arith}
use lib.ListN.{length, drop}
use Rattle.instruction.specs.Bits.{pick}
use Rattle.text.specs.Cut.{tab, line_feed, cut, place_of, Row, row_at, rows_in}
use Rattle.text.specs.Line.{decimal}
use Rattle.text.proofs.Cuts.{found_order, found_inside}
use Rattle.text.proofs.Rows.{rows_next, rows_none}
use Rattle.editions.specs.Editions.{number_one}
use Rattle.editions.specs.Moves.{refused_at, judged_one}
use Rattle.editions.specs.Told.{nowhere, final_from, taken, Takes, TellsOne}
use Rattle.editions.specs.declared.LineOne.{LineOne}
use Rattle.editions.specs.declared.Room.{Room}
use Rattle.editions.proofs.Rooms.{takes_none, takes_more}
use Rattle.to_labels.specs.Loops.{TellsRow, is_plain, Named, PartsOf, parts_by, PartsFit, place_at, kept_note, Notes, named_size, marked_of, Ready, BadLine, GoodLines}
use Rattle.to_labels.specs.declared.Parts.{Parts}
use Rattle.to_labels.proofs.Judging.{row_tells, row_size, judged_next, judged_bad, judged_none}
use Rattle.to_labels.proofs.Marks.{MarkedYet, yet_start, yet_end, yet_next, marked_length}
use Rattle.to_labels.proofs.Naming.{plain_told, named_well, named_length, aim_size}
use Rattle.to_labels.proofs.Noting.{place_next, notes_next, kept_length}
use Rattle.to_labels.proofs.Parting.{name_inside, told_fit, told_parts}

pub record JudgingLines (n : ℕ) (text : List ℕ) (from : ℕ) (given : Room) (before kept : List ℕ) (a at : ℕ) (marks notes : List ℕ) (room : Room) : Type 0 where
  pub count : a + length (rows_in (drop at text)) ≡ n
  pub told : judged_one n a (rows_in (drop at text)) ≡ judged_one n 0 (rows_in (drop from text))
  pub size : ℕ
  pub sum : size + named_size (rows_in (drop at text)) ≡ named_size (rows_in (drop from text))
  pub takes : Takes given size room
  pub same : length marks ≡ length before
  pub yet : MarkedYet 0 (rows_in (drop from text)) (rows_in (drop at text)) marks
  pub place : at ≡ place_at text from a
  pub long : length notes ≡ length kept
  pub noted : Notes text from notes a

module _ (n : ℕ) (text : List ℕ) (from : ℕ) (given : Room) (before kept : List ℕ) (ready : Ready n (rows_in (drop from text)) before) where
  abbrev rows : List Row
  rows = rows_in (drop from text)

  pub judging_start : JudgingLines n text from given before kept 0 from before kept given
  judging_start =
      record {
        count = omega (arith, ready.lines.count);
        told = refl;
        size = 0;
        sum = omega arith;
        takes = takes_none given;
        same = refl;
        yet = yet_start 0 rows before ready.clear;
        place = refl;
        long = refl;
        noted = λ b l. absurd (omega (arith, l));
      }

  module _ {a at : ℕ} {marks notes : List ℕ} {room : Room} (j : JudgingLines n text from given before kept a at marks notes room) where
    pub judging_end : length text ≤ at → GoodLines n text from given marks notes room
    judging_end h =
        record {
          told = sym (sym j.told ∙ ap (judged_one n a) e ∙ judged_none n a);
          room = subst (λ (k : ℕ). Takes given k room) (whole j.size (named_size (rows_in (drop at text))) (named_size rows) j.sum (ap named_size e)) j.takes;
          size = j.same ∙ ready.size;
          marked = yet_end 0 rows (rows_in (drop at text)) marks j.yet e;
          noted = subst (Notes text from notes) all j.noted;
        }
      where
        e : rows_in (drop at text) ≡ []
        e = rows_none text at h

        whole : (s m t : ℕ) → s + m ≡ t → m ≡ 0 → s ≡ t
        whole s m t p q = omega arith

        all : a ≡ n
        all = omega (arith, j.count, ap length e)

    module _ {end : ℕ} (f : end ≡ place_of line_feed at text) (h : at < length text) where
      abbrev row : Row
      row = row_at text at end

      abbrev rest : List Row
      rest = rows_in (drop (end + 1) text)

      e : rows_in (drop at text) ≡ row_at text at end ∷ rows_in (drop (end + 1) text)
      e = rows_next text at f h

      judging_below : a + suc (length rest) ≡ n
      judging_below = ap (λ (k : ℕ). a + k) (sym (ap length e)) ∙ j.count

      pub judging_line : a + 2 ≤ nowhere
      judging_line = omega (arith, judging_below, ready.lines.few)

      next : judged_one n a (row ∷ rest) ≡ judged_one n 0 rows
      next = ap (judged_one n a) (sym e) ∙ j.told

      module _ {told : LineOne} (t : TellsRow n a row told) where
        pub judging_bad : (told.number ≡ 0 → ⊥) → BadLine n text from (record { number = told.number; line = a + 2 })
        judging_bad p =
            record {
              told = ap (λ (k : ℕ). refused_at k (a + 2)) t.number ∙ sym (judged_bad n a row rest (λ q. p (t.number ∙ q))) ∙ next;
              some = p;
            }

        module _ (z : told.number ≡ 0) where
          good : number_one n a row ≡ 0
          good = sym t.number ∙ z

          told_row : TellsOne n a (cut tab row.bytes) told
          told_row = row_tells n a row good t

          judging_named : Named row.bytes told
          judging_named = named_well n a row.bytes (sym told_row.number ∙ z) told (told_row.from z) (plain_told n a (cut tab row.bytes) (omega (arith, ready.lines.few)) told_row z)

          pub judging_size : (0 < told.from) × (told.from ≤ end + 1 - at)
          judging_size = (judging_named.some, omega (arith, name_inside text at f h told judging_named))

          digits : (told.target ≡ nowhere → ⊥) → final_from row.bytes + length (decimal told.target) ≡ length row.bytes
          digits = aim_size n a row.bytes (sym told_row.number ∙ z) told (told_row.from z) (plain_told n a (cut tab row.bytes) (omega (arith, ready.lines.few)) told_row z) (told_row.target z)

          pub judging_fit : PartsFit at end told
          judging_fit = told_fit text at f h told judging_named digits

          pub judging_next : {more : ℕ} → more ≡ end + 1 - at - told.from + pick (is_plain told) 0 1 → {r : Room} → r ≡ taken more room
              → {after : List ℕ} → after ≡ marked_of 0 told.target marks → {parts : Parts} → parts ≡ parts_by at end told → {later : List ℕ} → later ≡ kept_note notes a parts
              → JudgingLines n text from given before kept (a + 1) (end + 1) after later r
          judging_next {more = more} s q w {parts = parts} i k =
              record {
                count = omega (arith, judging_below);
                told = sym (judged_next n a row rest good) ∙ next;
                size = j.size + more;
                sum = omega (arith, j.sum, ap named_size e, s, row_size text at end (found_order line_feed at text f) (found_inside line_feed at text f (omega (arith, h))), named_length row.bytes told judging_named);
                takes = takes_more given j.size more j.takes q;
                same = ap length w ∙ marked_length 0 told.target marks ∙ j.same;
                yet = yet_next 0 rows (rows_in (drop at text)) marks (omega (arith, j.same, ready.size)) j.yet e (t.target z) w;
                place = place_next text from a f j.place;
                long = ap length k ∙ kept_length notes a parts ∙ j.long;
                noted = notes_next text from notes a j.place j.noted parts (subst (PartsOf text at) (sym i) (told_parts text at f h told judging_named digits)) k;
              }
