-- Laws of what lines move to, laid one after the other.
-- Assumes nothing.
use Prim.Native.Nat.{ℕ, zero, suc, ◌+◌, ◌-◌, ◌^◌, ◌≤◌, ◌<◌}
use mathlib.Core.Path.{◌≡◌, refl, sym, ap, ap₂, subst, ◌∙◌}
use mathlib.Core.Bool.{Bool, true, false, ◌&&◌}
use mathlib.Core.List.{List, [], ◌∷◌, ◌++◌, append_assoc, append-nil}
use native.Mathlib.Omega.{arith}
use native.Mathlib.Nat.{add-zero}
use native.Mathlib.Decide.{ℕ_discrete}
use native.Mathlib.Numerals.{add-one}
use borrow.Author.Tests.{eq-eqb, ne_eqb}
use lib.Dec.{eqb}
use lib.ListN.{length, get_or, take, drop, length-append, length-drop}
use lib.Seq.{length-take-le, take-take}
use Rattle.instruction.specs.Bits.{pick}
use Rattle.buffer.specs.Put.{Fits, Put}
use Rattle.buffer.proofs.Laws.{put_none, length_put, fits_next, puts_both}
use Rattle.text.specs.Cut.{tab, line_feed, place_of, Row, row_at, fields_in}
use Rattle.text.specs.Line.{decimal}
use Rattle.text.proofs.Bools.{both}
use Rattle.text.proofs.Cuts.{found_order, found_inside}
use Rattle.text.proofs.Rows.{rows_next, rows_none}
use Rattle.fields.specs.Fields.{all_numbers}
use Rattle.label.specs.Label.{is_label}
use Rattle.editions.specs.Editions.{line_of, is_label_line, fields_two, jumps_two, target_two, number_two}
use Rattle.editions.specs.Moves.{labels_of, labels_past, meaning_in, judged_two, fields_placed, addressed_from}
use Rattle.editions.specs.Told.{shape_two, final_from, GlancesTwo, has_target}
use Rattle.editions.specs.declared.LineTwo.{LineTwo}
use Rattle.editions.specs.declared.Moved.{Moved}
use Rattle.editions.proofs.Two.{good_jump}
use Rattle.to_addresses.specs.Moving.{rows_from, defined_in, row_here, label_to, moved_line, note_line, note_count, start_in, stop_in, means_in, next_in, behind_in, NoteIn, Layable, LaysRow, Noted, LaysNoted, LayableFrom, LayableAll}
use Rattle.to_addresses.specs.declared.Known.{Known}
use Rattle.to_addresses.specs.declared.Laid.{Laid}
use Rattle.to_addresses.proofs.Judging.{shape_of_number}
use Rattle.to_addresses.proofs.Passing.{part_of}
use Rattle.to_addresses.proofs.Placing.{placed_plain, placed_jump, final_target}
use Rattle.to_addresses.proofs.Verdicts.{judged_next, judged_bad, addressed_label, addressed_word, addressed_none}

-- ---- a line

module _ (text keys table : List ℕ) (k : Known) (out : List ℕ) (laid : Laid) (y : Layable text keys table k out laid) {end : ℕ} (f : end ≡ place_of line_feed laid.at text)
    {told : LineTwo} (t : GlancesTwo (take (end - laid.at) (drop laid.at text)) told) where
  order : laid.at ≤ end
  order = found_order line_feed laid.at text f

  inside : end ≤ length text
  inside = found_inside line_feed laid.at text f (let l = y.here in omega arith)

  size : length (take (end - laid.at) (drop laid.at text)) ≡ end - laid.at
  size = length-take-le (end - laid.at) (drop laid.at text) (omega (arith, length-drop laid.at text, inside))

  -- the line at hand
  here_is : row_at text laid.at end ≡ row_here text laid.at
  here_is = ap (row_at text laid.at) f

  shape : shape_two (row_at text laid.at end).ended (fields_in (row_at text laid.at end)) ≡ 0
  shape = ap (λ (r : Row). shape_two r.ended (fields_in r)) here_is ∙ y.shape

  fits : Fits (moved_line (defined_in text k.from) laid.words (row_at text laid.at end)) out laid.place
  fits = subst (λ (r : Row). Fits (moved_line (defined_in text k.from) laid.words r) out laid.place) (sym here_is) y.fits

  -- laid as it is told
  lays_so : {after : List ℕ} {place words : ℕ} → Put (moved_line (defined_in text k.from) laid.words (row_at text laid.at end)) out laid.place after place
      → words ≡ pick (is_label_line (fields_in (row_at text laid.at end))) laid.words (laid.words + 1) → LaysRow text k.from out laid after (record { at = end + 1; place = place; words = words })
  lays_so {after = after} {place = place} {words = words} p c =
      record {
        puts = subst (λ (r : Row). Put (moved_line (defined_in text k.from) laid.words r) out laid.place after place) here_is p;
        counts = c ∙ ap (λ (r : Row). pick (is_label_line (fields_in r)) laid.words (laid.words + 1)) here_is;
        behind = ap (λ (n : ℕ). n + 1) f;
      }

  moved_as : {u : Bool} → is_label_line (fields_in (row_at text laid.at end)) ≡ u
      → moved_line (defined_in text k.from) laid.words (row_at text laid.at end) ≡ pick u [] (line_of (fields_placed (defined_in text k.from) laid.words (fields_in (row_at text laid.at end))))
  moved_as e = ap (λ (u : Bool). pick u [] (line_of (fields_placed (defined_in text k.from) laid.words (fields_in (row_at text laid.at end))))) e

  counts_as : {u : Bool} → is_label_line (fields_in (row_at text laid.at end)) ≡ u → pick u laid.words (laid.words + 1) ≡ pick (is_label_line (fields_in (row_at text laid.at end))) laid.words (laid.words + 1)
  counts_as e = ap (λ (u : Bool). pick u laid.words (laid.words + 1)) (sym e)

  pub lays_label : told.label ≡ true → LaysRow text k.from out laid out (record { at = end + 1; place = laid.place; words = laid.words })
  lays_label l =
      let e = sym t.label ∙ l in
      lays_so (subst (λ (x : List ℕ). Put x out laid.place out laid.place) (sym (moved_as e)) (record { wrote = sym (put_none out laid.place); end = sym (add-zero laid.place) })) (counts_as e)

  module _ (l : told.label ≡ false) where
    no_line : is_label_line (fields_in (row_at text laid.at end)) ≡ false
    no_line = sym t.label ∙ l

    lays : {x after : List ℕ} {r : ℕ} → x ≡ moved_line (defined_in text k.from) laid.words (row_at text laid.at end) → Put x out laid.place after r
        → LaysRow text k.from out laid after (record { at = end + 1; place = r; words = laid.words + 1 })
    lays {after = after} {r = r} e w = lays_so (subst (λ (x : List ℕ). Put x out laid.place after r) e w) (counts_as no_line)

    -- with its address before it
    address_first : (rest : List ℕ) → decimal laid.words ++ (tab ∷ rest) ≡ (decimal laid.words ++ (tab ∷ [])) ++ rest
    address_first rest = sym (append_assoc (decimal laid.words) (tab ∷ []) rest)

    module _ (j : told.jump ≡ false) where
      plain_text : moved_line (defined_in text k.from) laid.words (row_at text laid.at end) ≡ (decimal laid.words ++ (tab ∷ [])) ++ (take (end - laid.at) (drop laid.at text) ++ (line_feed ∷ []))
      plain_text =
          moved_as no_line
          ∙ placed_plain (defined_in text k.from) laid.words (take (end - laid.at) (drop laid.at text)) (sym t.jump ∙ j)
          ∙ address_first (take (end - laid.at) (drop laid.at text) ++ (line_feed ∷ []))

      pub plain_fits : Fits ((decimal laid.words ++ (tab ∷ [])) ++ (take (end - laid.at) (drop laid.at text) ++ (line_feed ∷ []))) out laid.place
      plain_fits = subst (λ (x : List ℕ). Fits x out laid.place) plain_text fits

      pub lays_plain : {after : List ℕ} {r : ℕ} → Put ((decimal laid.words ++ (tab ∷ [])) ++ (take (end - laid.at) (drop laid.at text) ++ (line_feed ∷ []))) out laid.place after r
          → LaysRow text k.from out laid after (record { at = end + 1; place = r; words = laid.words + 1 })
      lays_plain w = lays (sym plain_text) w

    module _ (j : told.jump ≡ true) where
      jump : jumps_two (fields_in (row_at text laid.at end)) ≡ true
      jump = sym t.jump ∙ j

      target : has_target (fields_two (fields_in (row_at text laid.at end))) ≡ true
      target = (good_jump (row_at text laid.at end).ended (fields_in (row_at text laid.at end)) shape jump).1

      from_is : told.from ≡ final_from (take (end - laid.at) (drop laid.at text))
      from_is = t.from j

      from_inside : told.from ≤ length (take (end - laid.at) (drop laid.at text))
      from_inside = omega (arith, from_is)

      pub lay_from : laid.at + told.from ≤ end
      lay_from = omega (arith, from_inside, size, order)

      last_is : drop told.from (take (end - laid.at) (drop laid.at text)) ≡ target_two (fields_in (row_at text laid.at end))
      last_is = ap (λ (n : ℕ). drop n (take (end - laid.at) (drop laid.at text))) from_is ∙ final_target (take (end - laid.at) (drop laid.at text)) target

      target_is : label_to text (laid.at + told.from) end ≡ target_two (fields_in (row_at text laid.at end))
      target_is = part_of text laid.at end told.from ∙ last_is

      pub lay_label : is_label (label_to text (laid.at + told.from) end) ≡ true
      lay_label =
          ap is_label target_is
          ∙ (both (all_numbers (take 2 (fields_two (fields_in (row_at text laid.at end))))) (is_label (get_or (fields_two (fields_in (row_at text laid.at end))) 2 []))
          (both (eqb (length (fields_two (fields_in (row_at text laid.at end)))) 3) (all_numbers (take 2 (fields_two (fields_in (row_at text laid.at end)))) && is_label (get_or (fields_two (fields_in (row_at text laid.at end))) 2 [])) target).1).1

      front_is : take told.from (take (end - laid.at) (drop laid.at text)) ≡ take (laid.at + told.from - laid.at) (drop laid.at text)
      front_is =
          let q : told.from ≡ laid.at + told.from - laid.at = omega arith in
          take-take told.from (end - laid.at) (drop laid.at text) (omega (arith, from_inside, size)) ∙ ap (λ (n : ℕ). take n (drop laid.at text)) q

      module _ {means : ℕ} (sought : means ≡ meaning_in (defined_in text k.from) (label_to text (laid.at + told.from) end)) where
        jump_text : moved_line (defined_in text k.from) laid.words (row_at text laid.at end)
            ≡ (decimal laid.words ++ (tab ∷ [])) ++ (take (laid.at + told.from - laid.at) (drop laid.at text) ++ (decimal means ++ (line_feed ∷ [])))
        jump_text =
            moved_as no_line
            ∙ placed_jump (defined_in text k.from) laid.words (take (end - laid.at) (drop laid.at text)) jump target {from = told.from} last_is from_inside
            ∙ address_first (take told.from (take (end - laid.at) (drop laid.at text)) ++ (decimal (meaning_in (defined_in text k.from) (target_two (fields_in (row_at text laid.at end)))) ++ (line_feed ∷ [])))
            ∙ ap₂ (λ (p : List ℕ) (m : ℕ). (decimal laid.words ++ (tab ∷ [])) ++ (p ++ (decimal m ++ (line_feed ∷ [])))) front_is (sym (sought ∙ ap (meaning_in (defined_in text k.from)) target_is))

        pub jump_fits : Fits ((decimal laid.words ++ (tab ∷ [])) ++ (take (laid.at + told.from - laid.at) (drop laid.at text) ++ (decimal means ++ (line_feed ∷ [])))) out laid.place
        jump_fits = subst (λ (x : List ℕ). Fits x out laid.place) jump_text fits

        pub lays_jump : {after : List ℕ} {r : ℕ} → Put ((decimal laid.words ++ (tab ∷ [])) ++ (take (laid.at + told.from - laid.at) (drop laid.at text) ++ (decimal means ++ (line_feed ∷ [])))) out laid.place after r
            → LaysRow text k.from out laid after (record { at = end + 1; place = r; words = laid.words + 1 })
        lays_jump w = lays (sym jump_text) w

-- ---- lines from a place on

pub record Laying (text : List ℕ) (k : Known) (start : Laid) (before : List ℕ) (laid : Laid) (out : List ℕ) : Type 0 where
  pub few : laid.words ≤ laid.at
  pub labels : List (List ℕ)
  pub line : ℕ
  pub good : (judged_two (labels_of (defined_in text k.from)) labels line (rows_from text laid.at)).number ≡ 0
  pub done : List ℕ
  pub all : done ++ addressed_from (defined_in text k.from) laid.words (rows_from text laid.at) ≡ addressed_from (defined_in text k.from) start.words (rows_from text start.at)
  pub puts : Put done before start.place out laid.place

module _ (text keys table : List ℕ) (k : Known) (before : List ℕ) (start : Laid) (a : LayableFrom text keys table k before start) where
  pub laying_start : Laying text k start before start before
  laying_start =
      record {
        few = a.few;
        labels = a.labels;
        line = a.line;
        good = a.good;
        done = [];
        all = refl;
        puts = record { wrote = sym (put_none before start.place); end = sym (add-zero start.place) };
      }

  module _ {laid : Laid} {out : List ℕ} (p : Laying text k start before laid out) where
    room : Fits p.done before start.place
    room = omega (arith, a.fits, ap length p.all, length-append p.done (addressed_from (defined_in text k.from) laid.words (rows_from text laid.at)))

    pub laying_length : length out ≡ length before
    laying_length = ap length p.puts.wrote ∙ length_put before p.done start.place room

    pub laying_end : length text ≤ laid.at → Put (addressed_from (defined_in text k.from) start.words (rows_from text start.at)) before start.place out laid.place
    laying_end l =
        subst (λ (x : List ℕ). Put x before start.place out laid.place)
        (sym (append-nil p.done)
        ∙ ap (λ (x : List ℕ). p.done ++ x) (sym (addressed_none (defined_in text k.from) laid.words) ∙ ap (addressed_from (defined_in text k.from) laid.words) (sym (rows_none text laid.at l)))
        ∙ p.all)
        p.puts

    module _ (h : laid.at < length text) where
      rows : rows_from text laid.at ≡ row_here text laid.at ∷ rows_from text (place_of line_feed laid.at text + 1)
      rows = rows_next text laid.at {end = place_of line_feed laid.at text} refl h

      good_here : number_two (labels_of (defined_in text k.from)) p.labels (rows_from text (place_of line_feed laid.at text + 1)) (row_here text laid.at) ≡ 0
      good_here = by (ℕ_discrete (number_two (labels_of (defined_in text k.from)) p.labels (rows_from text (place_of line_feed laid.at text + 1)) (row_here text laid.at)) 0)
        where
          now_good : (judged_two (labels_of (defined_in text k.from)) p.labels p.line (row_here text laid.at ∷ rows_from text (place_of line_feed laid.at text + 1))).number ≡ 0
          now_good = ap (λ (rs : List Row). (judged_two (labels_of (defined_in text k.from)) p.labels p.line rs).number) (sym rows) ∙ p.good

          by : Dec (number_two (labels_of (defined_in text k.from)) p.labels (rows_from text (place_of line_feed laid.at text + 1)) (row_here text laid.at) ≡ 0)
              → number_two (labels_of (defined_in text k.from)) p.labels (rows_from text (place_of line_feed laid.at text + 1)) (row_here text laid.at) ≡ 0
          by (yes z) = z
          by (no z) = sym (ap (λ (m : Moved). m.number) (judged_bad (labels_of (defined_in text k.from)) p.labels p.line (row_here text laid.at) (rows_from text (place_of line_feed laid.at text + 1)) z)) ∙ now_good

      good_next : (judged_two (labels_of (defined_in text k.from)) (labels_past (row_here text laid.at) p.labels) (p.line + 1) (rows_from text (place_of line_feed laid.at text + 1))).number ≡ 0
      good_next =
          ap (λ (m : Moved). m.number) (sym (judged_next (labels_of (defined_in text k.from)) p.labels p.line (row_here text laid.at) (rows_from text (place_of line_feed laid.at text + 1)) good_here))
          ∙ ap (λ (rs : List Row). (judged_two (labels_of (defined_in text k.from)) p.labels p.line rs).number) (sym rows)
          ∙ p.good

      -- what is left is what this line moves to, and the rest
      next : (words : ℕ) → words ≡ pick (is_label_line (fields_in (row_here text laid.at))) laid.words (laid.words + 1)
          → addressed_from (defined_in text k.from) laid.words (rows_from text laid.at)
          ≡ moved_line (defined_in text k.from) laid.words (row_here text laid.at) ++ addressed_from (defined_in text k.from) words (rows_from text (place_of line_feed laid.at text + 1))
      next words e = ap (addressed_from (defined_in text k.from) laid.words) rows ∙ by (is_label_line (fields_in (row_here text laid.at))) refl e
        where
          by : (u : Bool) → is_label_line (fields_in (row_here text laid.at)) ≡ u → words ≡ pick u laid.words (laid.words + 1)
              → addressed_from (defined_in text k.from) laid.words (row_here text laid.at ∷ rows_from text (place_of line_feed laid.at text + 1))
              ≡ pick u [] (line_of (fields_placed (defined_in text k.from) laid.words (fields_in (row_here text laid.at)))) ++ addressed_from (defined_in text k.from) words (rows_from text (place_of line_feed laid.at text + 1))
          by true g e = addressed_label (defined_in text k.from) laid.words (row_here text laid.at) (rows_from text (place_of line_feed laid.at text + 1)) g ∙ ap (λ (w : ℕ). addressed_from (defined_in text k.from) w (rows_from text (place_of line_feed laid.at text + 1))) (sym e)
          by false g e =
              addressed_word (defined_in text k.from) laid.words (row_here text laid.at) (rows_from text (place_of line_feed laid.at text + 1)) g
              ∙ ap (λ (w : ℕ). line_of (fields_placed (defined_in text k.from) laid.words (fields_in (row_here text laid.at))) ++ addressed_from (defined_in text k.from) w (rows_from text (place_of line_feed laid.at text + 1))) (sym e)

      text_next : (words : ℕ) → words ≡ pick (is_label_line (fields_in (row_here text laid.at))) laid.words (laid.words + 1)
          → (p.done ++ moved_line (defined_in text k.from) laid.words (row_here text laid.at)) ++ addressed_from (defined_in text k.from) words (rows_from text (place_of line_feed laid.at text + 1))
          ≡ addressed_from (defined_in text k.from) start.words (rows_from text start.at)
      text_next words e =
          append_assoc p.done (moved_line (defined_in text k.from) laid.words (row_here text laid.at)) (addressed_from (defined_in text k.from) words (rows_from text (place_of line_feed laid.at text + 1)))
          ∙ ap (λ (x : List ℕ). p.done ++ x) (sym (next words e))
          ∙ p.all

      room_next : Fits (p.done ++ moved_line (defined_in text k.from) laid.words (row_here text laid.at)) before start.place
      room_next =
          omega (
            arith,
            a.fits,
            ap length (text_next (pick (is_label_line (fields_in (row_here text laid.at))) laid.words (laid.words + 1)) refl),
            length-append (p.done ++ moved_line (defined_in text k.from) laid.words (row_here text laid.at)) (addressed_from (defined_in text k.from) (pick (is_label_line (fields_in (row_here text laid.at))) laid.words (laid.words + 1)) (rows_from text (place_of line_feed laid.at text + 1))),
          )

      pub laying_row : length text < 2 ^ 64 → Layable text keys table k out laid
      laying_row l =
          record {
            knows = a.knows;
            here = h;
            shape = shape_of_number (labels_of (defined_in text k.from)) p.labels (rows_from text (place_of line_feed laid.at text + 1)) (row_here text laid.at) good_here;
            few = omega (arith, p.few);
            fits = fits_next p.done (moved_line (defined_in text k.from) laid.words (row_here text laid.at)) before start.place room_next p.puts;
          }

      module _ {after : List ℕ} {r : Laid} (w : LaysRow text k.from out laid after r) where
        pub laying_far : laid.at < r.at
        laying_far = omega (arith, w.behind, found_order line_feed laid.at text {r = place_of line_feed laid.at text} refl)

        pub laying_next : Laying text k start before r after
        laying_next =
            record {
              few = few_next (is_label_line (fields_in (row_here text laid.at))) w.counts;
              labels = labels_past (row_here text laid.at) p.labels;
              line = p.line + 1;
              good = ap (λ (n : ℕ). (judged_two (labels_of (defined_in text k.from)) (labels_past (row_here text laid.at) p.labels) (p.line + 1) (rows_from text n)).number) w.behind ∙ good_next;
              done = p.done ++ moved_line (defined_in text k.from) laid.words (row_here text laid.at);
              all =
                  ap (λ (n : ℕ). (p.done ++ moved_line (defined_in text k.from) laid.words (row_here text laid.at)) ++ addressed_from (defined_in text k.from) r.words (rows_from text n)) w.behind
                  ∙ text_next r.words w.counts;
              puts = puts_both p.done (moved_line (defined_in text k.from) laid.words (row_here text laid.at)) before start.place room_next p.puts w.puts;
            }
          where
            few_next : (u : Bool) → r.words ≡ pick u laid.words (laid.words + 1) → r.words ≤ r.at
            few_next true e = omega (arith, e, p.few, laying_far)
            few_next false e = omega (arith, e, p.few, laying_far)

-- ---- words by their notes

pub record Noting (text : List ℕ) (k : Known) (notes before : List ℕ) (start : ℕ) (laid : Laid) (out : List ℕ) : Type 0 where
  pub behind : laid.at ≡ behind_in k.from notes laid.words
  pub done : List ℕ
  pub all : done ++ addressed_from (defined_in text k.from) laid.words (rows_from text laid.at) ≡ addressed_from (defined_in text k.from) 0 (rows_from text k.from)
  pub puts : Put done before start out laid.place

module _ (text keys table : List ℕ) (k : Known) (notes before : List ℕ) (start : ℕ) (a : LayableAll text keys table k notes before start) where
  pub noting_start : Noting text k notes before start (record { at = k.from; place = start; words = 0 }) before
  noting_start = record { behind = refl; done = []; all = refl; puts = record { wrote = sym (put_none before start); end = sym (add-zero start) } }

  module _ {laid : Laid} {out : List ℕ} (p : Noting text k notes before start laid out) where
    -- the lines that are left
    pub noting_others : laid.words ≤ k.words → laid.words ≤ note_count notes → LayableFrom text keys table k out laid
    noting_others l m = by laid.words refl
      where
        fits : Fits (addressed_from (defined_in text k.from) laid.words (rows_from text laid.at)) out laid.place
        fits = fits_next p.done (addressed_from (defined_in text k.from) laid.words (rows_from text laid.at)) before start (omega (arith, a.fits, ap length p.all)) p.puts

        by : (n : ℕ) → laid.words ≡ n → LayableFrom text keys table k out laid
        by zero e =
            record {
              knows = a.knows;
              few = omega (arith, e);
              labels = [];
              line = 2;
              good = ap (λ (i : ℕ). (judged_two (labels_of (defined_in text k.from)) [] 2 (rows_from text i)).number) (p.behind ∙ ap (behind_in k.from notes) e) ∙ a.good;
              fits = fits;
            }
        by (suc n) e =
            let note = a.noted n (omega (arith, e, l)) (omega (arith, e, m)) in
            let place : laid.at ≡ next_in notes n = p.behind ∙ ap (behind_in k.from notes) e in
            record {
              knows = a.knows;
              few = omega (arith, e, place, note.few);
              labels = note.labels;
              line = note.line;
              good = ap (λ (i : ℕ). (judged_two (labels_of (defined_in text k.from)) note.labels note.line (rows_from text i)).number) place ∙ ap (λ (x : Moved). x.number) note.same ∙ a.good;
              fits = fits;
            }

    pub noting_end : {after : List ℕ} {r : ℕ} → Put (addressed_from (defined_in text k.from) laid.words (rows_from text laid.at)) out laid.place after r
        → Put (addressed_from (defined_in text k.from) 0 (rows_from text k.from)) before start after r
    noting_end {after = after} {r = r} w =
        subst (λ (x : List ℕ). Put x before start after r) p.all
        (puts_both p.done (addressed_from (defined_in text k.from) laid.words (rows_from text laid.at)) before start (omega (arith, a.fits, ap length p.all)) p.puts w)

    pub noting_length : {after : List ℕ} {r : ℕ} → Put (addressed_from (defined_in text k.from) laid.words (rows_from text laid.at)) out laid.place after r → length after ≡ length before
    noting_length w = ap length (noting_end w).wrote ∙ length_put before (addressed_from (defined_in text k.from) 0 (rows_from text k.from)) start a.fits

    module _ (l : laid.words < k.words) (m : laid.words < note_count notes) where
      note : NoteIn text k.from notes laid.words
      note = a.noted laid.words l m

      moves : addressed_from (defined_in text k.from) laid.words (rows_from text laid.at) ≡ note_line text notes laid.words ++ addressed_from (defined_in text k.from) (laid.words + 1) (rows_from text (next_in notes laid.words))
      moves = ap (λ (i : ℕ). addressed_from (defined_in text k.from) laid.words (rows_from text i)) p.behind ∙ note.moves

      all_next : (p.done ++ note_line text notes laid.words) ++ addressed_from (defined_in text k.from) (laid.words + 1) (rows_from text (next_in notes laid.words)) ≡ addressed_from (defined_in text k.from) 0 (rows_from text k.from)
      all_next =
          append_assoc p.done (note_line text notes laid.words) (addressed_from (defined_in text k.from) (laid.words + 1) (rows_from text (next_in notes laid.words)))
          ∙ ap (λ (x : List ℕ). p.done ++ x) (sym moves) ∙ p.all

      room_word : Fits (p.done ++ note_line text notes laid.words) before start
      room_word = omega (arith, a.fits, ap length all_next, length-append (p.done ++ note_line text notes laid.words) (addressed_from (defined_in text k.from) (laid.words + 1) (rows_from text (next_in notes laid.words))))

      pub noting_word : Noted text notes out laid
      noting_word = record { kept = m; order = note.order; inside = note.inside; fits = fits_next p.done (note_line text notes laid.words) before start room_word p.puts }

      pub noting_next : {after : List ℕ} {r : Laid} → LaysNoted text notes out laid after r → Noting text k notes before start r after
      noting_next {r = r} w =
          record {
            behind = w.behind ∙ sym (ap (behind_in k.from notes) (w.counts ∙ add-one laid.words));
            done = p.done ++ note_line text notes laid.words;
            all = ap₂ (λ (n i : ℕ). (p.done ++ note_line text notes laid.words) ++ addressed_from (defined_in text k.from) n (rows_from text i)) w.counts w.behind ∙ all_next;
            puts = puts_both p.done (note_line text notes laid.words) before start room_word p.puts w.puts;
          }

-- ---- a word by its note, as it is done

module _ (text notes out : List ℕ) (laid : Laid) (n : Noted text notes out laid) where
  text_by_lem : Bool → List ℕ
  text_by_lem t =
      (decimal laid.words ++ (tab ∷ [])) ++ (take (stop_in notes laid.words - start_in notes laid.words) (drop (start_in notes laid.words) text) ++ pick t (line_feed ∷ []) (decimal (means_in notes laid.words) ++ (line_feed ∷ [])))

  by_plain : stop_in notes laid.words + 1 ≡ next_in notes laid.words → note_line text notes laid.words ≡ text_by_lem true
  unfolding text_by_lem
  by_plain e = ap text_by_lem (eq-eqb (stop_in notes laid.words + 1) (next_in notes laid.words) e)

  by_jump : (stop_in notes laid.words + 1 ≡ next_in notes laid.words → ⊥) → note_line text notes laid.words ≡ text_by_lem false
  unfolding text_by_lem
  by_jump e = ap text_by_lem (ne_eqb (stop_in notes laid.words + 1) (next_in notes laid.words) e)

  pub noted_plain_fits : stop_in notes laid.words + 1 ≡ next_in notes laid.words
      → Fits ((decimal laid.words ++ (tab ∷ [])) ++ (take (stop_in notes laid.words - start_in notes laid.words) (drop (start_in notes laid.words) text) ++ (line_feed ∷ []))) out laid.place
  unfolding text_by_lem
  noted_plain_fits e = subst (λ (x : List ℕ). Fits x out laid.place) (by_plain e) n.fits

  pub noted_plain : stop_in notes laid.words + 1 ≡ next_in notes laid.words → {after : List ℕ} {r : ℕ}
      → Put ((decimal laid.words ++ (tab ∷ [])) ++ (take (stop_in notes laid.words - start_in notes laid.words) (drop (start_in notes laid.words) text) ++ (line_feed ∷ []))) out laid.place after r
      → LaysNoted text notes out laid after (record { at = next_in notes laid.words; place = r; words = laid.words + 1 })
  unfolding text_by_lem
  noted_plain e {after = after} {r = r} w = record { puts = subst (λ (x : List ℕ). Put x out laid.place after r) (sym (by_plain e)) w; counts = refl; behind = refl }

  pub noted_jump_fits : (stop_in notes laid.words + 1 ≡ next_in notes laid.words → ⊥)
      → Fits ((decimal laid.words ++ (tab ∷ [])) ++ (take (stop_in notes laid.words - start_in notes laid.words) (drop (start_in notes laid.words) text) ++ (decimal (means_in notes laid.words) ++ (line_feed ∷ [])))) out laid.place
  unfolding text_by_lem
  noted_jump_fits e = subst (λ (x : List ℕ). Fits x out laid.place) (by_jump e) n.fits

  pub noted_jump : (stop_in notes laid.words + 1 ≡ next_in notes laid.words → ⊥) → {after : List ℕ} {r : ℕ}
      → Put ((decimal laid.words ++ (tab ∷ [])) ++ (take (stop_in notes laid.words - start_in notes laid.words) (drop (start_in notes laid.words) text) ++ (decimal (means_in notes laid.words) ++ (line_feed ∷ [])))) out laid.place after r
      → LaysNoted text notes out laid after (record { at = next_in notes laid.words; place = r; words = laid.words + 1 })
  unfolding text_by_lem
  noted_jump e {after = after} {r = r} w = record { puts = subst (λ (x : List ℕ). Put x out laid.place after r) (sym (by_jump e)) w; counts = refl; behind = refl }
