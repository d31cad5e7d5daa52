-- Laws of a line weighed: its number by what was passed before it, and the room that what it moves to leaves.
-- Assumes nothing.
use Prim.Native.Nat.{ℕ, ◌+◌, ◌-◌, ◌*◌, ◌≤◌, ◌<◌}
use mathlib.Core.Path.{◌≡◌, refl, sym, ap, ap₂, subst, ◌∙◌}
use mathlib.Core.Bool.{Bool, true, false, not, ◌&&◌}
use mathlib.Core.List.{List, [], ◌∷◌, ◌++◌, append_assoc}
use native.Mathlib.Omega.{arith}
use borrow.Author.Tests.{eq-eqb, ne_eqb, lt-ltb, le-ltb, le-leb, lt-leb, leb-true, leb-false}
use lib.Dec.{eqb, ltb, leb}
use lib.ListN.{length, get_or, set, take, drop, length-drop, length-set}
use lib.Seq.{length-take-le, take-take}
use Rattle.instruction.specs.Bits.{pick}
use Rattle.instruction.specs.Form.{filled}
use Rattle.text.specs.Cut.{tab, line_feed, row_at, fields_in}
use Rattle.text.specs.Line.{decimal}
use Rattle.text.proofs.Bools.{both, never}
use Rattle.text.proofs.Cuts.{found_order, found_inside}
use Rattle.fields.specs.Fields.{all_numbers}
use Rattle.label.specs.Label.{is_label, among}
use Rattle.label.specs.First.{first_name}
use Rattle.editions.specs.Editions.{line_of, is_label_line, label_in, jumps_two, target_two, fields_two, word_number}
use Rattle.editions.specs.Moves.{labels_of, meaning_in, fields_placed}
use Rattle.editions.specs.Told.{shape_two, taken, Takes, TellsRow}
use Rattle.editions.specs.declared.LineTwo.{LineTwo}
use Rattle.editions.specs.declared.Room.{Room}
use Rattle.label.proofs.Packed.{label_some}
use Rattle.editions.proofs.Rooms.{takes_none, takes_more}
use Rattle.editions.proofs.Two.{good_jump, good_defines}
use Rattle.to_addresses.specs.Moving.{defined_in, label_to, Sought, Twice, Stands, label_number_at, number_at, moved_line, weighed_jump, text_by, note_count, kept_note, Weighs}
use Rattle.to_addresses.specs.declared.Found.{Found}
use Rattle.to_addresses.specs.declared.Known.{Known}
use Rattle.to_addresses.specs.declared.Passed.{Passed}
use Rattle.to_addresses.specs.declared.Weighed.{Weighed}
use Rattle.to_addresses.proofs.Judging.{among_first, twice_here}
use Rattle.to_addresses.proofs.Passing.{part_of}
use Rattle.to_addresses.proofs.Placing.{plain_size, jump_size, placed_plain, placed_jump}
use Rattle.to_addresses.proofs.Seeking.{labels_length}

-- ---- room

-- what a line asks for, in two parts or three
two_parts : (room : Room) (a b : ℕ) {n : ℕ} → n ≡ a + b → Takes room n (taken b (taken a room))
two_parts room a b e = subst (λ (k : ℕ). Takes room k (taken b (taken a room))) (omega (arith, e)) (takes_more room (0 + a) b (takes_more room 0 a (takes_none room) refl) refl)

three_parts : (room : Room) (a b c : ℕ) {n : ℕ} → n ≡ a + b + c → Takes room n (taken c (taken b (taken a room)))
three_parts room a b c e = subst (λ (k : ℕ). Takes room k (taken c (taken b (taken a room)))) (sym e) (takes_more room (a + b) c (two_parts room a b refl) refl)

-- ---- a line as it is told

module _ (text keys table : List ℕ) (k : Known) (at end : ℕ) (past : Passed) (s : Stands text keys table k at end past) {told : LineTwo} (t : TellsRow (row_at text at end) told) where
  pub order : at ≤ end
  order = found_order line_feed at text s.ends

  pub inside : end ≤ length text
  inside = found_inside line_feed at text s.ends (let l = s.here in omega arith)

  size : length (take (end - at) (drop at text)) ≡ end - at
  size = length-take-le (end - at) (drop at text) (omega (arith, length-drop at text, inside))

  pub from_inside : at + told.from ≤ end
  from_inside = omega (arith, t.inside, size, order)

  pub weighs_bad : (room : Room) → (told.number ≡ 0 → ⊥)
      → Weighs text k at end past room (record { number = told.number; label = told.label; room = room; stop = 0; means = 0 })
  weighs_bad room z =
      record {
        number =
            t.number
            ∙ sym (ap (λ (u : Bool). pick (not u) (shape_two (row_at text at end).ended (fields_in (row_at text at end))) (rest)) (ne_eqb (shape_two (row_at text at end).ended (fields_in (row_at text at end))) 0 (λ q. z (t.number ∙ q))));
        label = t.label;
        left = λ q. absurd (z q);
        word = λ q. absurd (z q);
      }
    where
      rest : ℕ
      rest = pick (is_label_line (fields_in (row_at text at end))) (label_number_at (labels_of (defined_in text k.from)) k.words past (label_in (fields_in (row_at text at end)))) (word_number (labels_of (defined_in text k.from)) (fields_in (row_at text at end)))

  module _ (z : told.number ≡ 0) where
    shape : shape_two (row_at text at end).ended (fields_in (row_at text at end)) ≡ 0
    shape = sym t.number ∙ z

    number_by_lem : {u : Bool} → is_label_line (fields_in (row_at text at end)) ≡ u
        → number_at (labels_of (defined_in text k.from)) k.words past (row_at text at end)
        ≡ pick u (label_number_at (labels_of (defined_in text k.from)) k.words past (label_in (fields_in (row_at text at end)))) (word_number (labels_of (defined_in text k.from)) (fields_in (row_at text at end)))
    number_by_lem e =
        ap₂ (λ (n : ℕ) (u : Bool). pick (filled n) n (pick u (label_number_at (labels_of (defined_in text k.from)) k.words past (label_in (fields_in (row_at text at end)))) (word_number (labels_of (defined_in text k.from)) (fields_in (row_at text at end))))) shape e

    moved_by : {u : Bool} → is_label_line (fields_in (row_at text at end)) ≡ u
        → length (moved_line (defined_in text k.from) past.words (row_at text at end)) ≡ length (pick u [] (line_of (fields_placed (defined_in text k.from) past.words (fields_in (row_at text at end)))))
    moved_by e = ap (λ (u : Bool). length (pick u [] (line_of (fields_placed (defined_in text k.from) past.words (fields_in (row_at text at end)))))) e

    -- a label line
    module _ (l : told.label ≡ true) where
      is_line : is_label_line (fields_in (row_at text at end)) ≡ true
      is_line = sym t.label ∙ l

      pub label_is : label_to text (at + told.from) end ≡ label_in (fields_in (row_at text at end))
      label_is = part_of text at end told.from ∙ t.name z l

      pub label_twice : Twice text k past.labels (label_to text (at + told.from) end)
      label_twice = subst (Twice text k past.labels) (sym label_is) (twice_here text keys table k at end past s (good_defines (row_at text at end) shape is_line))

      pub weighs_label : (room : Room) {n : ℕ} → n ≡ label_number_at (labels_of (defined_in text k.from)) k.words past (label_to text (at + told.from) end)
          → Weighs text k at end past room (record { number = n; label = true; room = room; stop = 0; means = 0 })
      weighs_label room e =
          record {
            number = e ∙ ap (label_number_at (labels_of (defined_in text k.from)) k.words past) label_is ∙ sym (number_by_lem is_line);
            label = sym is_line;
            left = λ q. subst (λ (n : ℕ). Takes room n room) (sym (moved_by is_line)) (takes_none room);
            word = λ q e. never (sym is_line ∙ e);
          }

    module _ (l : told.label ≡ false) where
      no_line : is_label_line (fields_in (row_at text at end)) ≡ false
      no_line = sym t.label ∙ l

      -- a word that does not jump
      pub weighs_plain : (room : Room) → told.jump ≡ false → {n : ℕ} → n ≡ length (decimal past.words)
          → Weighs text k at end past room (record { number = 0; label = false; room = taken (end - at) (taken (n + 2) room); stop = end; means = 0 })
      weighs_plain room j {n = n} e =
          let p : jumps_two (fields_in (row_at text at end)) ≡ false = sym t.jump ∙ j in
          record {
            number = sym (number_by_lem no_line ∙ ap (λ (u : Bool). pick (u && not (among (target_two (fields_in (row_at text at end))) (labels_of (defined_in text k.from)))) 67 0) p);
            label = sym no_line;
            left = λ q. two_parts room (n + 2) (end - at) (moved_by no_line ∙ plain_size (defined_in text k.from) past.words (take (end - at) (drop at text)) p ∙ omega (arith, e, size));
            word = λ q f.
                record {
                  order = order;
                  inside = omega arith;
                  says =
                      placed_plain (defined_in text k.from) past.words (take (end - at) (drop at text)) p
                      ∙ sym (append_assoc (decimal past.words) (tab ∷ []) (take (end - at) (drop at text) ++ (line_feed ∷ [])))
                      ∙ ap (λ (u : Bool). (decimal past.words ++ (tab ∷ [])) ++ (take (end - at) (drop at text) ++ pick u (line_feed ∷ []) (decimal 0 ++ (line_feed ∷ [])))) (sym (eq-eqb (end + 1) (end + 1) refl));
                };
          }

      -- a jump
      module _ (j : told.jump ≡ true) where
        jump : jumps_two (fields_in (row_at text at end)) ≡ true
        jump = sym t.jump ∙ j

        pub target_is : label_to text (at + told.from) end ≡ target_two (fields_in (row_at text at end))
        target_is = part_of text at end told.from ∙ t.target z j

        pub target_label : is_label (label_to text (at + told.from) end) ≡ true
        target_label =
            ap is_label target_is
            ∙ (both (all_numbers (take 2 (fields_two (fields_in (row_at text at end))))) (is_label (get_or (fields_two (fields_in (row_at text at end))) 2 []))
            (both (eqb (length (fields_two (fields_in (row_at text at end)))) 3) (all_numbers (take 2 (fields_two (fields_in (row_at text at end)))) && is_label (get_or (fields_two (fields_in (row_at text at end))) 2 []))
            (good_jump (row_at text at end).ended (fields_in (row_at text at end)) shape jump).1).1).1

        pub weighs_jump : (room : Room) {found : Found} → Sought (defined_in text k.from) (label_to text (at + told.from) end) found
            → {r : Weighed} → r ≡ weighed_jump room past at (at + told.from) k found → Weighs text k at end past room r
        weighs_jump room {found = found} f e = subst (Weighs text k at end past room) (sym e) (by (leb k.labels found.first) refl)
          where
            first : found.first ≡ first_name (labels_of (defined_in text k.from)) (target_two (fields_in (row_at text at end)))
            first = f.first ∙ ap (first_name (labels_of (defined_in text k.from))) target_is

            means : found.means ≡ meaning_in (defined_in text k.from) (target_two (fields_in (row_at text at end)))
            means = f.means ∙ ap (meaning_in (defined_in text k.from)) target_is

            front : take told.from (take (end - at) (drop at text)) ≡ take (at + told.from - at) (drop at text)
            front =
                let q : told.from ≡ at + told.from - at = omega arith in
                take-take told.from (end - at) (drop at text) (omega (arith, t.inside, size)) ∙ ap (λ (n : ℕ). take n (drop at text)) q

            -- a label has a letter
            short : at + told.from + 1 ≡ end + 1 → ⊥
            short q = omega (arith, q, label_some (label_to text (at + told.from) end) target_label, ap length (part_of text at end told.from), length-drop told.from (take (end - at) (drop at text)), size)

            jump_text : line_of (fields_placed (defined_in text k.from) past.words (fields_in (row_at text at end))) ≡ text_by text past.words at (at + told.from) found.means (end + 1)
            jump_text =
                placed_jump (defined_in text k.from) past.words (take (end - at) (drop at text)) jump (good_jump (row_at text at end).ended (fields_in (row_at text at end)) shape jump).1 {from = told.from} (t.target z j) t.inside
                ∙ sym (append_assoc (decimal past.words) (tab ∷ []) (take told.from (take (end - at) (drop at text)) ++ (decimal (meaning_in (defined_in text k.from) (target_two (fields_in (row_at text at end)))) ++ (line_feed ∷ []))))
                ∙ ap₂ (λ (p : List ℕ) (m : ℕ). (decimal past.words ++ (tab ∷ [])) ++ (p ++ (decimal m ++ (line_feed ∷ [])))) front (sym means)
                ∙ ap (λ (u : Bool). (decimal past.words ++ (tab ∷ [])) ++ (take (at + told.from - at) (drop at text) ++ pick u (line_feed ∷ []) (decimal found.means ++ (line_feed ∷ [])))) (sym (ne_eqb (at + told.from + 1) (end + 1) short))

            defined : {u : Bool} → ltb (first_name (labels_of (defined_in text k.from)) (target_two (fields_in (row_at text at end)))) (length (labels_of (defined_in text k.from))) ≡ u
                → number_at (labels_of (defined_in text k.from)) k.words past (row_at text at end) ≡ pick (not u) 67 0
            defined g =
                number_by_lem no_line
                ∙ ap₂ (λ (u v : Bool). pick (u && not v) 67 0) jump (among_first (labels_of (defined_in text k.from)) (target_two (fields_in (row_at text at end))) ∙ g)

            by : (u : Bool) → leb k.labels found.first ≡ u
                → Weighs text k at end past room
                (pick u (record { number = 67; label = false; room = room; stop = 0; means = 0 })
                (record { number = 0; label = false; stop = at + told.from; means = found.means; room = taken (at + told.from - at) (taken (length (decimal found.means)) (taken (length (decimal past.words) + 2) room)) }))
            by true g =
                let m = leb-true k.labels found.first g in
                record {
                  number = sym (defined (le-ltb (first_name (labels_of (defined_in text k.from)) (target_two (fields_in (row_at text at end)))) (length (labels_of (defined_in text k.from))) (omega (arith, m, first, s.knows.labels, labels_length (defined_in text k.from)))));
                  label = sym no_line;
                  left = λ q. absurd (omega (arith, q));
                  word = λ q. absurd (omega (arith, q));
                }
            by false g =
                let m = leb-false k.labels found.first g in
                record {
                  number = sym (defined (lt-ltb (first_name (labels_of (defined_in text k.from)) (target_two (fields_in (row_at text at end)))) (length (labels_of (defined_in text k.from))) (omega (arith, m, first, s.knows.labels, labels_length (defined_in text k.from)))));
                  label = sym no_line;
                  left = λ q.
                      three_parts room (length (decimal past.words) + 2) (length (decimal found.means)) (at + told.from - at)
                      (moved_by no_line
                      ∙ jump_size (defined_in text k.from) past.words (take (end - at) (drop at text)) jump (good_jump (row_at text at end).ended (fields_in (row_at text at end)) shape jump).1 {from = told.from} (t.target z j) t.inside
                      ∙ ap₂ (λ (n i : ℕ). length (decimal past.words) + 2 + length (decimal n) + i) (sym means) (let q : told.from ≡ at + told.from - at = omega arith in q));
                  word = λ q f. record { order = omega arith; inside = from_inside; says = jump_text };
                }

-- ---- as it is done

module _ (room : Room) (past : Passed) (at stop : ℕ) (k : Known) (found : Found) where
  weighed_by : Bool → Weighed
  weighed_by t =
      pick t (record { number = 67; label = false; room = room; stop = 0; means = 0 })
      (record { number = 0; label = false; stop = stop; means = found.means; room = taken (stop - at) (taken (length (decimal found.means)) (taken (length (decimal past.words) + 2) room)) })

  pub jump_none : k.labels ≤ found.first → record { number = 67; label = false; room = room; stop = 0; means = 0 } ≡ weighed_jump room past at stop k found
  unfolding weighed_by
  jump_none l = sym (ap weighed_by (le-leb k.labels found.first l))

  pub jump_some : found.first < k.labels → {n m : ℕ} → n ≡ length (decimal past.words) → m ≡ length (decimal found.means) → {x y z : Room} → x ≡ taken (n + 2) room → y ≡ taken m x → z ≡ taken (stop - at) y
      → record { number = 0; label = false; room = z; stop = stop; means = found.means } ≡ weighed_jump room past at stop k found
  unfolding weighed_by
  jump_some l e f {z = z} p q r =
      ap (λ (w : Room). weighed_of w)
      (r ∙ ap (taken (stop - at)) (q ∙ (λ i. taken (f i) (p i)) ∙ ap (λ (j : ℕ). taken (length (decimal found.means)) (taken (j + 2) room)) e))
      ∙ sym (ap weighed_by (lt-leb k.labels found.first l))
    where
      weighed_of : Room → Weighed
      weighed_of w = record { number = 0; label = false; room = w; stop = stop; means = found.means }

-- doubled, or no word behind it, or nothing
module _ (labels : List (List ℕ)) (words : ℕ) (past : Passed) (label : List ℕ) where
  number_of : Bool → Bool → ℕ
  number_of s t = pick s 65 (pick t 66 0)

  pub label_65 : ltb (first_name labels label) past.labels ≡ true → 65 ≡ label_number_at labels words past label
  unfolding number_of
  label_65 e = sym (ap (λ (s : Bool). number_of s (leb words past.words)) e)

  module _ (e : ltb (first_name labels label) past.labels ≡ false) where
    pub label_66 : words ≤ past.words → 66 ≡ label_number_at labels words past label
    unfolding number_of
    label_66 l = sym (ap₂ number_of e (le-leb words past.words l))

    pub label_good : past.words < words → 0 ≡ label_number_at labels words past label
    unfolding number_of
    label_good l = sym (ap₂ number_of e (lt-leb words past.words l))

-- the room of a word that does not jump
pub plain_room : (room : Room) {x y : Room} (n size : ℕ) → x ≡ taken (n + 2) room → y ≡ taken size x → y ≡ taken size (taken (n + 2) room)
plain_room room n size p q = q ∙ ap (taken size) p

-- a note that is not kept, and one that is
module _ (notes : List ℕ) (a at : ℕ) (told : Weighed) (next : ℕ) where
  note_by : Bool → Bool → List ℕ
  note_by t u = pick t notes (pick u notes (set (set (set (set notes (4 * a) at) (4 * a + 1) told.stop) (4 * a + 2) told.means) (4 * a + 3) next))

  pub note_none : told.label ≡ true → notes ≡ kept_note notes a at told next
  unfolding note_by
  note_none e = sym (ap (λ (t : Bool). note_by t (leb (note_count notes) a)) e)

  module _ (e : told.label ≡ false) where
    pub note_out : note_count notes ≤ a → notes ≡ kept_note notes a at told next
    unfolding note_by
    note_out l = sym (ap₂ note_by e (le-leb (note_count notes) a l))

    pub note_here : a < note_count notes
        → set (set (set (set notes (4 * a) at) (4 * a + 1) told.stop) (4 * a + 2) told.means) (4 * a + 3) next ≡ kept_note notes a at told next
    unfolding note_by
    note_here l = sym (ap₂ note_by e (lt-leb (note_count notes) a l))

pub note_sizes : (notes : List ℕ) (a at stop means : ℕ)
    → (length (set notes (4 * a) at) ≡ length notes)
    × (length (set (set notes (4 * a) at) (4 * a + 1) stop) ≡ length notes)
    × (length (set (set (set notes (4 * a) at) (4 * a + 1) stop) (4 * a + 2) means) ≡ length notes)
note_sizes notes a at stop means =
    let p = length-set notes (4 * a) at in
    let q = length-set (set notes (4 * a) at) (4 * a + 1) stop ∙ p in
    (p, q, length-set (set (set notes (4 * a) at) (4 * a + 1) stop) (4 * a + 2) means ∙ q)
