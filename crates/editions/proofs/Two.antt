-- Laws of a line of edition 2, as it is told once its first field is known.
-- Assumes nothing.
use Prim.Native.Nat.{ℕ, suc, ◌+◌, ◌-◌, ◌≤◌, ◌<◌}
use mathlib.Core.Path.{◌≡◌, refl, sym, ap, ap₂, subst, ◌∙◌}
use mathlib.Core.Bool.{Bool, true, false, not, ◌||◌, ◌&&◌}
use mathlib.Core.List.{List, [], ◌∷◌}
use native.Mathlib.Omega.{arith}
use native.Mathlib.Decide.{ℕ_discrete, dec_lt}
use borrow.Author.Tests.{eq-eqb, ne_eqb, eqb-true, lt-ltb, le-ltb}
use lib.Dec.{eqb, leb}
use lib.ListN.{length, get_or, take, drop, length-drop}
use lib.Seq.{take_all}
use Rattle.instruction.specs.Bits.{pick}
use Rattle.text.specs.Cut.{tab, cut, has, before, place_of, fields_after, Row, row_at, fields_in, same_text}
use Rattle.text.specs.Line.{letters}
use Rattle.text.specs.Number.{value, is_number, field_at, counted_at}
use Rattle.text.specs.declared.Counted.{Counted}
use Rattle.std.specs.Prelude.{Some, None}
use Rattle.text.proofs.Alike.{same_text_lem}
use Rattle.text.proofs.Back.{number_said, number_not}
use Rattle.text.proofs.Below.{all_below_lem}
use Rattle.text.proofs.Bools.{both, never}
use Rattle.text.proofs.Cuts.{behind, cut_first, cut_joined, found_piece, found_inside}
use Rattle.text.proofs.Rows.{after_last, after_next, field_next}
use Rattle.fields.specs.Fields.{all_numbers, NumbersRead}
use Rattle.label.specs.Label.{is_label_byte, all_label_bytes, is_label, label_size}
use Rattle.names.specs.Names.{name_count, row_named}
use Rattle.listing_reader.specs.ReadBack.{field_count}
use Rattle.editions.specs.Editions.{jumps, name_two, fields_two, is_label_line, label_in, is_known_two, jumps_two, target_two, has_fields_two, is_shaped_two, defines}
use Rattle.editions.specs.Told.{KindOf, last_label, has_target, Finds, found_two, plain_two, shape_two, TellsTwo, TellsRow}
use Rattle.editions.specs.declared.Kind.{Kind}
use Rattle.editions.specs.declared.LineTwo.{LineTwo}

-- ---- a label has no tab

bytes_tabless : (bs : List ℕ) → all_label_bytes bs ≡ true → has tab bs ≡ false
bytes_tabless [] e = refl
bytes_tabless (b ∷ bs) e =
    let w = both (is_label_byte b) (all_label_bytes bs) e in
    ap₂ (λ (t u : Bool). t || u) (ne_eqb b tab (λ q. never (sym w.0 ∙ ap is_label_byte q))) (bytes_tabless bs w.1)

pub label_tabless : (bs : List ℕ) → is_label bs ≡ true → has tab bs ≡ false
label_tabless bs e =
    bytes_tabless bs
    (both (leb (length bs) label_size) (all_label_bytes bs) (both (leb 1 (length bs)) (leb (length bs) label_size && all_label_bytes bs) e).1).1

alone : (bs : List ℕ) → has tab bs ≡ false → cut tab bs ≡ bs ∷ []
alone bs e = cut_joined tab bs [] (ap (λ (t : Bool). pick t false true) e)

-- ---- one field that is a label

down : (a b : ℕ) → eqb (suc a) (suc b) ≡ eqb a b
down a b = by (ℕ_discrete a b)
  where
    by : Dec (a ≡ b) → eqb (suc a) (suc b) ≡ eqb a b
    by (yes e) = eq-eqb (suc a) (suc b) (ap suc e) ∙ sym (eq-eqb a b e)
    by (no e) = ne_eqb (suc a) (suc b) (λ q. e (omega arith)) ∙ sym (ne_eqb a b e)

cut_some : (x : ℕ) (bs : List ℕ) → 0 < length (cut x bs)
cut_some x bs = let e = ap length (cut_first x bs) in omega arith

-- a text is one field and a label just where it is a label
last_cut : (bs : List ℕ) → last_label (cut tab bs) ≡ is_label bs
last_cut bs = by (has tab bs) refl
  where
    more : (p : List ℕ) (ps : List (List ℕ)) → 0 < length ps → last_label (p ∷ ps) ≡ false
    more p ps l = ap (λ (t : Bool). t && is_label p) (ne_eqb (suc (length ps)) 1 (λ q. omega arith))

    not_label : (t : Bool) → is_label bs ≡ t → has tab bs ≡ true → is_label bs ≡ false
    not_label true e h = never (sym h ∙ label_tabless bs e)
    not_label false e h = e

    by : (t : Bool) → has tab bs ≡ t → last_label (cut tab bs) ≡ is_label bs
    by false e = ap last_label (alone bs e)
    by true e =
        ap last_label (cut_first tab bs ∙ ap (λ (t : Bool). before tab bs ∷ pick t (cut tab (behind tab bs)) []) e)
        ∙ more (before tab bs) (cut tab (behind tab bs)) (cut_some tab (behind tab bs))
        ∙ sym (not_label (is_label bs) refl e)

module _ (line : List ℕ) (end : ℕ) where
  pub label_last : length line ≤ end → Finds (last_label (fields_after end line)) (get_or (fields_after end line) 0 []) line 0
  label_last l = record { none = λ e. ap last_label (after_last line end l); some = λ e. absurd (e refl); inside = omega arith; is = λ e. absurd (e refl) }

  module _ (l : end < length line) where
    fields : fields_after end line ≡ cut tab (drop (end + 1) line)
    fields = ap (λ (t : Bool). pick t (cut tab (drop (end + 1) line)) []) (lt-ltb end (length line) l)

    test : last_label (fields_after end line) ≡ is_label (drop (end + 1) line)
    test = ap last_label fields ∙ last_cut (drop (end + 1) line)

    pub label_here : is_label (drop (end + 1) line) ≡ true → Finds (last_label (fields_after end line)) (get_or (fields_after end line) 0 []) line (end + 1)
    label_here e =
        record {
          none = λ q. absurd (omega (arith, q));
          some = λ q. test ∙ e;
          inside = omega arith;
          is = λ q. sym (ap (λ (fs : List (List ℕ)). get_or fs 0 []) (fields ∙ alone (drop (end + 1) line) (label_tabless (drop (end + 1) line) e)));
        }

    pub label_not : is_label (drop (end + 1) line) ≡ false → Finds (last_label (fields_after end line)) (get_or (fields_after end line) 0 []) line 0
    label_not e = record { none = λ q. test ∙ e; some = λ q. absurd (q refl); inside = omega arith; is = λ q. absurd (q refl) }

-- ---- engine select, write flag and a label

-- fields that are not these three
module _ (line : List ℕ) (fs : List (List ℕ)) where
  no_target : has_target fs ≡ false → Finds (has_target fs) (get_or fs 2 []) line 0
  no_target e = record { none = λ q. e; some = λ q. absurd (q refl); inside = omega arith; is = λ q. absurd (q refl) }

-- the first number is none, or the second
no_engine : (s t u v : Bool) → t ≡ false → (s && ((t && u) && v)) ≡ false
no_engine true t u v e = ap (λ (x : Bool). (x && u) && v) e
no_engine false t u v e = refl

no_write : (s t u v w : Bool) → u ≡ false → (s && ((t && (u && v)) && w)) ≡ false
no_write true true u v w e = ap (λ (x : Bool). (x && v) && w) e
no_write true false u v w e = refl
no_write false t u v w e = refl

module _ (line : List ℕ) (end : ℕ) where
  pub target_none : length line ≤ end → Finds (has_target (fields_after end line)) (get_or (fields_after end line) 2 []) line 0
  target_none l = no_target line (fields_after end line) (ap has_target (after_last line end l))

  module _ (l : end < length line) where
    behind_one : fields_after end line ≡ field_at (end + 1) line ∷ fields_after (place_of tab (end + 1) line) line
    behind_one =
        after_next line end l refl
        ∙ ap (λ (p : List ℕ). p ∷ fields_after (place_of tab (end + 1) line) line) (found_piece tab (end + 1) line {r = place_of tab (end + 1) line} refl)

    pub target_engine : None ≡ counted_at (end + 1) line → Finds (has_target (fields_after end line)) (get_or (fields_after end line) 2 []) line 0
    target_engine n =
        no_target line (fields_after end line)
        (ap has_target behind_one
        ∙ no_engine (eqb (suc (length (fields_after (place_of tab (end + 1) line) line))) 3) (is_number (field_at (end + 1) line)) (all_numbers (take 1 (fields_after (place_of tab (end + 1) line) line))) (is_label (get_or (fields_after (place_of tab (end + 1) line) line) 1 [])) (number_not tab (end + 1) line n))

    module _ {f : Counted} (n : Some f ≡ counted_at (end + 1) line) where
      said : (is_number (field_at (end + 1) line) ≡ true) × (f.value ≡ value (field_at (end + 1) line)) × (f.end ≡ place_of tab (end + 1) line)
      said = number_said tab (end + 1) line n

      after_one : fields_after end line ≡ field_at (end + 1) line ∷ fields_after f.end line
      after_one = behind_one ∙ ap (λ (i : ℕ). field_at (end + 1) line ∷ fields_after i line) (sym said.2)

      pub target_alone : length line ≤ f.end → Finds (has_target (fields_after end line)) (get_or (fields_after end line) 2 []) line 0
      target_alone m = no_target line (fields_after end line) (ap has_target (after_one ∙ ap (λ (fs : List (List ℕ)). field_at (end + 1) line ∷ fs) (after_last line f.end m)))

      module _ (m : f.end < length line) where
        behind_two : fields_after end line ≡ field_at (end + 1) line ∷ field_at (f.end + 1) line ∷ fields_after (place_of tab (f.end + 1) line) line
        behind_two =
            after_one
            ∙ ap (λ (fs : List (List ℕ)). field_at (end + 1) line ∷ fs)
            (after_next line f.end m refl
            ∙ ap (λ (p : List ℕ). p ∷ fields_after (place_of tab (f.end + 1) line) line) (found_piece tab (f.end + 1) line {r = place_of tab (f.end + 1) line} refl))

        pub target_write : None ≡ counted_at (f.end + 1) line → Finds (has_target (fields_after end line)) (get_or (fields_after end line) 2 []) line 0
        target_write o =
            no_target line (fields_after end line)
            (ap has_target behind_two
            ∙ no_write (eqb (suc (suc (length (fields_after (place_of tab (f.end + 1) line) line)))) 3) (is_number (field_at (end + 1) line)) (is_number (field_at (f.end + 1) line)) true
            (is_label (get_or (fields_after (place_of tab (f.end + 1) line) line) 0 [])) (number_not tab (f.end + 1) line o))

        module _ {g : Counted} (o : Some g ≡ counted_at (f.end + 1) line) {r : ℕ} (h : Finds (last_label (fields_after g.end line)) (get_or (fields_after g.end line) 0 []) line r) where
          saying : (is_number (field_at (f.end + 1) line) ≡ true) × (g.value ≡ value (field_at (f.end + 1) line)) × (g.end ≡ place_of tab (f.end + 1) line)
          saying = number_said tab (f.end + 1) line o

          after_two : fields_after end line ≡ field_at (end + 1) line ∷ field_at (f.end + 1) line ∷ fields_after g.end line
          after_two = behind_two ∙ ap (λ (i : ℕ). field_at (end + 1) line ∷ field_at (f.end + 1) line ∷ fields_after i line) (sym saying.2)

          same_test : has_target (fields_after end line) ≡ last_label (fields_after g.end line)
          same_test =
              ap has_target after_two
              ∙ ap₂ (λ (t u : Bool). eqb (suc (suc (length (fields_after g.end line)))) 3 && ((t && (u && true)) && is_label (get_or (fields_after g.end line) 0 []))) said.0 saying.0
              ∙ ap (λ (t : Bool). t && is_label (get_or (fields_after g.end line) 0 [])) (down (suc (length (fields_after g.end line))) 2 ∙ down (length (fields_after g.end line)) 1)

          pub target_here : Finds (has_target (fields_after end line)) (get_or (fields_after end line) 2 []) line r
          target_here =
              record {
                none = λ e. same_test ∙ h.none e;
                some = λ e. same_test ∙ h.some e;
                inside = h.inside;
                is = λ e. h.is e ∙ sym (ap (λ (fs : List (List ℕ)). get_or fs 2 []) after_two);
              }

-- ---- the first field

module _ (line : List ℕ) {end : ℕ} (e : end ≡ place_of tab 0 line) where
  pub parts : cut tab line ≡ take end line ∷ fields_after end line
  parts =
      let q : end - 0 ≡ end = omega arith in
      field_next line 0 e (omega arith) ∙ ap (λ (k : ℕ). take k line ∷ fields_after end line) q

  pub end_inside : end ≤ length line
  end_inside = found_inside tab 0 line e (omega arith)

  pub kind_is : {t : Bool} → t ≡ same_text (take end line) (letters "label") → KindOf line (record { label = t; end = end })
  kind_is f = record { label = f ∙ ap is_label_line (sym parts); end = e }

-- ---- a line by its first field and the others

-- `label` is no instruction
pub label_row : jumps (row_named (letters "label")) ≡ false
unfolding row_named
label_row = refl

-- a jump has three fields
jump_count : (row : ℕ) → row < name_count → jumps row ≡ true → field_count row ≡ 3
jump_count row h j = by (jumps row) j (all_below_lem name_count (λ k. not (jumps k) || eqb (field_count k) 3) refl row h)
  where
    by : (t : Bool) → t ≡ true → (not t || eqb (field_count row) 3) ≡ true → field_count row ≡ 3
    by true e f = eqb-true (field_count row) 3 f
    by false e f = never (sym e)

pub not_jump : (row : ℕ) → name_count ≤ row → jumps row ≡ false
not_jump row h = λ j. ne_eqb row 4 (λ q. omega arith) j || ne_eqb row 6 (λ q. omega arith) j || ne_eqb row 7 (λ q. omega arith) j

-- nothing is wrong, or the shape
abbrev shaped : Bool → ℕ
shaped t = pick t 0 61

abbrev placed : ℕ → ℕ
placed from = pick (eqb from 0) 61 0

not_shaped : (t : Bool) → pick (not t) 61 (shaped true) ≡ shaped t
not_shaped true = refl
not_shaped false = refl

-- what is wrong with the shape, by what is known of it
shape_by_lem : Bool → Bool → Bool → Bool → ℕ
shape_by_lem label known one many = pick (not (true && pick label one (not known || many))) 61 (pick (not (label || known)) 63 0)

module _ (x : List ℕ) (ns : List (List ℕ)) where
  shape_of : shape_two true (x ∷ ns) ≡ shape_by_lem (is_label_line (x ∷ ns)) (is_known_two (x ∷ ns)) (last_label ns) (has_fields_two (row_named x) ns)
  unfolding shape_by_lem
  shape_of =
      ap (λ (t : Bool). shape_by_lem (is_label_line (x ∷ ns)) (is_known_two (x ∷ ns)) (t && is_label (get_or ns 0 [])) (has_fields_two (row_named x) ns)) (down (length ns) 1)

  shape_label : is_label_line (x ∷ ns) ≡ true → shape_two true (x ∷ ns) ≡ shaped (last_label ns)
  unfolding shape_by_lem
  shape_label l = shape_of ∙ ap (λ (t : Bool). shape_by_lem t (is_known_two (x ∷ ns)) (last_label ns) (has_fields_two (row_named x) ns)) l ∙ not_shaped (last_label ns)

  module _ (l : is_label_line (x ∷ ns) ≡ false) where
    shape_unknown : name_count ≤ row_named x → shape_two true (x ∷ ns) ≡ 63
    unfolding shape_by_lem
    shape_unknown h = shape_of ∙ (λ j. shape_by_lem (l j) (le-ltb (row_named x) name_count h j) (last_label ns) (has_fields_two (row_named x) ns))

    shape_known : row_named x < name_count → shape_two true (x ∷ ns) ≡ shaped (has_fields_two (row_named x) ns)
    unfolding shape_by_lem
    shape_known h = shape_of ∙ (λ j. shape_by_lem (l j) (lt-ltb (row_named x) name_count h j) (last_label ns) (has_fields_two (row_named x) ns)) ∙ not_shaped (has_fields_two (row_named x) ns)

  fields_jump : row_named x < name_count → jumps (row_named x) ≡ true → has_fields_two (row_named x) ns ≡ has_target ns
  fields_jump h j =
      ap₂ (λ (k : ℕ) (t : Bool). eqb (length ns) k && pick t (all_numbers (take 2 ns) && is_label (get_or ns 2 [])) (all_numbers ns)) (jump_count (row_named x) h j) j

  fields_plain : jumps (row_named x) ≡ false → has_fields_two (row_named x) ns ≡ (eqb (length ns) (field_count (row_named x)) && all_numbers ns)
  fields_plain j = ap (λ (t : Bool). eqb (length ns) (field_count (row_named x)) && pick t (all_numbers (take 2 ns) && is_label (get_or ns 2 [])) (all_numbers ns)) j

-- a place told, and the number told with it
found_number : (test : Bool) (label line : List ℕ) (from : ℕ) → Finds test label line from → placed from ≡ shaped test
found_number test label line from h = by (ℕ_discrete from 0)
  where
    by : Dec (from ≡ 0) → placed from ≡ shaped test
    by (yes e) = ap (λ (t : Bool). pick t 61 (shaped true)) (eq-eqb from 0 e) ∙ sym (ap shaped (h.none e))
    by (no e) = ap (λ (t : Bool). pick t 61 (shaped true)) (ne_eqb from 0 e) ∙ sym (ap shaped (h.some e))

found_some : (from : ℕ) → placed from ≡ 0 → from ≡ 0 → ⊥
found_some from e z = omega (arith, e, ap (λ (t : Bool). pick t 61 (shaped true)) (eq-eqb from 0 z))

-- ---- a line

module _ (line : List ℕ) {k : Kind} (h : KindOf line k) where
  fields_are : cut tab line ≡ take k.end line ∷ fields_after k.end line
  fields_are = parts line h.end

  labels : {t : Bool} → k.label ≡ t → is_label_line (take k.end line ∷ fields_after k.end line) ≡ t
  labels e = ap is_label_line (sym fields_are) ∙ sym h.label ∙ e

  shapes : {n : ℕ} → shape_two true (take k.end line ∷ fields_after k.end line) ≡ n → n ≡ shape_two true (cut tab line)
  shapes e = sym (ap (shape_two true) fields_are ∙ e)

  -- a label line has its shape with its line feed and one field more, a label
  pub label_shape : k.label ≡ true → (ended : Bool) → is_shaped_two ended (cut tab line) ≡ (ended && last_label (fields_after k.end line))
  label_shape e ended =
      ap (is_shaped_two ended) fields_are
      ∙ ap₂ (λ (t u : Bool). ended && pick t (u && is_label (get_or (fields_after k.end line) 0 [])) (not (is_known_two (take k.end line ∷ fields_after k.end line)) || has_fields_two (row_named (take k.end line)) (fields_after k.end line)))
      (labels e) (down (length (fields_after k.end line)) 1)

  pub label_field : label_in (cut tab line) ≡ get_or (fields_after k.end line) 0 []
  label_field = ap (λ (fs : List (List ℕ)). label_in fs) fields_are

  pub two_label : k.label ≡ true → {from : ℕ} → Finds (last_label (fields_after k.end line)) (get_or (fields_after k.end line) 0 []) line from
      → {r : LineTwo} → r ≡ found_two true from → TellsTwo true line r
  two_label e {from = from} f g =
      subst (TellsTwo true line) (sym g)
      (record {
        number = found_number (last_label (fields_after k.end line)) (get_or (fields_after k.end line) 0 []) line from f ∙ shapes (shape_label (take k.end line) (fields_after k.end line) (labels e));
        label = sym (sym h.label ∙ e);
        jump = sym (ap (λ (fs : List (List ℕ)). jumps (row_named (name_two fs))) fields_are ∙ ap (λ (n : List ℕ). jumps (row_named n)) (same_text_lem (take k.end line) (letters "label") (labels e)) ∙ label_row);
        inside = f.inside;
        name = λ z t. f.is (found_some from z) ∙ ap (λ (fs : List (List ℕ)). label_in fs) (sym fields_are);
        target = λ z t. never (sym t);
      })

  module _ (e : k.label ≡ false) {row : ℕ} (n : row ≡ row_named (take k.end line)) where
    row_jumps : {t : Bool} → jumps row ≡ t → t ≡ jumps_two (cut tab line)
    row_jumps j = sym j ∙ ap jumps n ∙ ap jumps_two (sym fields_are)

    plain_tells : {number : ℕ} → number ≡ shape_two true (cut tab line) → jumps row ≡ false → {r : LineTwo} → r ≡ plain_two number → TellsTwo true line r
    plain_tells m j g =
        subst (TellsTwo true line) (sym g)
        (record {
          number = m;
          label = sym (sym h.label ∙ e);
          jump = row_jumps j;
          inside = omega arith;
          name = λ z t. never (sym t);
          target = λ z t. never (sym t);
        })

    pub two_unknown : name_count ≤ row → {r : LineTwo} → r ≡ plain_two 63 → TellsTwo true line r
    two_unknown l = plain_tells (shapes (shape_unknown (take k.end line) (fields_after k.end line) (labels e) (omega (arith, l, n)))) (not_jump row l)

    module _ (l : row < name_count) where
      known : {t : Bool} → has_fields_two (row_named (take k.end line)) (fields_after k.end line) ≡ t → shaped t ≡ shape_two true (cut tab line)
      known f = shapes (shape_known (take k.end line) (fields_after k.end line) (labels e) (omega (arith, l, n)) ∙ ap shaped f)

      pub two_jump : jumps row ≡ true → {from : ℕ} → Finds (has_target (fields_after k.end line)) (get_or (fields_after k.end line) 2 []) line from
          → {r : LineTwo} → r ≡ found_two false from → TellsTwo true line r
      two_jump j {from = from} f g =
          subst (TellsTwo true line) (sym g)
          (record {
            number =
                found_number (has_target (fields_after k.end line)) (get_or (fields_after k.end line) 2 []) line from f
                ∙ known (fields_jump (take k.end line) (fields_after k.end line) (omega (arith, l, n)) (ap jumps (sym n) ∙ j));
            label = sym (sym h.label ∙ e);
            jump = row_jumps j;
            inside = f.inside;
            name = λ z t. never (sym t);
            target = λ z t. f.is (found_some from z) ∙ ap (λ (fs : List (List ℕ)). target_two fs) (sym fields_are);
          })

      module _ (j : jumps row ≡ false) {count : ℕ} (c : count ≡ field_count row) {before after : List ℕ} {b : Bool}
          (m : NumbersRead count (fields_after k.end line) before after b) where
        numbers : has_fields_two (row_named (take k.end line)) (fields_after k.end line) ≡ b
        numbers =
            fields_plain (take k.end line) (fields_after k.end line) (ap jumps (sym n) ∙ j)
            ∙ ap (λ (i : ℕ). eqb (length (fields_after k.end line)) i && all_numbers (fields_after k.end line)) (sym (c ∙ ap field_count n))
            ∙ sym m.test

        pub two_61 : b ≡ false → {r : LineTwo} → r ≡ plain_two 61 → TellsTwo true line r
        two_61 f = plain_tells (known (numbers ∙ f)) j

        pub two_plain : b ≡ true → {r : LineTwo} → r ≡ plain_two 0 → TellsTwo true line r
        two_plain f = plain_tells (known (numbers ∙ f)) j

-- ---- a line, with its line feed or without

module _ (text : List ℕ) (at end : ℕ) {r : LineTwo} (h : TellsTwo true (take (end - at) (drop at text)) r) where
  pub row_open : length text ≤ end → TellsRow (row_at text at end) (record { number = 61; label = r.label; jump = r.jump; from = r.from })
  row_open l =
      record {
        number = sym (ap (λ (t : Bool). shape_two t (cut tab (take (end - at) (drop at text)))) (le-ltb end (length text) l));
        label = h.label;
        jump = h.jump;
        inside = h.inside;
        name = λ z t. absurd (omega (arith, z));
        target = λ z t. absurd (omega (arith, z));
      }

  pub row_ended : end < length text → TellsRow (row_at text at end) r
  row_ended l = subst (λ (t : Bool). TellsTwo t (take (end - at) (drop at text)) r) (sym (lt-ltb end (length text) l)) h

-- ---- what is lent of a line

pub rest_all : (line : List ℕ) (i : ℕ) → take (length line - i) (drop i line) ≡ drop i line
rest_all line i = take_all (length line - i) (drop i line) (omega (arith, length-drop i line))

pub found_none : (label : Bool) (from : ℕ) → from ≡ 0 → record { number = 61; label = label; jump = not label; from = from } ≡ found_two label from
found_none label from e = rw (eq-eqb from 0 e)

pub found_here : (label : Bool) (from : ℕ) → (from ≡ 0 → ⊥) → record { number = 0; label = label; jump = not label; from = from } ≡ found_two label from
found_here label from e = rw (ne_eqb from 0 e)

-- a number ends inside its line
pub number_ends : (line : List ℕ) (from : ℕ) {f : Counted} → from ≤ length line → Some f ≡ counted_at from line → f.end ≤ length line
number_ends line from l n = found_inside tab from line (number_said tab from line n).2 l

-- ---- a line that has its shape

abbrev shape_by : Bool → Bool → ℕ
shape_by s k = pick (not s) 61 (pick (not k) 63 0)

no_number : (s k : Bool) → shape_by s k ≡ 0 → (s ≡ true) × (k ≡ true)
no_number true true e = (refl, refl)
no_number true false e = absurd (omega (arith, e))
no_number false k e = absurd (omega (arith, e))

jump_row : (row : ℕ) → jumps row ≡ true → row < name_count
jump_row row j = by (dec_lt row name_count)
  where
    by : Dec (row < name_count) → row < name_count
    by (yes l) = l
    by (no l) = never (sym j ∙ not_jump row (omega arith))

module _ (ended : Bool) (fs : List (List ℕ)) (z : shape_two ended fs ≡ 0) where
  good : is_shaped_two ended fs ≡ true
  good = (no_number (is_shaped_two ended fs) (is_label_line fs || is_known_two fs) z).0

  of_its_kind : Bool → Bool
  of_its_kind t = pick t (eqb (length fs) 2 && is_label (label_in fs)) (not (is_known_two fs) || has_fields_two (row_named (name_two fs)) (fields_two fs))

  both_good : (ended ≡ true) × (of_its_kind (is_label_line fs) ≡ true)
  unfolding of_its_kind
  both_good = both ended (pick (is_label_line fs) (eqb (length fs) 2 && is_label (label_in fs)) (not (is_known_two fs) || has_fields_two (row_named (name_two fs)) (fields_two fs))) good

  pub good_ended : ended ≡ true
  good_ended = both_good.0

  pub good_label : is_label_line fs ≡ true → is_label (label_in fs) ≡ true
  unfolding of_its_kind
  good_label e = (both (eqb (length fs) 2) (is_label (label_in fs)) (ap of_its_kind (sym e) ∙ both_good.1)).1

  pub good_jump : jumps_two fs ≡ true → (is_label_line fs ≡ false) × (has_target (fields_two fs) ≡ true)
  unfolding of_its_kind
  good_jump j = by (is_label_line fs) refl
    where
      row : row_named (name_two fs) < name_count
      row = jump_row (row_named (name_two fs)) j

      by : (t : Bool) → is_label_line fs ≡ t → (is_label_line fs ≡ false) × (has_target (fields_two fs) ≡ true)
      by true e = never (sym j ∙ ap (λ (n : List ℕ). jumps (row_named n)) (same_text_lem (name_two fs) (letters "label") e) ∙ label_row)
      by false e = (
        e,
        sym (fields_jump (name_two fs) (fields_two fs) row j)
            ∙ (ap (λ (t : Bool). not t || has_fields_two (row_named (name_two fs)) (fields_two fs)) (sym (lt-ltb (row_named (name_two fs)) name_count row)) ∙ ap of_its_kind (sym e) ∙ both_good.1),
      )

-- a line that has its shape defines its label, if it is a label line
pub good_defines : (row : Row) → shape_two row.ended (fields_in row) ≡ 0 → is_label_line (fields_in row) ≡ true → defines row ≡ true
good_defines row z e = ap₂ (λ (t u : Bool). t && u) e (no_number (is_shaped_two row.ended (fields_in row)) (is_label_line (fields_in row) || is_known_two (fields_in row)) z).0

-- what a line defines is a label
pub defined_label : (row : Row) → defines row ≡ true → is_label (label_in (fields_in row)) ≡ true
defined_label row e =
    let w = both (is_label_line (fields_in row)) (is_shaped_two row.ended (fields_in row)) e in
    let s = (both row.ended (of (is_label_line (fields_in row))) w.1).1 in
    (both (eqb (length (fields_in row)) 2) (is_label (label_in (fields_in row))) (ap of (sym w.0) ∙ s)).1
  where
    of : Bool → Bool
    of t = pick t (eqb (length (fields_in row)) 2 && is_label (label_in (fields_in row))) (not (is_known_two (fields_in row)) || has_fields_two (row_named (name_two (fields_in row))) (fields_two (fields_in row)))
