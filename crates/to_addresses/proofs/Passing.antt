-- Laws of lines passed one after the other: what they define, and how many labels and words there were.
-- Assumes nothing.
use Prim.Native.Nat.{ℕ, zero, suc, ◌+◌, ◌-◌, ◌^◌, ◌≤◌, ◌<◌}
use mathlib.Core.Path.{◌≡◌, refl, sym, ap, ap₂, ◌∙◌}
use mathlib.Core.Bool.{Bool, true, false, not, ◌&&◌}
use mathlib.Core.List.{List, [], ◌∷◌}
use native.Mathlib.Omega.{arith}
use borrow.Author.Tests.{lt-ltb, le-ltb, ne_eqb}
use lib.Dec.{eqb}
use lib.ListN.{length, get_or, take, drop, length-drop}
use lib.Seq.{drop-drop, length-take-le, get_or-drop, get_or-take}
use Rattle.instruction.specs.Bits.{pick}
use Rattle.text.specs.Cut.{tab, line_feed, onto, cut, same_text, place_of, Row, row_at, fields_in, fields_after}
use Rattle.text.proofs.Bools.{both, never, and_false}
use Rattle.text.proofs.Cuts.{found_order, found_inside, drop_take}
use Rattle.text.proofs.Rows.{rows_next, rows_none}
use Rattle.label.specs.Label.{is_label}
use Rattle.editions.specs.Editions.{is_label_line, is_shaped_two, label_in, defines}
use Rattle.editions.specs.Moves.{Definition, defined_from}
use Rattle.editions.specs.Told.{KindOf, last_label, Finds}
use Rattle.editions.specs.declared.Kind.{Kind}
use Rattle.editions.proofs.Two.{label_shape, label_field}
use Rattle.to_addresses.specs.Moving.{rows_from, defined_in, word_count, start, passed_by, Few, defines_in, label_to, Labelled, DefinesAt, Along}
use Rattle.to_addresses.specs.declared.Defining.{Defining}
use Rattle.to_addresses.specs.declared.Passed.{Passed}

-- ---- what a line defines

-- a part of a line is a part of the text
pub part_of : (text : List ℕ) (at end from : ℕ) → label_to text (at + from) end ≡ drop from (take (end - at) (drop at text))
part_of text at end from =
    let q : end - (at + from) ≡ end - at - from = omega arith in
    ap₂ (λ (k : ℕ) (l : List ℕ). take k l) q (sym (drop-drop from at text))
    ∙ sym (drop_take from (end - at) (drop at text))

-- a line that does not begin as `label` does is no label line
other_start : (bs : List ℕ) → (get_or bs 0 0 ≡ 108 → ⊥) → is_label_line (cut tab bs) ≡ false
other_start [] n = refl
other_start (b ∷ bs) n = by (eqb b tab) (cut tab bs)
  where
    by : (t : Bool) (ps : List (List ℕ)) → is_label_line (pick t ([] ∷ ps) (onto b ps)) ≡ false
    by true ps = refl
    by false [] = ap (λ (t : Bool). t && same_text [] (97 ∷ 98 ∷ 101 ∷ 108 ∷ [])) (ne_eqb b 108 n)
    by false (p ∷ ps) = ap (λ (t : Bool). t && same_text p (97 ∷ 98 ∷ 101 ∷ 108 ∷ [])) (ne_eqb b 108 n)

module _ (text : List ℕ) (at end : ℕ) (h : at < length text) (f : end ≡ place_of line_feed at text) where
  order : at ≤ end
  order = found_order line_feed at text f

  inside : end ≤ length text
  inside = found_inside line_feed at text f (omega arith)

  abbrev bytes : List ℕ
  bytes = take (end - at) (drop at text)

  size : length (take (end - at) (drop at text)) ≡ end - at
  size = length-take-le (end - at) (drop at text) (omega (arith, length-drop at text, inside))

  pub defines_other : (get_or text at 0 ≡ 108 → ⊥) → DefinesAt text at end (record { word = true; from = 0 })
  defines_other n =
      let e : is_label_line (fields_in (row_at text at end)) ≡ false = other_start (take (end - at) (drop at text)) first in
      record {
        defining = sym (ap (λ (t : Bool). t && is_shaped_two (row_at text at end).ended (fields_in (row_at text at end))) e);
        word = λ q. sym (ap not e);
        label = λ q. never (sym q);
        labelled = λ q. never (sym q);
      }
    where
      first : get_or (take (end - at) (drop at text)) 0 0 ≡ 108 → ⊥
      first q = by (end - at) q
        where
          by : (m : ℕ) → get_or (take m (drop at text)) 0 0 ≡ 108 → ⊥
          by zero q = omega (arith, q)
          by (suc m) q = n (ap (λ (k : ℕ). get_or text k 0) (let g : at ≡ at + 0 = omega arith in g) ∙ sym (get_or-drop at text 0 0) ∙ sym (get_or-take (suc m) (drop at text) 0 0 (omega arith)) ∙ q)

  module _ {k : Kind} (g : KindOf (take (end - at) (drop at text)) k) where
    pub defines_word : k.label ≡ false → DefinesAt text at end (record { word = true; from = 0 })
    defines_word e =
        record {
          defining = sym (ap (λ (t : Bool). t && is_shaped_two (row_at text at end).ended (fields_in (row_at text at end))) (sym g.label ∙ e));
          word = λ q. sym (ap not (sym g.label ∙ e));
          label = λ q. never (sym q);
          labelled = λ q. never (sym q);
        }

    module _ (e : k.label ≡ true) where
      is_label_lem : is_label_line (fields_in (row_at text at end)) ≡ true
      is_label_lem = sym g.label ∙ e

      defines_by : defines (row_at text at end) ≡ ((row_at text at end).ended && last_label (fields_after k.end (take (end - at) (drop at text))))
      defines_by =
          ap (λ (t : Bool). t && is_shaped_two (row_at text at end).ended (fields_in (row_at text at end))) is_label_lem
          ∙ label_shape (take (end - at) (drop at text)) g e (row_at text at end).ended

      none : defines (row_at text at end) ≡ false → DefinesAt text at end (record { word = false; from = 0 })
      none d = record { defining = sym d; word = λ q. sym (ap not is_label_lem); label = λ q. never (sym q); labelled = λ q. never (sym q) }

      module _ {from : ℕ}
          (l : Finds (last_label (fields_after k.end (take (end - at) (drop at text)))) (get_or (fields_after k.end (take (end - at) (drop at text))) 0 []) (take (end - at) (drop at text)) from) where
        pub defines_none : from ≡ 0 → DefinesAt text at end (record { word = false; from = 0 })
        defines_none z = none (defines_by ∙ ap (λ (t : Bool). (row_at text at end).ended && t) (l.none z) ∙ and_false (row_at text at end).ended)

        pub defines_open : length text ≤ end → DefinesAt text at end (record { word = false; from = 0 })
        defines_open o = none (defines_by ∙ ap (λ (t : Bool). t && last_label (fields_after k.end (take (end - at) (drop at text)))) (le-ltb end (length text) o))

        module _ (z : from ≡ 0 → ⊥) (o : end < length text) where
          some : eqb (at + from) 0 ≡ false
          some = ne_eqb (at + from) 0 (λ q. z (omega arith))

          label : label_to text (at + from) end ≡ label_in (fields_in (row_at text at end))
          label = part_of text at end from ∙ l.is z ∙ sym (label_field (take (end - at) (drop at text)) g)

          shaped : is_label (label_to text (at + from) end) ≡ true
          shaped =
              ap is_label (part_of text at end from ∙ l.is z)
              ∙ (both (eqb (length (fields_after k.end (take (end - at) (drop at text)))) 1) (is_label (get_or (fields_after k.end (take (end - at) (drop at text))) 0 [])) (l.some z)).1

          pub defines_here : DefinesAt text at end (record { word = false; from = at + from })
          defines_here =
              record {
                defining =
                    ap not some
                    ∙ sym (defines_by ∙ ap₂ (λ (t u : Bool). t && u) (lt-ltb end (length text) o) (l.some z));
                word = λ q. never (sym (ap not some) ∙ q);
                label = λ q. label;
                labelled = λ q. record { order = omega (arith, l.inside, size, order); inside = omega arith; shaped = shaped };
              }

-- ---- where a walk over the lines is

module _ (text : List ℕ) (from : ℕ) where
  pub along_start : Along text from from start
  along_start = record { order = omega arith; left = refl; labels = omega arith; words = omega arith }

  module _ {at : ℕ} {past : Passed} (a : Along text from at past) where
    pub along_few : at < length text → length text < 2 ^ 64 → Few past
    along_few l m = record { labels = omega (arith, a.order); words = omega (arith, a.order) }

    -- at the end all labels and words were passed
    module _ (l : length text ≤ at) where
      pub along_labels : past.labels ≡ length (defined_in text from)
      along_labels = omega (arith, a.labels, ap (λ (rows : List Row). length (defined_from past.words rows)) (rows_none text at l))

      pub along_words : past.words ≡ word_count (rows_from text from)
      along_words = omega (arith, a.words, ap word_count (rows_none text at l))

    module _ (h : at < length text) {end : ℕ} (f : end ≡ place_of line_feed at text) where
      abbrev row : Row
      row = row_at text at end

      abbrev rows : List Row
      rows = rows_from text (end + 1)

      far : at ≤ end
      far = found_order line_feed at text f

      -- what is left, by the line at hand
      defined_by : Bool → Bool → List Definition
      defined_by t u =
          pick t (record { called = label_in (fields_in (row_at text at end)); means = past.words } ∷ defined_from past.words (rows_from text (end + 1)))
          (pick u (defined_from past.words (rows_from text (end + 1))) (defined_from (past.words + 1) (rows_from text (end + 1))))

      left_by : {t u : Bool} → defines (row_at text at end) ≡ t → is_label_line (fields_in (row_at text at end)) ≡ u → defined_from past.words (rows_from text at) ≡ defined_by t u
      unfolding defined_by
      left_by e g = ap (defined_from past.words) (rows_next text at f h) ∙ ap₂ defined_by e g

      words_by : {u : Bool} → is_label_line (fields_in (row_at text at end)) ≡ u → word_count (rows_from text at) ≡ pick u 0 1 + word_count (rows_from text (end + 1))
      words_by g = ap word_count (rows_next text at f h) ∙ ap (λ (u : Bool). pick u 0 1 + word_count (rows_from text (end + 1))) g

      -- the label that is next, where the line defines one
      pub next_defined : defines (row_at text at end) ≡ true
          → drop past.labels (defined_in text from) ≡ record { called = label_in (fields_in (row_at text at end)); means = past.words } ∷ defined_from past.words (rows_from text (end + 1))
      unfolding defined_by
      next_defined e = a.left ∙ left_by e refl

      pub past_label : defines (row_at text at end) ≡ true → Along text from (end + 1) (record { labels = past.labels + 1; words = past.words })
      unfolding defined_by
      past_label e =
          let p = left_by e refl in
          let m = ap length p in
          let w = words_by (both (is_label_line (fields_in (row_at text at end))) (is_shaped_two (row_at text at end).ended (fields_in (row_at text at end))) e).0 in
          record {
            order = omega (arith, a.order, far);
            left = sym (drop-drop 1 past.labels (defined_in text from)) ∙ ap (drop 1) (a.left ∙ p);
            labels = omega (arith, a.labels, m);
            words = omega (arith, a.words, w);
          }

      module _ (e : defines (row_at text at end) ≡ false) where
        pub past_word : is_label_line (fields_in (row_at text at end)) ≡ false → Along text from (end + 1) (record { labels = past.labels; words = past.words + 1 })
        unfolding defined_by
        past_word g =
            let p = left_by e g in
            let m = ap length p in
            let w = words_by g in
            record {
              order = omega (arith, a.order, far);
              left = a.left ∙ p;
              labels = omega (arith, a.labels, m);
              words = omega (arith, a.words, w);
            }

        pub past_none : is_label_line (fields_in (row_at text at end)) ≡ true → Along text from (end + 1) past
        unfolding defined_by
        past_none g =
            let p = left_by e g in
            let m = ap length p in
            let w = words_by g in
            record {
              order = omega (arith, a.order, far);
              left = a.left ∙ p;
              labels = omega (arith, a.labels, m);
              words = omega (arith, a.words, w);
            }

      pub along_next : {line : Defining} → DefinesAt text at end line → Along text from (end + 1) (passed_by (defines_in line) line.word past)
      along_next {line = line} d = by (defines_in line) line.word refl refl
        where
          flip : (t u : Bool) → t ≡ u → u ≡ not (is_label_line (fields_in (row_at text at end))) → is_label_line (fields_in (row_at text at end)) ≡ not t
          flip t u p q = by_test (is_label_line (fields_in (row_at text at end))) t (p ∙ q)
            where
              by_test : (x t : Bool) → t ≡ not x → x ≡ not t
              by_test true t e = sym (ap not e)
              by_test false t e = sym (ap not e)

          by : (t u : Bool) → defines_in line ≡ t → line.word ≡ u → Along text from (end + 1) (passed_by t u past)
          by true u e g = past_label (sym d.defining ∙ e)
          by false true e g = past_word (sym d.defining ∙ e) (flip true line.word (sym g) (d.word e))
          by false false e g = past_none (sym d.defining ∙ e) (flip false line.word (sym g) (d.word e))

-- a line that ends inside the text
module _ (text : List ℕ) {at end : ℕ} (h : at < length text) (f : end ≡ place_of line_feed at text) where
  pub line_order : at ≤ end
  line_order = found_order line_feed at text f

  pub line_inside : end ≤ length text
  line_inside = found_inside line_feed at text f (omega arith)

-- a label is what one can read
pub labelled_here : (text : List ℕ) (end : ℕ) (line : Defining) → (defines_in line ≡ true → Labelled text line.from end) → (line.from ≡ 0 → ⊥) → Labelled text line.from end
labelled_here text end line h e = h (ap not (ne_eqb line.from 0 e))

-- past a line, by what it is
module _ (past : Passed) (defines word : Bool) where
  pub pass_label : defines ≡ true → record { labels = past.labels + 1; words = past.words } ≡ passed_by defines word past
  pass_label e = sym (ap (λ (t : Bool). passed_by t word past) e)

  module _ (e : defines ≡ false) where
    by_word : {t : Bool} → word ≡ t → passed_by false t past ≡ passed_by defines word past
    by_word g = sym (ap₂ (λ (t u : Bool). passed_by t u past) e g)

    pub pass_word : word ≡ true → record { labels = past.labels; words = past.words + 1 } ≡ passed_by defines word past
    pass_word g = by_word g

    pub pass_none : word ≡ false → past ≡ passed_by defines word past
    pass_none g = by_word g
