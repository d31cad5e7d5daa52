-- Laws of a label looked for, line by line or in the table.
-- Assumes nothing.
use Prim.Native.Nat.{ℕ, zero, suc, ◌+◌, ◌^◌, ◌≤◌, ◌<◌}
use mathlib.Core.Path.{◌≡◌, refl, sym, ap, ap₂, ◌∙◌}
use mathlib.Core.Bool.{Bool, true, false, not, ◌&&◌}
use mathlib.Core.List.{List, [], ◌∷◌}
use native.Mathlib.Omega.{arith}
use borrow.Author.Tests.{eq-eqb, ne_eqb}
use lib.ListN.{length, get_or, get_or-eq_default, length-map}
use Rattle.std.specs.Prelude.{Some}
use Rattle.instruction.specs.Bits.{pick}
use Rattle.text.specs.Cut.{line_feed, place_of, row_at, fields_in, same_text}
use Rattle.text.proofs.Bools.{both, never}
use Rattle.text.proofs.Cuts.{found_order}
use Rattle.text.proofs.Rows.{rows_next, rows_none}
use Rattle.label.specs.Label.{is_label}
use Rattle.label.specs.First.{first_name}
use Rattle.label.specs.Key.{key_of, means_at, count, seek_of}
use Rattle.label.specs.declared.Key.{Key}
use Rattle.label.proofs.Packed.{label_found}
use Rattle.label.proofs.Seeks.{found}
use Rattle.editions.specs.Editions.{is_label_line, label_in}
use Rattle.editions.specs.Moves.{Definition, defined_from, labels_of, meaning_in}
use Rattle.to_addresses.specs.Moving.{rows_from, defined_in, nothing, start, passed_by, Few, defines_in, label_to, DefinesAt, Sought, Knows}
use Rattle.to_addresses.specs.declared.Defining.{Defining}
use Rattle.to_addresses.specs.declared.Known.{Known}
use Rattle.to_addresses.specs.declared.Passed.{Passed}

-- ---- line by line

-- a label that was not met is looked for in what is left
pub record Seeking (text : List ℕ) (from : ℕ) (name : List ℕ) (at : ℕ) (past : Passed) : Type 0 where
  pub order : past.labels + past.words + from ≤ at
  pub first : past.labels + first_name (labels_of (defined_from past.words (rows_from text at))) name ≡ first_name (labels_of (defined_in text from)) name
  pub means : meaning_in (defined_from past.words (rows_from text at)) name ≡ meaning_in (defined_in text from) name

module _ (text : List ℕ) (from : ℕ) (name : List ℕ) where
  pub seeking_start : Seeking text from name from start
  seeking_start = record { order = omega arith; first = omega arith; means = refl }

  module _ {at : ℕ} {past : Passed} (s : Seeking text from name at past) where
    pub seeking_few : at < length text → length text < 2 ^ 64 → Few past
    seeking_few l m = record { labels = omega (arith, s.order); words = omega (arith, s.order) }

    pub seeking_end : length text ≤ at → Sought (defined_in text from) name (record { first = past.labels; means = 0 })
    seeking_end l =
        record {
          first = omega (arith, s.first, ap (λ (rows : _). first_name (labels_of (defined_from past.words rows)) name) (rows_none text at l));
          means = sym (ap (λ (rows : _). meaning_in (defined_from past.words rows) name) (rows_none text at l)) ∙ s.means;
        }

    module _ (h : at < length text) {end : ℕ} (f : end ≡ place_of line_feed at text) {line : Defining} (d : DefinesAt text at end line) where
      far : at ≤ end
      far = found_order line_feed at text f

      -- what is left, by the line at hand
      left : Bool → Bool → List Definition
      left t u =
          pick t (record { called = label_to text line.from end; means = past.words } ∷ defined_from past.words (rows_from text (end + 1)))
          (pick u (defined_from past.words (rows_from text (end + 1))) (defined_from (past.words + 1) (rows_from text (end + 1))))

      left_is : (t u : Bool) → defines_in line ≡ t → (t ≡ false → is_label_line (fields_in (row_at text at end)) ≡ u) → defined_from past.words (rows_from text at) ≡ left t u
      unfolding left
      left_is true u e g =
          ap (defined_from past.words) (rows_next text at f h)
          ∙ ap₂ (λ (t : Bool) (l : List ℕ).
          pick t (record { called = l; means = past.words } ∷ defined_from past.words (rows_from text (end + 1)))
          (pick (is_label_line (fields_in (row_at text at end))) (defined_from past.words (rows_from text (end + 1))) (defined_from (past.words + 1) (rows_from text (end + 1)))))
          (sym d.defining ∙ e) (sym (d.label e))
      left_is false u e g =
          ap (defined_from past.words) (rows_next text at f h)
          ∙ ap₂ (λ (t v : Bool).
          pick t (record { called = label_in (fields_in (row_at text at end)); means = past.words } ∷ defined_from past.words (rows_from text (end + 1)))
          (pick v (defined_from past.words (rows_from text (end + 1))) (defined_from (past.words + 1) (rows_from text (end + 1)))))
          (sym d.defining ∙ e) (g refl)

      pub seeking_here : (defines_in line && same_text (label_to text line.from end) name) ≡ true → Sought (defined_in text from) name (record { first = past.labels; means = past.words })
      unfolding left
      seeking_here q =
          let w = both (defines_in line) (same_text (label_to text line.from end) name) q in
          let p = left_is true true w.0 (λ z. never z) in
          record {
            first = omega (arith, s.first, ap (λ (ds : List Definition). first_name (labels_of ds) name) p, ap (λ (t : Bool). pick t 0 (suc (first_name (labels_of (defined_from past.words (rows_from text (end + 1)))) name))) w.1);
            means = sym (ap (λ (ds : List Definition). meaning_in ds name) p ∙ ap (λ (t : Bool). pick t past.words (meaning_in (defined_from past.words (rows_from text (end + 1))) name)) w.1) ∙ s.means;
          }

      flip : (x t : Bool) → t ≡ not x → x ≡ not t
      flip true t e = sym (ap not e)
      flip false t e = sym (ap not e)

      pub seeking_next : (defines_in line && same_text (label_to text line.from end) name) ≡ false → Seeking text from name (end + 1) (passed_by (defines_in line) line.word past)
      unfolding left
      seeking_next q = by (defines_in line) line.word refl refl q
        where
          by : (t u : Bool) → defines_in line ≡ t → line.word ≡ u → (t && same_text (label_to text line.from end) name) ≡ false → Seeking text from name (end + 1) (passed_by t u past)
          by true u e g n =
              let p = left_is true true e (λ z. never z) in
              record {
                order = omega (arith, s.order, far);
                first = omega (arith, s.first, ap (λ (ds : List Definition). first_name (labels_of ds) name) p, ap (λ (t : Bool). pick t 0 (suc (first_name (labels_of (defined_from past.words (rows_from text (end + 1)))) name))) n);
                means = sym (ap (λ (ds : List Definition). meaning_in ds name) p ∙ ap (λ (t : Bool). pick t past.words (meaning_in (defined_from past.words (rows_from text (end + 1))) name)) n) ∙ s.means;
              }
          by false true e g n =
              let p = left_is false false e (λ z. flip (is_label_line (fields_in (row_at text at end))) true (sym g ∙ d.word e)) in
              record {
                order = omega (arith, s.order, far);
                first = omega (arith, s.first, ap (λ (ds : List Definition). first_name (labels_of ds) name) p);
                means = sym (ap (λ (ds : List Definition). meaning_in ds name) p) ∙ s.means;
              }
          by false false e g n =
              let p = left_is false true e (λ z. flip (is_label_line (fields_in (row_at text at end))) false (sym g ∙ d.word e)) in
              record {
                order = omega (arith, s.order, far);
                first = omega (arith, s.first, ap (λ (ds : List Definition). first_name (labels_of ds) name) p);
                means = sym (ap (λ (ds : List Definition). meaning_in ds name) p) ∙ s.means;
              }

-- ---- in the table

-- what a label means stands where it is defined first
meaning_first : (ds : List Definition) (name : List ℕ) → meaning_in ds name ≡ (get_or ds (first_name (labels_of ds) name) nothing).means
meaning_first [] name = refl
meaning_first (d ∷ ds) name = by (same_text d.called name) (meaning_first ds name)
  where
    by : (t : Bool) → meaning_in ds name ≡ (get_or ds (first_name (labels_of ds) name) nothing).means
        → pick t d.means (meaning_in ds name) ≡ (get_or (d ∷ ds) (pick t 0 (suc (first_name (labels_of ds) name))) nothing).means
    by true ih = refl
    by false ih = ih

pub labels_length : (ds : List Definition) → length (labels_of ds) ≡ length ds
labels_length ds = length-map ds (λ (d : Definition). d.called)

pub label_at : (ds : List Definition) (j : ℕ) → get_or (labels_of ds) j [] ≡ (get_or ds j nothing).called
label_at [] j = refl
label_at (d ∷ ds) zero = refl
label_at (d ∷ ds) (suc j) = label_at ds j

module _ (text keys table : List ℕ) {k : Known} (h : Knows text keys table k) {d : ℕ} (r : k.double ≡ Some d) where
  module _ (name : List ℕ) (n : is_label name ≡ true) {x : Key} (e : x ≡ key_of name) {first : ℕ} (f : first ≡ seek_of keys table x) where
    first_is : first ≡ first_name (labels_of (defined_in text k.from)) name
    first_is =
        f ∙ ap (seek_of keys table) e
        ∙ label_found (labels_of (defined_in text k.from)) keys (h.holds d r) name (seek_of keys table (key_of name)) n (found keys table (h.looked d r) (key_of name))

    means_is : (get_or (defined_in text k.from) first nothing).means ≡ meaning_in (defined_in text k.from) name
    means_is = ap (λ (j : ℕ). (get_or (defined_in text k.from) j nothing).means) first_is ∙ sym (meaning_first (defined_in text k.from) name)

    pub sought_none : count keys ≤ first → Sought (defined_in text k.from) name (record { first = first; means = 0 })
    sought_none l =
        record {
          first = first_is;
          means = sym (ap (λ (d : Definition). d.means) (get_or-eq_default (defined_in text k.from) nothing {n = first} (omega (arith, l, (h.holds d r).many, labels_length (defined_in text k.from))))) ∙ means_is;
        }

    pub sought_here : first < count keys → {means : ℕ} → means ≡ means_at keys first → Sought (defined_in text k.from) name (record { first = first; means = means })
    sought_here l e = record { first = first_is; means = e ∙ h.means d r first l ∙ means_is }

-- whether a line defines a label, as it is told
module _ (text : List ℕ) (end : ℕ) (line : Defining) (name : List ℕ) where
  pub names_none : line.from ≡ 0 → false ≡ (defines_in line && same_text (label_to text line.from end) name)
  names_none e = sym (ap (λ (t : Bool). not t && same_text (label_to text line.from end) name) (eq-eqb line.from 0 e))

  pub names_some : (line.from ≡ 0 → ⊥) → {t : Bool} → t ≡ same_text (label_to text line.from end) name → t ≡ (defines_in line && same_text (label_to text line.from end) name)
  names_some e f = f ∙ sym (ap (λ (t : Bool). not t && same_text (label_to text line.from end) name) (ne_eqb line.from 0 e))
