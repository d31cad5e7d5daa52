-- Laws of a line at a glance, in either edition: its name, and where it or the last field starts.
-- Assumes nothing.
use Prim.Native.Nat.{ℕ, ◌+◌, ◌-◌, ◌≤◌, ◌<◌}
use mathlib.Core.Path.{◌≡◌, refl, sym, ap, ◌∙◌}
use mathlib.Core.Bool.{Bool, true, false, not}
use mathlib.Core.List.{List, ◌∷◌}
use native.Mathlib.Omega.{arith}
use borrow.Author.Tests.{eq-eqb, ne_eqb}
use lib.ListN.{length, take, drop}
use lib.Seq.{length-take-le}
use Rattle.text.specs.Cut.{tab, cut, place_of, fields_after}
use Rattle.text.specs.Line.{letters}
use Rattle.text.proofs.Alike.{same_text_lem}
use Rattle.text.proofs.Bools.{never}
use Rattle.text.proofs.Cuts.{found_order, found_inside}
use Rattle.text.proofs.Rows.{after_last, after_next}
use Rattle.names.specs.Names.{row_named}
use Rattle.listing_reader.specs.ReadBack.{address_in}
use Rattle.editions.specs.Editions.{jumps, jumps_one, name_two, jumps_two}
use Rattle.editions.specs.Told.{nowhere, final_from, KindOf, plain_two, GlancesOne, GlancesTwo}
use Rattle.editions.specs.declared.Kind.{Kind}
use Rattle.editions.specs.declared.LineOne.{LineOne}
use Rattle.editions.specs.declared.LineTwo.{LineTwo}
use Rattle.editions.proofs.Two.{parts, label_row}

-- ---- edition 1

module _ (line : List ℕ) {end : ℕ} (e : end ≡ place_of tab 0 line) where
  -- one field has no name
  pub one_field : length line ≤ end → (r : LineOne) → GlancesOne (cut tab line) r
  one_field l r = record { from = λ t. absurd (short t); plain = λ t. absurd (short t) }
    where
      short : 2 ≤ length (cut tab line) → ⊥
      short t = omega (arith, t, ap length (parts line e ∙ ap (λ (fs : List (List ℕ)). take end line ∷ fs) (after_last line end l)))

  module _ (l : end < length line) {stop : ℕ} (f : stop ≡ place_of tab (end + 1) line) where
    fields : cut tab line ≡ take end line ∷ take (stop - (end + 1)) (drop (end + 1) line) ∷ fields_after stop line
    fields = parts line e ∙ ap (λ (fs : List (List ℕ)). take end line ∷ fs) (after_next line end l f)

    pub stop_order : end + 1 ≤ stop
    stop_order = found_order tab (end + 1) line f

    pub stop_inside : stop ≤ length line
    stop_inside = found_inside tab (end + 1) line f (omega arith)

    place : end + 1 ≡ length (address_in (cut tab line)) + 1
    place = ap (λ (k : ℕ). k + 1) (sym (ap (λ (fs : List (List ℕ)). length (address_in fs)) fields ∙ length-take-le end line (omega arith)))

    module _ {row : ℕ} (n : row ≡ row_named (take (stop - (end + 1)) (drop (end + 1) line))) where
      jump_is : {t : Bool} → jumps row ≡ t → jumps_one (cut tab line) ≡ t
      jump_is j = ap (λ (fs : List (List ℕ)). jumps_one fs) fields ∙ ap jumps (sym n) ∙ j

      pub glance_jump : jumps row ≡ true → GlancesOne (cut tab line) (record { number = 0; target = 0; from = end + 1 })
      glance_jump j = record { from = λ t. place; plain = λ t. ne_eqb 0 nowhere (λ q. omega (arith, q)) ∙ sym (ap not (jump_is j)) }

      pub glance_plain : jumps row ≡ false → GlancesOne (cut tab line) (record { number = 0; target = nowhere; from = end + 1 })
      glance_plain j = record { from = λ t. place; plain = λ t. eq-eqb nowhere nowhere refl ∙ sym (ap not (jump_is j)) }

-- ---- edition 2

module _ (line : List ℕ) {k : Kind} (h : KindOf line k) where
  pub glance_label : k.label ≡ true → GlancesTwo line (record { number = 0; label = true; jump = false; from = 0 })
  glance_label e =
      record {
        label = sym (sym h.label ∙ e);
        jump = sym (ap (λ (n : List ℕ). jumps (row_named n)) (same_text_lem (name_two (cut tab line)) (letters "label") (sym h.label ∙ e)) ∙ label_row);
        from = λ t. never (sym t);
      }

  module _ (e : k.label ≡ false) {row : ℕ} (n : row ≡ row_named (take k.end line)) where
    jumps_as : {t : Bool} → jumps row ≡ t → t ≡ jumps_two (cut tab line)
    jumps_as j = sym j ∙ ap jumps n ∙ ap jumps_two (sym (parts line h.end))

    pub glance_aimed : jumps row ≡ true → {from : ℕ} → from ≡ final_from line → GlancesTwo line (record { number = 0; label = false; jump = true; from = from })
    glance_aimed j f = record { label = sym (sym h.label ∙ e); jump = jumps_as j; from = λ t. f }

    pub glance_word : jumps row ≡ false → {r : LineTwo} → r ≡ plain_two 0 → GlancesTwo line r
    glance_word j g =
        record {
          label = ap (λ (r : LineTwo). r.label) g ∙ sym (sym h.label ∙ e);
          jump = ap (λ (r : LineTwo). r.jump) g ∙ jumps_as j;
          from = λ t. never (sym t ∙ ap (λ (r : LineTwo). r.jump) g);
        }
