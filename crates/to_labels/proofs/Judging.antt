-- Laws of lines judged one after the other: what a line with which nothing is wrong has, and how the first bad one is found.
-- Assumes nothing.
use Prim.Native.Nat.{ℕ, ◌+◌, ◌-◌, ◌≤◌, ◌<◌}
use mathlib.Core.Path.{◌≡◌, refl, sym, ap, ◌∙◌}
use mathlib.Core.Bool.{Bool, true, false, not, ◌||◌, ◌&&◌}
use mathlib.Core.List.{List, [], ◌∷◌}
use native.Mathlib.Omega.{arith}
use native.Mathlib.Decide.{ℕ_discrete}
use borrow.Author.Tests.{eq-eqb, ne_eqb, eqb-true, leb-true, leb-false, ltb-true, lt-ltb}
use lib.Dec.{eqb, leb}
use lib.ListN.{length, drop, length-drop}
use lib.Seq.{length-take-le}
use Rattle.instruction.specs.Bits.{pick, ◌gives◌else◌}
use Rattle.text.specs.Cut.{Row, fields_in, row_at}
use Rattle.text.proofs.Below.{all_below_lem}
use Rattle.text.proofs.Bools.{both, never}
use Rattle.text.specs.Number.{value, is_number}
use Rattle.fields.specs.Fields.{all_numbers}
use Rattle.names.specs.Names.{name_count, row_named}
use Rattle.listing_reader.specs.ReadBack.{address_in, name_in, numbers_in, is_known, has_fields, is_shaped, shape_number, field_count}
use Rattle.listing_reader.proofs.Fields.{has_fields_lem}
use Rattle.editions.specs.Editions.{jumps, jumps_one, target_one, fields_number_one, number_one}
use Rattle.editions.specs.Moves.{refused_at, moved, judged_one}
use Rattle.editions.specs.Told.{TellsOne}
use Rattle.editions.specs.declared.Moved.{Moved}
use Rattle.editions.specs.declared.LineOne.{LineOne}
use Rattle.to_labels.specs.Loops.{TellsRow}

-- ---- a line with which nothing is wrong

-- the first of two numbers that is told, and neither is
neither : (s : ℕ) (j p : Bool) → (not (eqb s 0) gives s else (j && p) gives 21 else 0) ≡ 0 → (s ≡ 0) × ((j && p) ≡ false)
neither s j p e = by (ℕ_discrete s 0)
  where
    last : (t : Bool) → (t gives 21 else 0) ≡ 0 → t ≡ false
    last true f = absurd (omega arith)
    last false f = refl

    by : Dec (s ≡ 0) → (s ≡ 0) × ((j && p) ≡ false)
    by (yes z) = (z, last (j && p) (sym (ap (λ (t : Bool). not t gives s else (j && p) gives 21 else 0) (eq-eqb s 0 z)) ∙ e))
    by (no z) = absurd (z (sym (ap (λ (t : Bool). not t gives s else (j && p) gives 21 else 0) (ne_eqb s 0 z)) ∙ e))

none : (i w k : Bool) → (not i gives 61 else not w gives 62 else not k gives 63 else 0) ≡ 0 → (i ≡ true) × (k ≡ true)
none true true true e = (refl, refl)
none true true false e = absurd (omega arith)
none true false k e = absurd (omega arith)
none false w k e = absurd (omega arith)

-- REPEAT, GOTO and CALL show three fields: one computed test over the rows
jump_fields : (row : ℕ) → row < name_count → jumps row ≡ true → field_count row ≡ 3
jump_fields row h e = eqb-true (field_count row) 3 (last (jumps row) e (all_below_lem name_count (λ k. not (jumps k) || eqb (field_count k) 3) refl row h))
  where
    last : (t : Bool) → t ≡ true → (not t || eqb (field_count row) 3) ≡ true → eqb (field_count row) 3 ≡ true
    last true f g = g
    last false f g = never (sym f)

module _ (n a : ℕ) (ended : Bool) (fs : List (List ℕ)) (e : fields_number_one n a ended fs ≡ 0) where
  parts : (shape_number a ended fs ≡ 0) × ((jumps_one fs && leb n (target_one fs)) ≡ false)
  parts = neither (shape_number a ended fs) (jumps_one fs) (leb n (target_one fs)) e

  shape : (is_shaped ended fs ≡ true) × (is_known fs ≡ true)
  shape = none (is_shaped ended fs) (eqb (value (address_in fs)) a) (is_known fs) parts.0

  pub good_aim : jumps_one fs ≡ true → target_one fs < n
  good_aim j = leb-false n (target_one fs) (last (jumps_one fs) (leb n (target_one fs)) j parts.1)
    where
      last : (j p : Bool) → j ≡ true → (j && p) ≡ false → p ≡ false
      last true p f g = g
      last false p f g = never (sym f)

  -- address, name, and what its name asks for
  abbrev named : Bool
  named = not (is_known fs) || has_fields (row_named (name_in fs)) (numbers_in fs)

  ends : (ended ≡ true) × ((is_number (address_in fs) && (leb 2 (length fs) && named)) ≡ true)
  ends = both ended (is_number (address_in fs) && (leb 2 (length fs) && named)) shape.0

  fields : (leb 2 (length fs) ≡ true) × (named ≡ true)
  fields = both (leb 2 (length fs)) named (both (is_number (address_in fs)) (leb 2 (length fs) && named) ends.1).1

  pub good_ended : ended ≡ true
  good_ended = ends.0

  pub good_two : 2 ≤ length fs
  good_two = leb-true 2 (length fs) fields.0

  known : row_named (name_in fs) < name_count
  known = ltb-true (row_named (name_in fs)) name_count shape.1

  has : (eqb (length (numbers_in fs)) (field_count (row_named (name_in fs))) && all_numbers (numbers_in fs)) ≡ true
  has = sym (has_fields_lem (row_named (name_in fs)) (numbers_in fs) known) ∙ last (is_known fs) shape.1 fields.1
    where
      last : (t : Bool) → t ≡ true → (not t || has_fields (row_named (name_in fs)) (numbers_in fs)) ≡ true → has_fields (row_named (name_in fs)) (numbers_in fs) ≡ true
      last true f g = g
      last false f g = never (sym f)

  counts : (eqb (length (numbers_in fs)) (field_count (row_named (name_in fs))) ≡ true) × (all_numbers (numbers_in fs) ≡ true)
  counts = both (eqb (length (numbers_in fs)) (field_count (row_named (name_in fs)))) (all_numbers (numbers_in fs)) has

  pub good_numbers : all_numbers (numbers_in fs) ≡ true
  good_numbers = counts.1

  pub good_three : jumps_one fs ≡ true → length (numbers_in fs) ≡ 3
  good_three j = eqb-true (length (numbers_in fs)) (field_count (row_named (name_in fs))) counts.0 ∙ jump_fields (row_named (name_in fs)) known j

-- ---- a line as it stands in the text

pub row_open : (n a : ℕ) (row : Row) → row.ended ≡ false → {r : LineOne} → r.number ≡ 61 → TellsRow n a row r
unfolding number_one
row_open n a row e m =
    record {
      number = m ∙ sym (ap (λ (t : Bool). fields_number_one n a t (fields_in row)) e);
      target = λ z. absurd (omega (arith, m, z));
      from = λ z. absurd (omega (arith, m, z));
    }

pub row_told : (n a : ℕ) (text : List ℕ) (at end : ℕ) → end < length text → {r : LineOne} → TellsOne n a (fields_in (row_at text at end)) r → TellsRow n a (row_at text at end) r
unfolding number_one
row_told n a text at end h t =
    record {
      number = t.number ∙ sym (ap (λ (s : Bool). fields_number_one n a s (fields_in (row_at text at end))) (lt-ltb end (length text) h));
      target = t.target;
      from = t.from;
    }

module _ (n a : ℕ) (row : Row) (e : number_one n a row ≡ 0) where
  pub row_good : fields_number_one n a row.ended (fields_in row) ≡ 0
  unfolding number_one
  row_good = e

  pub row_ended : row.ended ≡ true
  row_ended = good_ended n a row.ended (fields_in row) row_good

  pub row_well : fields_number_one n a true (fields_in row) ≡ 0
  row_well = ap (λ (t : Bool). fields_number_one n a t (fields_in row)) (sym row_ended) ∙ row_good

  pub row_tells : {r : LineOne} → TellsRow n a row r → TellsOne n a (fields_in row) r
  row_tells t = record { number = t.number ∙ e ∙ sym row_well; target = t.target; from = t.from }

-- how long it is with its line feed
pub row_size : (text : List ℕ) (at end : ℕ) → at ≤ end → end ≤ length text → length (row_at text at end).bytes + 1 ≡ end + 1 - at
row_size text at end h l = omega (arith, length-take-le (end - at) (drop at text) (omega (arith, length-drop at text)))

-- ---- one after the other

module _ (n a : ℕ) (row : Row) (rows : List Row) where
  pub judged_next : number_one n a row ≡ 0 → judged_one n a (row ∷ rows) ≡ judged_one n (a + 1) rows
  unfolding judged_one
  judged_next e = ap (λ (t : Bool). pick t (judged_one n (a + 1) rows) (refused_at (number_one n a row) (a + 2))) (eq-eqb (number_one n a row) 0 e)

  pub judged_bad : (number_one n a row ≡ 0 → ⊥) → judged_one n a (row ∷ rows) ≡ refused_at (number_one n a row) (a + 2)
  unfolding judged_one
  judged_bad e = ap (λ (t : Bool). pick t (judged_one n (a + 1) rows) (refused_at (number_one n a row) (a + 2))) (ne_eqb (number_one n a row) 0 e)

  pub judged_good : (judged_one n a (row ∷ rows)).number ≡ 0 → (number_one n a row ≡ 0) × ((judged_one n (a + 1) rows).number ≡ 0)
  judged_good e = by (ℕ_discrete (number_one n a row) 0)
    where
      by : Dec (number_one n a row ≡ 0) → (number_one n a row ≡ 0) × ((judged_one n (a + 1) rows).number ≡ 0)
      by (yes p) = (p, sym (ap (λ (t : Moved). t.number) (judged_next p)) ∙ e)
      by (no p) = absurd (p (sym (ap (λ (t : Moved). t.number) (judged_bad p)) ∙ e))

pub judged_none : (n a : ℕ) → judged_one n a [] ≡ moved 0
unfolding judged_one
judged_none n a = refl
