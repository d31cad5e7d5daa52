-- Laws of a line of edition 1, as it is told once its shape is known.
-- Assumes nothing.
use Prim.Native.Nat.{ℕ, suc, zero, ◌≤◌, ◌<◌}
use mathlib.Core.Path.{◌≡◌, refl, sym, ap, ap₂, ◌∙◌}
use mathlib.Core.Bool.{Bool, true, false, not, ◌&&◌}
use mathlib.Core.List.{List, [], ◌∷◌, map}
use native.Mathlib.Omega.{arith}
use borrow.Author.Tests.{eq-eqb, ne_eqb, le-leb, lt-leb}
use lib.Dec.{leb}
use lib.ListN.{get_or, replicate}
use Rattle.instruction.specs.Bits.{pick}
use Rattle.instruction.specs.Form.{filled}
use Rattle.text.specs.Number.{value}
use Rattle.fields.proofs.Gathered.{values_at}
use Rattle.listing_reader.specs.ReadBack.{numbers_in, shape_number, Shaped}
use Rattle.listing_reader.specs.declared.line.Shape.{Shape}
use Rattle.editions.specs.Editions.{jumps, jumps_one, target_one, fields_number_one}
use Rattle.editions.specs.Told.{nowhere, TellsOne}
use Rattle.editions.specs.declared.LineOne.{LineOne}

-- the value in a place
value_at : (ns : List (List ℕ)) (k : ℕ) → get_or (map value ns) k 0 ≡ value (get_or ns k [])
value_at [] k = refl
value_at (n ∷ ns) zero = refl
value_at (n ∷ ns) (suc k) = value_at ns k

-- what comes after the shape
judged : ℕ → ℕ → Bool → Bool → ℕ
judged shape a jump past = pick (filled shape) shape (pick (jump && past) 21 0)

module _ (n a : ℕ) (fs : List (List ℕ)) {after : List ℕ} {s : Shape} (h : Shaped a fs (replicate 6 0) after s) where
  shape : ℕ
  shape = shape_number a true fs

  pub one_refused : (s.number ≡ 0 → ⊥) → {r : LineOne} → r ≡ record { number = s.number; target = nowhere; from = 0 } → TellsOne n a fs r
  one_refused z e =
      let m = ap (λ (x : LineOne). x.number) e in
      record {
        number =
            m ∙ h.number
            ∙ sym (ap (λ (t : Bool). pick (not t) (shape_number a true fs) (pick (jumps_one fs && leb n (target_one fs)) 21 0)) (ne_eqb (shape_number a true fs) 0 (λ q. z (h.number ∙ q))));
        target = λ q. absurd (z (sym m ∙ q));
        from = λ q. absurd (z (sym m ∙ q));
      }

  module _ (z : s.number ≡ 0) where
    after_shape : fields_number_one n a true fs ≡ pick (jumps_one fs && leb n (target_one fs)) 21 0
    after_shape = ap (λ (t : Bool). pick (not t) (shape_number a true fs) (pick (jumps_one fs && leb n (target_one fs)) 21 0)) (eq-eqb (shape_number a true fs) 0 (sym h.number ∙ z))

    is_jump : {t : Bool} → jumps s.row ≡ t → jumps_one fs ≡ t
    is_jump e = ap jumps (sym (h.row z)) ∙ e

    pub one_plain : jumps s.row ≡ false → TellsOne n a fs (record { number = 0; target = nowhere; from = s.from })
    one_plain e =
        record {
          number = sym (after_shape ∙ ap (λ (t : Bool). pick (t && leb n (target_one fs)) 21 0) (is_jump e));
          target = λ q. sym (ap (λ (t : Bool). pick t (target_one fs) nowhere) (is_jump e));
          from = λ q. h.from z;
        }

    aim : get_or after 2 0 ≡ target_one fs
    aim = values_at 6 (map value (numbers_in fs)) (h.values z) 2 ∙ value_at (numbers_in fs) 2

    test : {t : Bool} → leb n (get_or after 2 0) ≡ t → leb n (target_one fs) ≡ t
    test e = ap (leb n) (sym aim) ∙ e

    module _ (e : jumps s.row ≡ true) where
      number : {t : Bool} → leb n (get_or after 2 0) ≡ t → fields_number_one n a true fs ≡ pick t 21 0
      number l = after_shape ∙ ap₂ (λ (t u : Bool). pick (t && u) 21 0) (is_jump e) (test l)

      pub one_past : n ≤ get_or after 2 0 → {r : LineOne} → r ≡ record { number = 21; target = nowhere; from = 0 } → TellsOne n a fs r
      one_past l f =
          let m = ap (λ (x : LineOne). x.number) f in
          record {
            number = m ∙ sym (number (le-leb n (get_or after 2 0) l));
            target = λ q. absurd (omega (arith, m, q));
            from = λ q. absurd (omega (arith, m, q));
          }

      pub one_jump : get_or after 2 0 < n → TellsOne n a fs (record { number = 0; target = get_or after 2 0; from = s.from })
      one_jump l =
          record {
            number = sym (number (lt-leb n (get_or after 2 0) l));
            target = λ q. aim ∙ sym (ap (λ (t : Bool). pick t (target_one fs) nowhere) (is_jump e));
            from = λ q. h.from z;
          }
