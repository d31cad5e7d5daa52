-- Laws of a line's parts: what stands between places of the text is the line moved.
-- Assumes nothing.
use Prim.Native.Nat.{ℕ, ◌+◌, ◌-◌, ◌≤◌, ◌<◌}
use mathlib.Core.Path.{◌≡◌, refl, sym, ap, ap₂, subst, ◌∙◌}
use mathlib.Core.Bool.{Bool, true}
use mathlib.Core.List.{List, [], ◌∷◌, ◌++◌}
use native.Mathlib.Omega.{arith}
use native.Mathlib.Decide.{ℕ_discrete}
use borrow.Author.Tests.{eq-eqb, ne_eqb}
use lib.ListN.{length, take, drop, length-drop}
use lib.Seq.{drop-drop, take-take, length-take-le}
use Rattle.instruction.specs.Bits.{pick}
use Rattle.text.specs.Cut.{tab, line_feed, cut, place_of, row_at}
use Rattle.text.specs.Line.{letters, decimal}
use Rattle.text.proofs.Cuts.{found_order, found_inside, drop_take}
use Rattle.editions.specs.Editions.{fields_number_one}
use Rattle.editions.specs.Told.{nowhere, final_from, GlancesOne}
use Rattle.editions.specs.declared.LineOne.{LineOne}
use Rattle.to_labels.specs.Loops.{Named, Movable, parts_text, PartsOf, target_size, parts_by, PartsFit}
use Rattle.to_labels.specs.declared.Parts.{Parts}
use Rattle.to_labels.proofs.Judging.{good_two}
use Rattle.to_labels.proofs.Naming.{named_well, plain_lent, jump_lent}

-- a part of a line is a part of the text
part_in : (text : List ℕ) (at size x y z : ℕ) → y ≤ size → z ≡ at + y → take (y - x) (drop x (take size (drop at text))) ≡ take (z - (at + x)) (drop (at + x) text)
part_in text at size x y z h e =
    let q : y - x ≡ z - (at + x) = omega arith in
    ap (take (y - x)) (drop_take x size (drop at text))
    ∙ take-take (y - x) (size - x) (drop x (drop at text)) (omega arith)
    ∙ ap₂ (λ (k : ℕ) (l : List ℕ). take k l) q (drop-drop x at text)

-- ---- a line as it was told

-- its parts, by whether it has a target
module _ (at end : ℕ) (told : LineOne) where
  abbrev by_size : Bool → Parts
  by_size t = record { from = at + told.from; last = end - pick t 0 (length (decimal told.target)); end = end }

  pub plain_by : told.target ≡ nowhere → ◌≡◌ {A = Parts} (record { from = at + told.from; last = end; end = end }) (parts_by at end told)
  plain_by e = let q : end ≡ end - 0 = omega arith in ap (λ (k : ℕ). record { from = at + told.from; last = k; end = end }) q ∙ sym (ap by_size (eq-eqb told.target nowhere e))

  pub jump_by : (told.target ≡ nowhere → ⊥) → {size : ℕ} → size ≡ length (decimal told.target)
      → ◌≡◌ {A = Parts} (record { from = at + told.from; last = end - size; end = end }) (parts_by at end told)
  jump_by n e = ap (λ (k : ℕ). record { from = at + told.from; last = end - k; end = end }) e ∙ sym (ap by_size (ne_eqb told.target nowhere n))

plain_digits : (told : LineOne) → told.target ≡ nowhere → target_size told ≡ 0
plain_digits told e = ap (λ (t : Bool). pick t 0 (length (decimal told.target))) (eq-eqb told.target nowhere e)

pub jump_digits : (told : LineOne) → (told.target ≡ nowhere → ⊥) → target_size told ≡ length (decimal told.target)
jump_digits told n = ap (λ (t : Bool). pick t 0 (length (decimal told.target))) (ne_eqb told.target nowhere n)

-- as they are lent
module _ (text : List ℕ) (p : Parts) where
  abbrev by_last : Bool → List ℕ
  by_last t =
      take (p.last - p.from) (drop p.from text)
      ++ pick t (line_feed ∷ []) (letters "L" ++ (take (p.end - p.last) (drop p.last text) ++ (line_feed ∷ [])))

  pub plain_laid : p.last ≡ p.end → parts_text text p ≡ take (p.end - p.from) (drop p.from text) ++ (line_feed ∷ [])
  plain_laid e = ap by_last (eq-eqb p.last p.end e) ∙ ap (λ (k : ℕ). take (k - p.from) (drop p.from text) ++ (line_feed ∷ [])) e

  pub jump_laid : (p.last ≡ p.end → ⊥)
      → parts_text text p ≡ take (p.last - p.from) (drop p.from text) ++ (letters "L" ++ (take (p.end - p.last) (drop p.last text) ++ (line_feed ∷ [])))
  jump_laid n = ap by_last (ne_eqb p.last p.end n)

-- ---- the line from a place on

-- at a glance
pub seen_named : (text : List ℕ) (at : ℕ) (m : Movable text at) {end : ℕ} → end ≡ place_of line_feed at text → {told : LineOne}
    → GlancesOne (cut tab (row_at text at end).bytes) told → Named (row_at text at end).bytes told
seen_named text at m {end = end} f {told = told} g = named_well m.n m.a (row_at text at end).bytes well told (g.from two) (g.plain two)
  where
    well : fields_number_one m.n m.a true (cut tab (row_at text at end).bytes) ≡ 0
    well = ap (λ (k : ℕ). fields_number_one m.n m.a true (cut tab (row_at text at k).bytes)) f ∙ m.well

    two : 2 ≤ length (cut tab (row_at text at end).bytes)
    two = good_two m.n m.a true (cut tab (row_at text at end).bytes) well

module _ (text : List ℕ) (at : ℕ) {end : ℕ} (f : end ≡ place_of line_feed at text) (h : at < length text) (told : LineOne) (m : Named (row_at text at end).bytes told) where
  abbrev line : List ℕ
  line = (row_at text at end).bytes

  inside : end ≤ length text
  inside = found_inside line_feed at text f (omega (arith, h))

  size : length line ≡ end - at
  size = length-take-le (end - at) (drop at text) (omega (arith, inside, length-drop at text))

  order : at ≤ end
  order = found_order line_feed at text f

  pub name_inside : at + told.from ≤ end
  name_inside = omega (arith, m.inside, size, order)

  abbrev parts : ℕ → Parts
  parts last = record { from = at + told.from; last = last; end = end }

  pub plain_parts : told.target ≡ nowhere → PartsOf text at (record { from = at + told.from; last = end; end = end })
  plain_parts e =
      record {
        ends = f;
        lies = record { order = name_inside; upto = omega arith; inside = inside };
        says =
            plain_lent line told m e
            ∙ ap (λ (l : List ℕ). l ++ (line_feed ∷ [])) (part_in text at (end - at) told.from (length line) end (omega (arith, size)) (omega (arith, size, order)))
            ∙ sym (ap (λ (t : Bool). take (end - (at + told.from)) (drop (at + told.from) text) ++ pick t (line_feed ∷ []) (letters "L" ++ (take (end - end) (drop end text) ++ (line_feed ∷ []))))
            (eq-eqb end end refl));
      }

  module _ (n : told.target ≡ nowhere → ⊥) {last : ℕ} (e : last ≡ final_from line) where
    target_inside : at + last ≤ end
    target_inside = omega (arith, e, size, order)

    pub jump_parts : PartsOf text at (record { from = at + told.from; last = at + last; end = end })
    jump_parts =
        record {
          ends = f;
          lies = record { order = omega (arith, m.order n, e); upto = target_inside; inside = inside };
          says =
              jump_lent line told m n e
              ∙ ap₂ (λ (p q : List ℕ). p ++ (letters "L" ++ (q ++ (line_feed ∷ []))))
              (part_in text at (end - at) told.from last (at + last) (omega (arith, target_inside)) refl)
              (part_in text at (end - at) last (length line) end (omega (arith, size)) (omega (arith, size, order)))
              ∙ sym (ap (λ (t : Bool). take (at + last - (at + told.from)) (drop (at + told.from) text) ++ pick t (line_feed ∷ []) (letters "L" ++ (take (end - (at + last)) (drop (at + last) text) ++ (line_feed ∷ []))))
              (ne_eqb (at + last) end (λ q. omega (arith, q, e, m.target n, size, order))));
        }

  module _ (s : (told.target ≡ nowhere → ⊥) → final_from line + length (decimal told.target) ≡ length line) where
    jump_size : (told.target ≡ nowhere → ⊥) → at + final_from line + target_size told ≡ end
    jump_size n = omega (arith, s n, size, order, jump_digits told n)

    pub told_fit : PartsFit at end told
    told_fit = record { name = name_inside; target = by (ℕ_discrete told.target nowhere) }
      where
        by : Dec (told.target ≡ nowhere) → target_size told ≤ end
        by (yes e) = omega (arith, plain_digits told e)
        by (no n) = omega (arith, jump_size n)

    pub told_parts : PartsOf text at (parts_by at end told)
    told_parts = by (ℕ_discrete told.target nowhere)
      where
        by : Dec (told.target ≡ nowhere) → PartsOf text at (parts_by at end told)
        by (yes e) = let q : end ≡ end - target_size told = omega (arith, plain_digits told e) in subst (λ (k : ℕ). PartsOf text at (parts k)) q (plain_parts e)
        by (no n) = let q : at + final_from line ≡ end - target_size told = omega (arith, jump_size n) in subst (λ (k : ℕ). PartsOf text at (parts k)) q (jump_parts n refl)
