-- What a move tells: there is one answer, and where its number is 0 the text stands in the buffer.
-- Assumes nothing.
use Prim.Native.Nat.{ℕ, ◌≤◌}
use mathlib.Core.Path.{◌≡◌, refl, sym, ap, ap₂, ◌∙◌}
use mathlib.Core.Bool.{Bool, true, false}
use mathlib.Core.List.{List, ◌++◌}
use native.Mathlib.Omega.{arith}
use borrow.Author.Tests.{eq-eqb, eqb-true, eqb-false, le-ltb}
use lib.Dec.{eqb, ltb}
use lib.ListN.{length, take, drop}
use lib.Seq.{take-append_seam}
use Rattle.instruction.specs.Bits.{pick}
use Rattle.editions.specs.Moves.{refused_at, moved, told_of, Moves, lines_judged, labelled, labels_judged, addressed}
use Rattle.editions.specs.declared.Moved.{Moved}
use Rattle.editions.proofs.Unique.{one_move}
use Rattle.moved.specs.Moved.{OneToLabels, OneToAddresses}

-- ---- one answer

pub one_answer_to_labels : OneToLabels
one_answer_to_labels text before after after' r r' p q = one_move (lines_judged text) (labelled text) before p q

pub one_answer_to_addresses : OneToAddresses
one_answer_to_addresses text before after after' r r' p q = one_move (labels_judged text) (addressed text) before p q

-- ---- number 0

module _ (room : ℕ) (judged : Moved) (text : List ℕ) where
  -- what is told, by whether the lines are good and whether there is no room
  abbrev telling : Bool → Bool → Moved
  telling t u = pick t (pick u (refused_at 64 0) (moved (length text))) judged

  -- good lines move where there is room
  pub told_room : judged.number ≡ 0 → length text ≤ room → told_of room judged text ≡ moved (length text)
  told_room e h = ap₂ telling (eq-eqb judged.number 0 e) (le-ltb room (length text) h)

  -- number 0 is told of good lines that there is room for
  pub told_good : (told_of room judged text).number ≡ 0 → (judged.number ≡ 0) × (told_of room judged text ≡ moved (length text))
  told_good z = by (eqb judged.number 0) refl (ltb room (length text)) refl z
    where
      by : (t : Bool) → eqb judged.number 0 ≡ t → (u : Bool) → ltb room (length text) ≡ u → (telling t u).number ≡ 0
          → (judged.number ≡ 0) × (telling t u ≡ moved (length text))
      by true e true f g = absurd (omega (arith, g))
      by true e false f g = (eqb-true judged.number 0 e, refl)
      by false e u f g = absurd (eqb-false judged.number 0 e g)

  -- good lines are refused only for want of room
  pub told_short : judged.number ≡ 0 → ((told_of room judged text).number ≡ 64 → ⊥) → (told_of room judged text).number ≡ 0
  told_short e n = by (ltb room (length text)) (ap (λ (t : Bool). telling t (ltb room (length text))) (eq-eqb judged.number 0 e))
    where
      by : (u : Bool) → told_of room judged text ≡ telling true u → (told_of room judged text).number ≡ 0
      by true f = absurd (n (ap (λ (m : Moved). m.number) f))
      by false f = ap (λ (m : Moved). m.number) f

-- what stands in the buffer
pub moved_text : (judged : Moved) (text before after : List ℕ) (r : Moved) → Moves judged text before after r → r.number ≡ 0
    → (r ≡ moved (length text)) × (take r.size after ≡ text)
moved_text judged text before after r p z =
    let e : r ≡ moved (length text) = p.answer ∙ (told_good (length before) judged text (ap (λ (m : Moved). m.number) (sym p.answer) ∙ z)).1 in (
      e,
      ap₂ (λ (m : Moved) (l : List ℕ). take m.size l) e (p.bytes ∙ ap (λ (t : Bool). pick t (text ++ drop (length text) before) before) (eq-eqb r.number 0 z))
          ∙ take-append_seam text (drop (length text) before),
    )
