-- Laws of room that is taken piece by piece, and of the label lines, one for each target.
-- Assumes nothing.
use Prim.Native.Nat.{ℕ, suc, ◌+◌, ◌-◌, ◌≤◌, ◌<◌}
use mathlib.Core.Path.{◌≡◌, ap, ap₂, subst, ◌∙◌}
use mathlib.Core.Bool.{Bool}
use mathlib.Core.List.{List}
use native.Mathlib.Omega.{arith}
use lib.ListN.{length}
use Rattle.text.specs.Cut.{Row, has}
use Rattle.editions.specs.Moves.{targets_in}
use Rattle.editions.specs.Told.{taken, Takes}
use Rattle.editions.specs.declared.Room.{Room}
use Rattle.editions.proofs.Rooms.{takes_none, takes_more}
use Rattle.to_labels.specs.Loops.{label_text, labels_size, Known, Near, LabelsRoom}

-- ---- the label lines, from the last to the first

pub record Sizing (n : ℕ) (rows : List Row) (given : Room) (a : ℕ) (marks : List ℕ) (base : ℕ) (room : Room) : Type 0 where
  pub upto : a ≤ n
  pub low : base ≤ a
  pub known : Known n rows base marks
  pub takes : Takes given (labels_size (targets_in rows) a (n - a)) room

module _ (n : ℕ) (rows : List Row) (given : Room) where
  abbrev size_from : ℕ → ℕ → ℕ
  size_from a k = labels_size (targets_in rows) a k

  pub sizing_start : {marks : List ℕ} → Known n rows 0 marks → Sizing n rows given n marks 0 given
  sizing_start k = record { upto = omega arith; low = omega arith; known = k; takes = subst (λ (i : ℕ). Takes given (size_from n i) given) none (takes_none given) }
    where
      none : 0 ≡ n - n
      none = omega arith

  module _ {a : ℕ} {marks : List ℕ} {base : ℕ} {room : Room} (s : Sizing n rows given a marks base room) where
    pub sizing_end : a ≤ 0 → LabelsRoom n rows given marks room
    sizing_end h =
        record {
          room = subst (λ (k : ℕ). Takes given k room) (ap₂ size_from zero all) s.takes;
          known = subst (λ (k : ℕ). Known n rows k marks) first s.known;
        }
      where
        zero : a ≡ 0
        zero = omega arith

        all : n - a ≡ n
        all = omega arith

        first : base ≡ 0
        first = omega (arith, s.low)

    module _ (h : 0 < a) where
      pub sizing_below : a - 1 < n
      sizing_below = omega (arith, h, s.upto)

      pub sizing_next : {after : List ℕ} {next : ℕ} → Near n rows (a - 1) after next → {on : Bool} → on ≡ has (a - 1) (targets_in rows)
          → {more : ℕ} → more ≡ length (label_text on (a - 1)) → {r : Room} → r ≡ taken more room → Sizing n rows given (a - 1) after next r
      sizing_next m {on = on} o {more = more} l {r = r} q =
          record {
            upto = omega (arith, s.upto);
            low = m.low;
            known = m.known;
            takes = subst (λ (k : ℕ). Takes given k r) size (takes_more given (size_from a (n - a)) more s.takes q);
          }
        where
          label : ℕ
          label = length (label_text (has (a - 1) (targets_in rows)) (a - 1))

          place : a ≡ a - 1 + 1
          place = omega (arith, h)

          count : suc (n - a) ≡ n - (a - 1)
          count = omega (arith, h, s.upto)

          sum : (x y z : ℕ) → y ≡ z → x + y ≡ z + x
          sum x y z e = omega arith

          size : size_from a (n - a) + more ≡ size_from (a - 1) (n - (a - 1))
          size =
              sum (size_from a (n - a)) more label (l ∙ ap (λ (t : Bool). length (label_text t (a - 1))) o)
              ∙ ap (λ (k : ℕ). label + size_from k (n - a)) place
              ∙ ap (size_from (a - 1)) count
