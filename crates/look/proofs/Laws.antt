-- Laws of tests that tell whether something holds, up to: an address is closed, and clean, where its parts are.
-- Assumes nothing.
use Prim.Native.Nat.{ℕ, ◌+◌}
use mathlib.Core.Path.{◌≡◌, refl, sym, ap, subst, ◌∙◌}
use mathlib.Core.Bool.{Bool, true, false, not, ◌&&◌}
use mathlib.Core.List.{List}
use native.Mathlib.Omega.{arith}
use lib.Dec.{eqb}
use borrow.Author.Tests.{eqb-true, eqb-false}
use lib.ListN.{length, get_or}
use lib.Bits.{bit_or, or_add_and, and_le_r}
use Rattle.instruction.specs.Bits.{◌gives◌else◌}
use Rattle.flow.specs.declared.Move.{Move}
use Rattle.flow.specs.declared.Move.TheVariants.{Other}
use Rattle.flow.specs.declared.Moves.{Moves}
use Rattle.flow.specs.Masks.{next_of, jump_of, to_of, Follows}
use Rattle.flow.specs.Move.{move_at}
use Rattle.look.specs.Closed.{fault_in, CleanAt, HoldsAt, ClosedAt, Tells, holds, fails, back_in}

-- ---- bits

-- no bits are held everywhere
pub held_zero : (n : ℕ) (ms : List ℕ) (i x : ℕ) → x ≡ 0 → HoldsAt n ms i x
held_zero n ms i x z l = omega (arith, or_add_and (get_or ms i 0) x, and_le_r (get_or ms i 0) x, z)

pub or_zero : (r : ℕ) → bit_or r 0 ≡ r
or_zero r = omega (arith, or_add_and r 0, and_le_r r 0)

-- ---- tests

pub tells_and : {a b : Bool} {P Q : Type 0} → Tells P a → Tells Q b → Tells (P × Q) (a && b)
tells_and (holds p) (holds q) = holds (p, q)
tells_and (holds p) (fails q) = fails (λ w. q w.1)
tells_and (fails p) t = fails (λ w. p w.0)

pub tells_as : {b : Bool} {P Q : Type 0} → (P → Q) → (Q → P) → Tells P b → Tells Q b
tells_as f g (holds p) = holds (f p)
tells_as f g (fails p) = fails (λ q. p (g q))

pub tells_eq : (x y : ℕ) → Tells (x ≡ y) (eqb x y)
tells_eq x y = go (eqb x y) refl
  where
    go : (b : Bool) → eqb x y ≡ b → Tells (x ≡ y) b
    go true e = holds (eqb-true x y e)
    go false e = fails (eqb-false x y e)

pub tells_no : {P : Type 0} → Tells P false → P → ⊥
tells_no (fails f) = f

pub tells_yes : {P : Type 0} → Tells P true → P
tells_yes (holds p) = p

-- an address is closed where its parts are
module _ (lim : ℕ) (ws : List ℕ) (r : ℕ) (ms : List ℕ) (a : ℕ) (o : Move) (f : Moves) (e : o ≡ move_at ws a) (w : Follows lim o (get_or ms a 0) r f) where
  abbrev Parts : Type 0
  Parts = (bit_or r (back_in o (get_or ms a 0)) ≡ r) × HoldsAt (length ws) ms (a + 1) f.next × HoldsAt (length ws) ms f.to.0 f.jump

  tells_parts : {c : Bool} → Tells Parts c → Tells (ClosedAt lim ws r ms a) c
  tells_parts t = tells_as to from t
    where
      m : ℕ
      m = get_or ms a 0

      next : f.next ≡ next_of (move_at ws a) m r
      next = w.next ∙ ap (λ (z : Move). next_of z m r) e

      jump : f.jump ≡ jump_of lim (move_at ws a) m
      jump = w.jump ∙ ap (λ (z : Move). jump_of lim z m) e

      target : f.to.0 ≡ to_of (move_at ws a)
      target = w.to ∙ ap to_of e

      to : Parts → ClosedAt lim ws r ms a
      to p =
          record {
            met = subst (λ (z : Move). bit_or r (back_in z m) ≡ r) e p.0;
            next = subst (λ (z : ℕ). HoldsAt (length ws) ms (a + 1) z) next p.1;
            jump = subst (λ (z : ℕ). HoldsAt (length ws) ms z (jump_of lim (move_at ws a) m)) target (subst (λ (z : ℕ). HoldsAt (length ws) ms f.to.0 z) jump p.2);
          }

      from : ClosedAt lim ws r ms a → Parts
      from k = (
        subst (λ (z : Move). bit_or r (back_in z m) ≡ r) (sym e) k.met,
        subst (λ (z : ℕ). HoldsAt (length ws) ms (a + 1) z) (sym next) k.next,
        subst (λ (z : ℕ). HoldsAt (length ws) ms f.to.0 z) (sym jump) (subst (λ (z : ℕ). HoldsAt (length ws) ms z (jump_of lim (move_at ws a) m)) (sym target) k.jump),
      )

  pub tells_all : {c d : Bool} → Tells (bit_or r (back_in o (get_or ms a 0)) ≡ r) c → Tells (HoldsAt (length ws) ms (a + 1) f.next × HoldsAt (length ws) ms f.to.0 f.jump) d → Tells (ClosedAt lim ws r ms a) (c && d)
  tells_all t u = tells_parts (tells_as (λ h. (h.0, h.1.0, h.1.1)) (λ p. (p.0, (p.1, p.2))) (tells_and t u))

  no_depth : back_in o (get_or ms a 0) ≡ 0 → bit_or r (back_in o (get_or ms a 0)) ≡ r
  no_depth z = ap (bit_or r) z ∙ or_zero r

  no_jump : jump_of lim o (get_or ms a 0) ≡ 0 → HoldsAt (length ws) ms f.to.0 f.jump
  no_jump z = held_zero (length ws) ms f.to.0 f.jump (w.jump ∙ z)

  pub tells_next : {c : Bool} → back_in o (get_or ms a 0) ≡ 0 → jump_of lim o (get_or ms a 0) ≡ 0 → Tells (HoldsAt (length ws) ms (a + 1) f.next) c → Tells (ClosedAt lim ws r ms a) c
  tells_next z y t = tells_parts (tells_as (λ h. (no_depth z, h, no_jump y)) (λ p. p.1) t)

  pub tells_both : {c : Bool} → back_in o (get_or ms a 0) ≡ 0 → Tells (HoldsAt (length ws) ms (a + 1) f.next × HoldsAt (length ws) ms f.to.0 f.jump) c → Tells (ClosedAt lim ws r ms a) c
  tells_both z t = tells_parts (tells_as (λ h. (no_depth z, h.0, h.1)) (λ p. (p.1, p.2)) t)

  pub tells_return : (b : ℕ) {c : Bool} → b ≡ back_in o (get_or ms a 0) → jump_of lim o (get_or ms a 0) ≡ 0 → Tells (HoldsAt (length ws) ms (a + 1) f.next) c → Tells (ClosedAt lim ws r ms a) (c && eqb (bit_or r b) r)
  tells_return b q y t =
      tells_parts
      (tells_as (λ h. (subst (λ (z : ℕ). bit_or r z ≡ r) q h.1, h.0, no_jump y)) (λ p. (p.1, subst (λ (z : ℕ). bit_or r z ≡ r) (sym q) p.0))
      (tells_and t (tells_eq (bit_or r b) r)))

-- a word that goes on to the next address
pub tells_plain : (lim : ℕ) (ws : List ℕ) (r : ℕ) (ms : List ℕ) (a : ℕ) {c : Bool} → move_at ws a ≡ Other → Tells (HoldsAt (length ws) ms (a + 1) (get_or ms a 0)) c → Tells (ClosedAt lim ws r ms a) c
tells_plain lim ws r ms a e u = tells_as to from u
  where
    to : HoldsAt (length ws) ms (a + 1) (get_or ms a 0) → ClosedAt lim ws r ms a
    to h =
        record {
          met = ap (λ (z : Move). bit_or r (back_in z (get_or ms a 0))) e ∙ or_zero r;
          next = subst (λ (z : Move). HoldsAt (length ws) ms (a + 1) (next_of z (get_or ms a 0) r)) (sym e) h;
          jump = subst (λ (z : Move). HoldsAt (length ws) ms (to_of z) (jump_of lim z (get_or ms a 0))) (sym e) (held_zero (length ws) ms 0 0 refl);
        }

    from : ClosedAt lim ws r ms a → HoldsAt (length ws) ms (a + 1) (get_or ms a 0)
    from k = subst (λ (z : Move). HoldsAt (length ws) ms (a + 1) (next_of z (get_or ms a 0) r)) e k.next

-- ---- faults

-- a number that a test gives is 0 where it does not
pub spared : (x n : ℕ) → (n ≡ 0 → ⊥) → Tells ((not (eqb x 0) gives n else 0) ≡ 0) (eqb x 0)
spared x n some = go (eqb x 0)
  where
    go : (b : Bool) → Tells ((not b gives n else 0) ≡ 0) b
    go true = holds refl
    go false = fails some

-- an address is clean where it is closed and has no fault
pub tells_clean : {lim : ℕ} {ws : List ℕ} {r : ℕ} {ms : List ℕ} {a : ℕ} {c d : Bool} → Tells (ClosedAt lim ws r ms a) c → Tells (fault_in lim (move_at ws a) (get_or ms a 0) ≡ 0) d → Tells (CleanAt lim ws r ms a) (c && d)
tells_clean t u = tells_as (λ p. record { closed = p.0; good = p.1 }) (λ k. (k.closed, k.good)) (tells_and t u)

pub tells_good : {lim : ℕ} {ws : List ℕ} {r : ℕ} {ms : List ℕ} {a : ℕ} {c : Bool} → Tells (ClosedAt lim ws r ms a) c → fault_in lim (move_at ws a) (get_or ms a 0) ≡ 0 → Tells (CleanAt lim ws r ms a) c
tells_good t e = tells_as (λ k. record { closed = k; good = e }) (λ k. k.closed) t
