-- Two tests, one after the other.
use Prim.Native.Nat.{◌+◌}
use mathlib.Core.Path.{subst}
use mathlib.Core.Bool.{Bool}
use Rattle.look.specs.Closed.{Tells, HoldsAt, fails}
use Rattle.look.proofs.Laws.{tells_yes, tells_no, tells_as}
use Rattle.look.proofs.both_hold.Goals as goal

pub returns-then-not-holds : goal.returns-then-not-holds
returns-then-not-holds c = let s = c.args in
    let t = c.holds in
    fails (λ w. tells_no (subst (λ (z : Bool). Tells (HoldsAt s.n s.marks.now (s.a + 1) s.f.next) z) (c.if-not-holds.true) t.ensures) w.0)

pub returns : goal.returns
returns c = let s = c.args in
    let t = c.holds in
    let h = tells_yes (subst (λ (z : Bool). Tells (HoldsAt s.n s.marks.now (s.a + 1) s.f.next) z) (c.if-not-holds.false) t.ensures) in
    tells_as (λ k. (h, k)) (λ w. w.1) c.holds-2.ensures
