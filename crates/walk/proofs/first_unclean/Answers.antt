-- All below a is clean.
use Prim.Native.Nat.{ℕ}
use mathlib.Core.Path.{subst}
use mathlib.Core.Bool.{Bool}
use native.Mathlib.Omega.{arith}
use Rattle.look.specs.Closed.{Tells, CleanAt}
use Rattle.look.proofs.Laws.{tells_yes}
use Rattle.walk.proofs.Laws.{below_more}
use Rattle.walk.proofs.first_unclean.Goals as goal

pub loop-a-preserved : goal.loop-a-preserved
loop-a-preserved c = let s = c.args in
    let l = c.loop-a in
    let t = c.is_clean in
    let h = c.loop-a-test.true in (
      omega arith,
      below_more (λ (k : ℕ). CleanAt s.limit s.words.now s.back s.marks.now k) l.a l.invariant.1
          (tells_yes (subst (λ (z : Bool). Tells (CleanAt s.limit s.words.now s.back s.marks.now l.a) z) (c.if-not-is_clean.false) t.ensures)),
    )
