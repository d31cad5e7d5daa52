-- All below a is closed; where all is, the first address that is not clean is the first that faults.
use Prim.Native.Nat.{ℕ, ◌<◌}
use mathlib.Core.Path.{subst}
use mathlib.Core.Bool.{Bool}
use lib.ListN.{length}
use native.Mathlib.Omega.{arith}
use Rattle.look.specs.Closed.{Tells, ClosedAt}
use Rattle.look.proofs.Laws.{tells_yes, tells_no}
use Rattle.walk.specs.Loops.{closed, first}
use Rattle.walk.proofs.Laws.{below_more, unclean_fault}
use Rattle.walk.proofs.look_over.Goals as goal

pub returns-then-not-is_closed : goal.returns-then-not-is_closed
returns-then-not-is_closed c = let s = c.args in
    let l = c.loop-a in
    let t = c.is_closed in
    first c.loop-a-test.true (tells_no (subst (λ (z : Bool). Tells (ClosedAt s.limit s.words.now s.back s.marks.now l.a) z) (c.if-not-is_closed.true) t.ensures))

pub loop-a-preserved : goal.loop-a-preserved
loop-a-preserved c = let s = c.args in
    let l = c.loop-a in
    let t = c.is_closed in
    let h = c.loop-a-test.true in (
      omega arith,
      below_more (λ (k : ℕ). ClosedAt s.limit s.words.now s.back s.marks.now k) l.a l.invariant.1
          (tells_yes (subst (λ (z : Bool). Tells (ClosedAt s.limit s.words.now s.back s.marks.now l.a) z) (c.if-not-is_closed.false) t.ensures)),
    )

pub returns : goal.returns
returns c = let s = c.args in
    let l = c.loop-a in
    let u = c.first_unclean-faulty in
    let all : (k : ℕ) → k < length s.words.now → ClosedAt s.limit s.words.now s.back s.marks.now k = λ k h. l.invariant.1 k (omega (arith, h, c.loop-a-test.false)) in
    closed all (unclean_fault s.limit s.words.now s.back s.marks.now u.result u.ensures all)
