-- All below a is closed; where all is, the first address that is not clean is the first that faults.
use Prim.Native.Nat.{ℕ, ◌≤◌, ◌<◌}
use lib.ListN.{length}
use Rattle.look.specs.Closed.{ClosedAt}
use Rattle.walk.proofs.look_over.Given as goal

abbrev pub invariant-loop-a : goal.invariant-loop-a
invariant-loop-a l = (l.a ≤ length l.words) × ((k : ℕ) → k < l.a → ClosedAt l.limit l.words l.back l.marks k)
