-- All below a is clean.
use Prim.Native.Nat.{ℕ, ◌≤◌, ◌<◌}
use lib.ListN.{length}
use Rattle.look.specs.Closed.{CleanAt}
use Rattle.walk.proofs.first_unclean.Given as goal

abbrev pub invariant-loop-a : goal.invariant-loop-a
invariant-loop-a l = (l.a ≤ length l.words) × ((k : ℕ) → k < l.a → CleanAt l.limit l.words l.back l.marks k)
