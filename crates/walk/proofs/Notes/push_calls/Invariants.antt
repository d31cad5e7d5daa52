-- There is room for what is added.
use Prim.Native.Nat.{◌≤◌}
use Rattle.sequence.specs.Bounds.{word_limit}
use Rattle.walk.proofs.Notes.push_calls.Given as goal

abbrev pub invariant-loop-i : goal.invariant-loop-i
invariant-loop-i l = l.top ≤ word_limit
