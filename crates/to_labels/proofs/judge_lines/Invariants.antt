-- Line after line, each in the room that those before it left.
use Prim.Native.Nat.{◌-◌}
use lib.ListN.{length}
use Rattle.to_labels.proofs.Marking.{JudgingLines}
use Rattle.to_labels.proofs.judge_lines.Given as goal

abbrev pub invariant-loop-at : goal.invariant-loop-at
invariant-loop-at l = JudgingLines l.n l.text l.from l.initial.left l.initial.marks l.initial.notes l.a l.at l.marks l.notes l.left

abbrev pub decreases-loop-at : goal.decreases-loop-at
decreases-loop-at l = length l.text - l.at
