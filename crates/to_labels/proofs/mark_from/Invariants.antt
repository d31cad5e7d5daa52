-- Line after line, on marks that are clear.
use Prim.Native.Nat.{◌-◌}
use lib.ListN.{length, drop}
use Rattle.text.specs.Cut.{rows_in}
use Rattle.to_labels.proofs.Marks.{Remarking}
use Rattle.to_labels.proofs.mark_from.Given as goal

abbrev pub invariant-loop-at : goal.invariant-loop-at
invariant-loop-at l = Remarking l.n (rows_in (drop l.from l.text)) l.base l.a (rows_in (drop l.at l.text)) l.marks

abbrev pub decreases-loop-at : goal.decreases-loop-at
decreases-loop-at l = length l.text - l.at
