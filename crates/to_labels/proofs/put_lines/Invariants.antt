-- Line after line.
use Prim.Native.Nat.{◌-◌}
use lib.ListN.{length, drop}
use Rattle.text.specs.Cut.{rows_in}
use Rattle.to_labels.specs.Loops.{Known}
use Rattle.to_labels.proofs.Placing.{Placing}
use Rattle.to_labels.proofs.put_lines.Given as goal

abbrev pub invariant-loop-at : goal.invariant-loop-at
invariant-loop-at l = Placing l.n l.text l.from l.initial.out l.start l.a l.at l.out l.place × Known l.n (rows_in (drop l.from l.text)) l.base l.marks

abbrev pub decreases-loop-at : goal.decreases-loop-at
decreases-loop-at l = length l.text - l.at
