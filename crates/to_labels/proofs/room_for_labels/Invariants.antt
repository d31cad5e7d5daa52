-- Address after address, from the last to the first.
use lib.ListN.{drop}
use Rattle.text.specs.Cut.{rows_in}
use Rattle.to_labels.proofs.Taking.{Sizing}
use Rattle.to_labels.proofs.room_for_labels.Given as goal

abbrev pub invariant-loop-a : goal.invariant-loop-a
invariant-loop-a l = Sizing l.n (rows_in (drop l.from l.text)) l.initial.left l.a l.marks l.base l.left
