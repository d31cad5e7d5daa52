-- Word after word.
use Prim.Native.Nat.{◌-◌}
use lib.ListN.{length}
use Rattle.listing_reader.proofs.Lines.{Filling}
use Rattle.listing_reader.proofs.fill.Given as goal

abbrev pub invariant-loop-at : goal.invariant-loop-at
invariant-loop-at l = Filling l.rules l.text l.from l.initial.words l.words l.at l.a

abbrev pub decreases-loop-at : goal.decreases-loop-at
decreases-loop-at l = length l.text - l.at
