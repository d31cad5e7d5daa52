-- Line after line.
use Prim.Native.Nat.{◌-◌}
use lib.ListN.{length}
use Rattle.listing_reader.proofs.Lines.{Judging}
use Rattle.listing_reader.proofs.judge.Given as goal

abbrev pub invariant-loop-at : goal.invariant-loop-at
invariant-loop-at l = Judging l.rules l.text l.from l.room l.at l.a

abbrev pub decreases-loop-at : goal.decreases-loop-at
decreases-loop-at l = length l.text - l.at
