-- Line after line, until the label is met.
use Prim.Native.Nat.{◌-◌}
use lib.ListN.{length}
use Rattle.to_addresses.proofs.Seeking.{Seeking}
use Rattle.to_addresses.proofs.scan.Given as goal

abbrev pub invariant-loop-at : goal.invariant-loop-at
invariant-loop-at l = Seeking l.text l.from l.name l.at l.past

abbrev pub decreases-loop-at : goal.decreases-loop-at
decreases-loop-at l = length l.text - l.at
