-- Line after line.
use Prim.Native.Nat.{◌-◌}
use lib.ListN.{length}
use Rattle.to_addresses.proofs.Laying.{Laying}
use Rattle.to_addresses.proofs.put_others.Given as goal

abbrev pub invariant-loop-laid : goal.invariant-loop-laid
invariant-loop-laid l = Laying l.text l.known l.initial.laid l.initial.out l.laid l.out

abbrev pub decreases-loop-laid : goal.decreases-loop-laid
decreases-loop-laid l = length l.text - l.laid.at
