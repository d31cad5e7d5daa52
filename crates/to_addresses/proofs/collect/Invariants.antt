-- Line after line: what is left of the labels stands before what is left of the lines.
use Prim.Native.Nat.{◌-◌}
use mathlib.Core.Path.{◌≡◌}
use lib.ListN.{length}
use Rattle.to_addresses.specs.Moving.{defined_in, Along, Kept}
use Rattle.to_addresses.proofs.collect.Given as goal

abbrev pub invariant-loop-at : goal.invariant-loop-at
invariant-loop-at l = Along l.text l.from l.at l.past × (Kept l.keys (defined_in l.text l.from) l.past.labels) × (length l.keys ≡ length l.initial.keys)

abbrev pub decreases-loop-at : goal.decreases-loop-at
decreases-loop-at l = length l.text - l.at
