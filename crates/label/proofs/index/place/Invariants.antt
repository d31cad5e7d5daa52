-- Step by step, as the definition goes.
use Prim.Native.Nat.{◌-◌}
use mathlib.Core.Path.{◌≡◌}
use Rattle.label.specs.Key.{place_from, place_of, steps}
use Rattle.label.proofs.index.place.Given as goal

abbrev pub invariant-loop : goal.invariant-loop
invariant-loop l = place_from (steps - l.counter) l.keys l.table l.k l.bits l.others l.slot ≡ place_of l.keys l.table l.k
