-- From the last byte to the first.
use Prim.Native.Nat.{◌-◌, ◌<◌}
use mathlib.Core.Path.{◌≡◌}
use lib.ListN.{length, drop}
use Rattle.label.specs.Key.{value_of}
use Rattle.label.proofs.Packed.{cap}
use Rattle.label.proofs.value.Given as goal

abbrev pub invariant-loop-i : goal.invariant-loop-i
invariant-loop-i l = (l.value ≡ value_of (drop l.i l.name)) × (l.value < cap (length l.name - l.i))
