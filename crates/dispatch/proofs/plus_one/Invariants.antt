-- The first counts are one more, the others as they were.
use mathlib.Core.Path.{◌≡◌}
use mathlib.Core.List.{◌++◌}
use lib.ListN.{take, drop}
use Rattle.dispatch.specs.Engines.{plus_one}
use Rattle.dispatch.proofs.plus_one.Given as goal

abbrev pub invariant-loop-waited : goal.invariant-loop-waited
invariant-loop-waited l = l.waits ≡ take l.waited-index (plus_one l.initial.waits) ++ drop l.waited-index l.initial.waits
