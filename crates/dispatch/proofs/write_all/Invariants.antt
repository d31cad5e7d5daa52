-- The first words of the group stand in front of what the room held, and are counted.
use mathlib.Core.Path.{◌≡◌}
use mathlib.Core.List.{◌++◌}
use lib.ListN.{take, drop}
use Rattle.dispatch.proofs.Counts.{Along}
use Rattle.dispatch.proofs.write_all.Given as goal

abbrev pub invariant-loop-i : goal.invariant-loop-i
invariant-loop-i l = (l.room ≡ take l.i l.group ++ drop l.i l.initial.room) × Along l.group l.i l.initial.waits l.initial.totals l.waits l.totals
