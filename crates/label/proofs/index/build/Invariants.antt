-- The table keeps its length; nothing is said of what it holds.
use mathlib.Core.Path.{◌≡◌}
use lib.ListN.{length}
use Rattle.label.proofs.index.build.Given as goal

abbrev pub invariant-loop-j : goal.invariant-loop-j
invariant-loop-j l = length l.table ≡ length l.initial.table
