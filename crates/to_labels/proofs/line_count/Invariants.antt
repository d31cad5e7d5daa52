-- Line by line.
use Prim.Native.Nat.{◌+◌, ◌-◌, ◌≤◌}
use mathlib.Core.Path.{◌≡◌}
use lib.ListN.{length, drop}
use Rattle.text.specs.Cut.{rows_in}
use Rattle.to_labels.proofs.line_count.Given as goal

abbrev pub invariant-loop-at : goal.invariant-loop-at
invariant-loop-at l = (l.n + length (rows_in (drop l.at l.text)) ≡ length (rows_in (drop l.from l.text))) × (l.n ≤ l.at) × (l.n ≤ length l.text)

abbrev pub decreases-loop-at : goal.decreases-loop-at
decreases-loop-at l = length l.text - l.at
