-- Line after line: those so far are good.
use Prim.Native.Nat.{◌-◌}
use mathlib.Core.Path.{◌≡◌}
use lib.ListN.{length}
use Rattle.to_addresses.proofs.Verdicts.{Judging}
use Rattle.to_addresses.proofs.judge.Given as goal

abbrev pub invariant-loop-at : goal.invariant-loop-at
invariant-loop-at l = Judging l.text l.known l.initial.left l.at l.past l.left l.notes × (length l.notes ≡ length l.initial.notes)

abbrev pub decreases-loop-at : goal.decreases-loop-at
decreases-loop-at l = length l.text - l.at
