-- What is asked at first is what is still asked.
use Prim.Native.Nat.{◌-◌}
use mathlib.Core.Path.{◌≡◌}
use lib.ListN.{drop}
use Rattle.sequence.specs.Bounds.{group_size}
use Rattle.verdict.specs.Words.{closes}
use Rattle.verdict.proofs.closes.Given as goal

abbrev pub invariant-loop-word : goal.invariant-loop-word
invariant-loop-word l = closes (group_size - 1) l.above ≡ closes (group_size - 1 - l.word-index) (drop l.word-index l.above)
