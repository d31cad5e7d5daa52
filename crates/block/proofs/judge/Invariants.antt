-- Line by line, with a level.
use Prim.Native.Nat.{◌-◌}
use lib.ListN.{length}
use Rattle.block.proofs.Judging.{Judging}
use Rattle.block.proofs.judge.Given as goal

abbrev pub invariant-loop-at : goal.invariant-loop-at
invariant-loop-at l = Judging l.wave.0 l.text l.initial.sizes l.at l.row l.level l.sizes

abbrev pub decreases-loop-at : goal.decreases-loop-at
decreases-loop-at l = length l.text - l.at
