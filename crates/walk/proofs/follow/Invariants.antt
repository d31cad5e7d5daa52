-- Each visit sets a bit, or a hint is taken.
use Prim.Native.Nat.{◌≤◌}
use lib.ListN.{length}
use Rattle.walk.specs.Loops.{Room, AtHand, Since, load}
use Rattle.walk.proofs.follow.Given as goal

abbrev pub invariant-loop-s : goal.invariant-loop-s
invariant-loop-s l = (length l.words ≤ length l.marks) × Room l.s × AtHand l.words l.marks l.s × Since l.limit l.words l.initial.marks l.initial.s l.marks l.s

abbrev pub decreases-loop-s : goal.decreases-loop-s
decreases-loop-s l = load l.marks l.s.back l.s.hints
