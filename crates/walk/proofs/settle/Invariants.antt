-- Following from an open address sets a bit; where none is open, nothing is missing.
use Prim.Native.Nat.{ℕ, ◌≤◌}
use mathlib.Core.Path.{◌≡◌}
use lib.ListN.{length, get_or}
use Rattle.flow.specs.Walk.{On}
use Rattle.walk.specs.Loops.{Sound, Backs, Depths, Room, OpenIs, rest}
use Rattle.walk.proofs.settle.Given as goal

abbrev pub invariant-loop-l : goal.invariant-loop-l
invariant-loop-l l = (length l.words ≤ length l.marks) × (length l.marks ≡ length l.initial.marks) × Sound l.limit l.words l.marks × On 0 (get_or l.marks 0 0) × ((a : ℕ) → length l.words ≤ a → get_or l.marks a 0 ≡ get_or l.initial.marks a 0) × Backs l.limit l.words l.s.back × Room l.s × Depths l.s.back × OpenIs l.limit l.words l.s.back l.marks l.l.open l.l.faulty

abbrev pub decreases-loop-l : goal.decreases-loop-l
decreases-loop-l l = rest l.marks l.s.back
