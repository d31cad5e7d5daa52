-- Each label below j is found no later than it stands; of these, the first double.
use Prim.Native.Nat.{ℕ, ◌≤◌, ◌<◌}
use Rattle.label.specs.Key.{key_at, count, seek_of}
use Rattle.label.proofs.Firsts.{DoubleTo}
use Rattle.label.proofs.Seeks.{seek_sound}
use Rattle.label.proofs.index.look.Given as goal

abbrev pub invariant-loop-j : goal.invariant-loop-j
invariant-loop-j l = ((i : ℕ) → i < l.j → seek_of l.keys l.table (key_at l.keys i) ≤ i) × DoubleTo (key_at l.keys) (count l.keys) (seek_of l.keys l.table) (seek_sound l.keys l.table) l.j l.double
