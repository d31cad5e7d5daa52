-- The first i of the part are written.
use Rattle.std.proofs.Common.{◌≡◌}
use lib.ListN.{take}
use Rattle.buffer.specs.Put.{put}
use Rattle.buffer.proofs.lay.Given as goal

abbrev pub invariant-loop-i : goal.invariant-loop-i
invariant-loop-i g l = l.out ≡ put l.initial.out l.at (take l.i l.part)
