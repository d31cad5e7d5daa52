use Rattle.std.proofs.Common.{◌≤◌, length}
use Rattle.files.proofs.moves.lay_listing.Given as goal

abbrev pub invariant-loop-address : goal.invariant-loop-address
invariant-loop-address l = l.at ≤ length l.text
