use Rattle.std.proofs.Common.{◌<◌}
use Rattle.aps2_listing.proofs.left_over.Given as goal

abbrev pub invariant-loop : goal.invariant-loop
invariant-loop l = l.over < 8
