-- Test by test, as it is defined.
use Rattle.left.specs.Left.{core_fits}
use Rattle.left.proofs.core_fits.Goals as goal

pub returns : goal.returns
unfolding core_fits
returns c e n m r = rw (n, m, r)
