-- Each arm has the masks of its move.
use native.Mathlib.Omega.{arith}
use Rattle.flow.proofs.Bits.{bare_le}
use Rattle.flow.proofs.Moves.of.Goals as goal

pub overflow_mul-result : goal.overflow_mul-result
overflow_mul-result c = omega (arith, c.bare.ensures, bare_le c.args.m)
