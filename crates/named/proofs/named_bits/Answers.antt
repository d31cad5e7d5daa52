-- The header's fields, and below them the payload's.
use native.Mathlib.Omega.{arith}
use Rattle.named.proofs.Laws.{payload_small, named_is}
use Rattle.named.proofs.named_bits.Goals as goal

pub overflow_add-result-3 : goal.overflow_add-result-3
overflow_add-result-3 c = omega (arith, c.payload_bits.ensures, payload_small c.args.code)

pub returns : goal.returns
returns c = omega (arith, c.payload_bits.ensures, named_is c.args.code)
