-- The label is defined, or it is not.
use native.Mathlib.Omega.{arith}
use Rattle.page.proofs.Decimal.{decimal_short}
use borrow.Author.Rules.{rules}
use Rattle.to_addresses.proofs.weigh_jump.Goals as goal

pub overflow_add-address : goal.overflow_add-address
overflow_add-address c = omega (arith, c.digit_count-address.ensures, decimal_short 19 c.args.past.words (search rules))
