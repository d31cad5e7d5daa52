-- A ten thousandth of a number has four digits less.
use native.Mathlib.Omega.{arith}
use Rattle.page.proofs.Decimal.{decimal_four, decimal_short}
use Rattle.page.proofs.digit_count.Goals as goal

pub overflow_add-count : goal.overflow_add-count
overflow_add-count c = omega (arith, c.loop-rest.invariant, decimal_short 19 c.args.n (omega (arith, c.ranges)))

pub loop-rest-preserved : goal.loop-rest-preserved
loop-rest-preserved c = omega (arith, c.loop-rest.invariant, decimal_four c.loop-rest.rest c.loop-rest-test.true)

pub overflow_add-result : goal.overflow_add-result
overflow_add-result c = omega (arith, c.few_digits.ensures, c.loop-rest.invariant, decimal_short 19 c.args.n (omega (arith, c.ranges)))
