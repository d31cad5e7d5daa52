-- `label`, tab, `L` and the line feed, and the digits.
use native.Mathlib.Omega.{arith}
use Rattle.page.proofs.Decimal.{decimal_short}
use Rattle.to_labels.proofs.label_size.Goals as goal

pub overflow_add-result : goal.overflow_add-result
overflow_add-result c = omega (arith, c.digit_count.ensures, decimal_short 19 c.args.a (omega (arith, c.ranges.a)))
