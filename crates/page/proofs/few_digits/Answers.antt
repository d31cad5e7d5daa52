-- A power of ten has a digit more than what is below it.
use mathlib.Core.Path.{sym, ap}
use native.Mathlib.Omega.{arith}
use lib.ListN.{length}
use Rattle.text.proofs.Decimals.{decimal_one}
use Rattle.page.proofs.Decimal.{decimal_size}
use Rattle.page.proofs.few_digits.Goals as goal

pub returns-in-0-to-9 : goal.returns-in-0-to-9
returns-in-0-to-9 c = sym (ap length (decimal_one c.args.n (omega (arith, c.in-0-to-9))))

pub returns-in-10-to-99 : goal.returns-in-10-to-99
returns-in-10-to-99 c = sym (decimal_size 1 c.args.n (omega (arith, c.in-10-to-99)) (omega (arith, c.in-10-to-99)))

pub returns-in-100-to-999 : goal.returns-in-100-to-999
returns-in-100-to-999 c = sym (decimal_size 2 c.args.n (omega (arith, c.in-100-to-999)) (omega (arith, c.in-100-to-999)))

pub returns-in_default : goal.returns-in_default
returns-in_default c = sym (decimal_size 3 c.args.n (omega (arith, c.in_default)) c.requires)
