-- One number after the other.
use Rattle.page.proofs.Decimal.{numbers_next, numbers_end}
use Rattle.page.proofs.put_numbers.Goals as goal

pub loop-n-preserved : goal.loop-n-preserved
loop-n-preserved c = numbers_next c.args.numbers.now c.args.page.now c.args.at c.requires c.loop-n.invariant c.loop-n-test.true c.put_value-end.ensures

pub returns : goal.returns
returns c = numbers_end c.args.numbers.now c.args.page.now c.args.at c.requires c.loop-n.invariant c.loop-n-test.false c.put_end.ensures
