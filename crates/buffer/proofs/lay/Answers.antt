-- The next is written behind them.
use Rattle.buffer.proofs.Laws.{item_next}
use Rattle.buffer.proofs.lay.Goals as goal

pub loop-i-preserved : goal.loop-i-preserved
loop-i-preserved g c = item_next c.args.out.now c.args.part.now c.args.at c.loop-i.i c.index-part-i.result c.requires c.loop-i-test.true c.loop-i.invariant c.index-part-i.is
