-- Address after address, from the last to the first.
use Prim.Native.Nat.{◌-◌}
use lib.ListN.{drop}
use Rattle.text.specs.Cut.{rows_in}
use Rattle.to_labels.proofs.Marks.{near_told}
use Rattle.to_labels.proofs.Taking.{sizing_next}
use Rattle.to_labels.proofs.room_for_labels.Goals as goal

pub loop-a-preserved : goal.loop-a-preserved
loop-a-preserved c = sizing_next c.args.n (rows_in (drop c.args.from c.args.text.now)) c.args.room c.loop-a.invariant c.loop-a-test.true c.base_for-base.ensures (near_told c.args.n (rows_in (drop c.args.from c.args.text.now)) (c.loop-a.a - 1) c.base_for-base.ensures) c.label_size.ensures c.take-left.ensures
