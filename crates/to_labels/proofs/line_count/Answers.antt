-- Line by line.
use mathlib.Core.Path.{ap}
use native.Mathlib.Omega.{arith}
use lib.ListN.{length}
use Rattle.text.specs.Cut.{line_feed}
use Rattle.text.proofs.Cuts.{found_order, found_inside}
use Rattle.text.proofs.Rows.{rows_next}
use Rattle.to_labels.proofs.line_count.Goals as goal

pub overflow_add-at : goal.overflow_add-at
overflow_add-at c = omega (arith, found_inside line_feed c.loop-at.at c.args.text.now c.find-at.ensures (omega (arith, c.loop-at-test.true)), c.well_formed)

pub loop-at-preserved : goal.loop-at-preserved
loop-at-preserved c = (
  omega
      (arith, c.loop-at.invariant.0, ap length (rows_next c.args.text.now c.loop-at.at c.find-at.ensures c.loop-at-test.true)),
  omega (arith, c.loop-at.invariant.1, found_order line_feed c.loop-at.at c.args.text.now c.find-at.ensures),
  omega (arith, c.loop-at.invariant.1, c.loop-at-test.true),
)
