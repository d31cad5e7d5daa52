-- Line after line, on marks that are clear.
use native.Mathlib.Omega.{arith}
use lib.ListN.{drop}
use Rattle.text.specs.Cut.{line_feed, rows_in}
use Rattle.text.proofs.Cuts.{found_inside}
use Rattle.text.proofs.Rows.{rows_next}
use Rattle.to_labels.proofs.Marks.{remarking_next}
use Rattle.to_labels.proofs.mark_from.Goals as goal

pub overflow_add-at : goal.overflow_add-at
overflow_add-at c = omega (arith, found_inside line_feed c.loop-at.at c.args.text.now c.find-end.ensures (omega (arith, c.loop-at-test.true)), c.well_formed)

pub loop-at-preserved : goal.loop-at-preserved
loop-at-preserved c = remarking_next c.args.n (rows_in (drop c.args.from c.args.text.now)) c.args.base c.requires c.loop-at.invariant (rows_next c.args.text.now c.loop-at.at c.find-end.ensures c.loop-at-test.true) c.tell_line-told.ensures c.mark.ensures
