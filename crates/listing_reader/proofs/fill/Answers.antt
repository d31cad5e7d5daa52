-- Word after word.
use native.Mathlib.Omega.{arith}
use Rattle.listing_reader.proofs.Lines.{filling_order, filling_ended, filling_room, filling_length, filling_next}
use Rattle.listing_reader.proofs.fill.Goals as goal

pub bounds-words-a : goal.bounds-words-a
bounds-words-a c = omega (arith, filling_room c.args.rules c.args.text.now c.args.from c.args.words.now c.loop-at.invariant c.loop-at-test.true c.find-end.ensures, filling_length c.args.rules c.args.text.now c.args.from c.args.words.now c.loop-at.invariant)

pub loop-at-preserved : goal.loop-at-preserved
loop-at-preserved c = filling_next c.args.rules c.args.text.now c.args.from c.args.words.now c.loop-at.invariant c.loop-at-test.true c.find-end.ensures c.read_line-read.ensures

pub slice_bounds-read_line-end : goal.slice_bounds-read_line-end
slice_bounds-read_line-end c =
    omega (
      arith,
      filling_order c.args.rules c.args.text.now c.args.from c.args.words.now c.loop-at.invariant c.loop-at-test.true c.find-end.ensures,
      filling_ended c.args.rules c.args.text.now c.args.from c.args.words.now c.loop-at.invariant c.loop-at-test.true c.find-end.ensures,
    )
