-- Word after word by the notes, and then the others.
use native.Mathlib.Omega.{arith}
use Rattle.to_addresses.proofs.Laying.{noting_next, noting_others, noting_end}
use Rattle.to_addresses.proofs.put_rows.Goals as goal

pub loop-preserved : goal.loop-preserved
loop-preserved c = (noting_next c.args.text.now c.args.keys.now c.args.table.now c.args.known c.args.notes.now c.args.out.now c.args.start c.requires c.loop.invariant.0 (omega (arith, c.loop-test.true, c.loop.invariant.1, c.min-noted.ensures)) (omega (arith, c.loop-test.true, c.loop.invariant.1, c.min-noted.ensures)) c.put_noted-laid.ensures, omega (arith, c.loop.invariant.1, c.put_noted-laid.ensures.counts))

pub put_others-requires : goal.put_others-requires
put_others-requires c = noting_others c.args.text.now c.args.keys.now c.args.table.now c.args.known c.args.notes.now c.args.out.now c.args.start c.requires c.loop.invariant.0 (let n = c.loop.auto.counter-end in omega (arith, n, c.loop.invariant.1, c.min-noted.ensures)) (let n = c.loop.auto.counter-end in omega (arith, n, c.loop.invariant.1, c.min-noted.ensures))

pub returns : goal.returns
returns c = noting_end c.args.text.now c.args.keys.now c.args.table.now c.args.known c.args.notes.now c.args.out.now c.args.start c.requires c.loop.invariant.0 c.put_others.ensures
