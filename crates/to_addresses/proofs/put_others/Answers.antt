-- Line after line.
use native.Mathlib.Omega.{arith}
use Rattle.to_addresses.proofs.Laying.{laying_row, laying_next, laying_end}
use Rattle.to_addresses.proofs.put_others.Goals as goal

pub put_row-laid-requires : goal.put_row-laid-requires
put_row-laid-requires c = laying_row c.args.text.now c.args.keys.now c.args.table.now c.args.known c.args.out.now c.args.start c.requires c.loop-laid.invariant c.loop-laid-test.true (omega (arith, c.well_formed.0))

pub loop-laid-preserved : goal.loop-laid-preserved
loop-laid-preserved c = laying_next c.args.text.now c.args.keys.now c.args.table.now c.args.known c.args.out.now c.args.start c.requires c.loop-laid.invariant c.loop-laid-test.true c.put_row-laid.ensures

pub returns : goal.returns
returns c = laying_end c.args.text.now c.args.keys.now c.args.table.now c.args.known c.args.out.now c.args.start c.requires c.loop-laid.invariant c.loop-laid-test.false
