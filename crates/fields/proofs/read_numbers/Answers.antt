-- One number after the other.
use native.Mathlib.Omega.{arith}
use lib.ListN.{length}
use Rattle.fields.proofs.Gathered.{gather_not, gather_next, gather_end}
use Rattle.fields.proofs.read_numbers.Goals as goal

pub returns-in_default : goal.returns-in_default
returns-in_default c = gather_not c.args.line.now c.args.from (length c.args.values.now) c.args.values.now c.requires (omega arith) c.loop-value.invariant c.if-line-at.false c.in_default.ensures

pub loop-value-preserved : goal.loop-value-preserved
loop-value-preserved c = gather_next c.args.line.now c.args.from (length c.args.values.now) c.args.values.now c.requires (omega arith) c.loop-value.invariant c.if-line-at.false c.in-Some.ensures c.loop-value-test.true

pub returns : goal.returns
returns c = gather_end c.args.line.now c.args.from (length c.args.values.now) c.args.values.now c.requires (omega arith) c.loop-value.invariant c.loop-value-test.false
