-- Two numbers and a label, each behind its tab.
use Prim.Native.Nat.{◌+◌}
use native.Mathlib.Omega.{arith}
use Rattle.editions.proofs.Two.{target_engine, target_alone, target_write, target_here, number_ends}
use Rattle.editions.proofs.target_from.Goals as goal

pub returns-in_default : goal.returns-in_default
returns-in_default c = target_engine c.args.line.now c.args.end c.if-line-end.false c.in_default.ensures

pub returns-then-line-engine : goal.returns-then-line-engine
returns-then-line-engine c = target_alone c.args.line.now c.args.end c.if-line-end.false c.in-Some.ensures c.if-line-engine.true

pub returns-in_default-number_from : goal.returns-in_default-number_from
returns-in_default-number_from c = target_write c.args.line.now c.args.end c.if-line-end.false c.in-Some.ensures c.if-line-engine.false c.in_default-number_from.ensures

pub label_from-requires : goal.label_from-requires
label_from-requires c = number_ends c.args.line.now (c.in-Some.engine.end + 1) (omega (arith, c.if-line-engine.false)) c.in-Some-number_from.ensures

pub returns : goal.returns
returns c = target_here c.args.line.now c.args.end c.if-line-end.false c.in-Some.ensures c.if-line-engine.false c.in-Some-number_from.ensures c.label_from.ensures
