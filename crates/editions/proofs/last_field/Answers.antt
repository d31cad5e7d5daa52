-- From the end to the last tab.
use native.Mathlib.Omega.{arith}
use Rattle.editions.proofs.Last.{last_here, last_first}
use Rattle.editions.proofs.last_field.Goals as goal

pub returns-then-line-i-eq9 : goal.returns-then-line-i-eq9
returns-then-line-i-eq9 c = let l = c.loop-i-test.true in let n = c.loop-i.auto in omega (arith, l, last_here c.args.line.now c.loop-i.i c.loop-i.invariant l (omega (arith, n)) c.if-line-i-eq9.true)

pub returns : goal.returns
returns c = let l = c.loop-i-test.false in omega (arith, l, last_first c.args.line.now c.loop-i.i c.loop-i.invariant (omega (arith, l)))
