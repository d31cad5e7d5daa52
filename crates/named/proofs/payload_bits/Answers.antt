-- Each row is the sum of the ones of its fields; a code that is none lies past the table.
use mathlib.Core.Path.{sym}
use native.Mathlib.Omega.{arith}
use Rattle.named.proofs.Laws.{payload_at, payload_past}
use Rattle.named.proofs.payload_bits.Goals as goal

pub returns-in-0 : goal.returns-in-0
returns-in-0 c = omega (arith, payload_at 0 c.in-0.is)

pub returns-in-1 : goal.returns-in-1
returns-in-1 c = omega (arith, payload_at 1 c.in-1.is)

pub returns-in-2 : goal.returns-in-2
returns-in-2 c = omega (arith, payload_at 2 c.in-2.is)

pub returns-in-3 : goal.returns-in-3
returns-in-3 c = omega (arith, payload_at 3 c.in-3.is)

pub returns-in-4 : goal.returns-in-4
returns-in-4 c = omega (arith, payload_at 4 c.in-4.is)

pub returns-in-5 : goal.returns-in-5
returns-in-5 c = omega (arith, payload_at 5 c.in-5.is)

pub returns-in-6 : goal.returns-in-6
returns-in-6 c = omega (arith, payload_at 6 c.in-6.is)

pub returns-in-7 : goal.returns-in-7
returns-in-7 c = omega (arith, payload_at 7 c.in-7.is)

pub returns-in-8 : goal.returns-in-8
returns-in-8 c = omega (arith, payload_at 8 c.in-8.is)

pub returns-in-9 : goal.returns-in-9
returns-in-9 c = omega (arith, payload_at 9 c.in-9.is)

pub returns-in-10 : goal.returns-in-10
returns-in-10 c = omega (arith, payload_at 10 c.in-10.is)

pub returns-in-11 : goal.returns-in-11
returns-in-11 c = omega (arith, payload_at 11 c.in-11.is)

pub returns-in-12 : goal.returns-in-12
returns-in-12 c = omega (arith, payload_at 12 c.in-12.is)

pub returns-in_default : goal.returns-in_default
returns-in_default c = sym (payload_past c.in_default.in_default-own.rest)
