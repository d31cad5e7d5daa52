-- From the last byte to the first.
use native.Mathlib.Omega.{arith}
use Prim.Native.Nat.{◌-◌}
use lib.ListN.{length}
use Rattle.label.proofs.Packed.{cap_seven}
use Rattle.label.proofs.value.Goals as goal

pub overflow_mul-value : goal.overflow_mul-value
overflow_mul-value c = let l = c.loop-i in let t = c.loop-i-test.true in let p = c.requires in let s = cap_seven (length c.args.name.now - l.i) l.value (omega arith) l.invariant.1 in omega arith

pub overflow_add-value : goal.overflow_add-value
overflow_add-value c = let l = c.loop-i in let t = c.loop-i-test.true in let p = c.requires in let w = c.from.ensures in let b = c.type_inv.name (l.i - 1) in let s = cap_seven (length c.args.name.now - l.i) l.value (omega arith) l.invariant.1 in omega (arith, w, b)
