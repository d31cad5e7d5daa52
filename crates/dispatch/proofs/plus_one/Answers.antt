-- The first counts are one more, the others as they were.
use Prim.Native.Nat.{ℕ, ◌^◌}
use mathlib.Core.Path.{ap, ◌∙◌}
use mathlib.Core.List.{List}
use native.Mathlib.Omega.{arith}
use lib.ListN.{get_or}
use Rattle.dispatch.proofs.Lists.{all_get, plus_read, plus_next}
use Rattle.dispatch.proofs.plus_one.Goals as goal

pub overflow_add-waited : goal.overflow_add-waited
overflow_add-waited c = let l = c.args.waits.now in
    let k = c.loop-waited in
    let i = k.waited-index in
    omega (arith, all_get (2 ^ 32) l i c.requires.small, ap (λ (x : List ℕ). get_or x i 0) k.invariant ∙ plus_read l i (omega (arith, c.loop-waited-test.true)))

pub loop-waited-preserved : goal.loop-waited-preserved
loop-waited-preserved c = let k = c.loop-waited in
    rw k.invariant (plus_next c.args.waits.now k.waited-index (omega (arith, c.loop-waited-test.true)))
