-- What is added is small enough for every sum to fit.
use Prim.Native.Nat.{◌*◌, ◌^◌}
use native.Mathlib.Omega.{arith}
use Rattle.dispatch.proofs.Lists.{all_get, all_more}
use Rattle.dispatch.proofs.count.Goals as goal

pub overflow_add-totals : goal.overflow_add-totals
overflow_add-totals c = let a = c.args in
    let p = c.requires in
    omega (arith, p.1.plays, all_get (2 ^ 31 * 2 ^ 32) a.totals.now a.share.engine p.0.totals.small)

pub plus_one-requires : goal.plus_one-requires
plus_one-requires c = let a = c.args in
    let p = c.requires.0.waits in
    record { size = p.size; small = all_more (2 ^ 31) (2 ^ 32) a.waits.now (omega arith) p.small }

pub overflow_add-waits : goal.overflow_add-waits
overflow_add-waits c = let a = c.args in
    let p = c.requires in
    omega (arith, p.1.waits, all_get (2 ^ 31) a.waits.now a.share.engine p.0.waits.small)
