-- A bit that was set, or the bits were held.
use Prim.Native.Nat.{◌<◌, ◌^◌}
use native.Mathlib.Omega.{arith}
use lib.ListN.{get_or}
use lib.Bits.{bit_or, or_add_and, and_le_r}
use Rattle.walk.specs.Loops.{same, more}
use Rattle.walk.proofs.put.Goals as goal

pub returns-then-n-at : goal.returns-then-n-at
returns-then-n-at c = same (λ l. absurd (omega arith))

pub returns-then-new-old : goal.returns-then-new-old
returns-then-new-old c = same (λ l. c.if-new-old.true)

pub returns : goal.returns
returns c = let s = c.args in
    let old = get_or s.marks.now s.at 0 in
    let new = bit_or old s.x in
    let below : s.at < s.n = c.if-n-at.false in
    let up : old < new = omega (arith, or_add_and old s.x, and_le_r old s.x, c.if-new-old.false) in
    let fit : old < 2 ^ 64 = omega (arith, c.slice_known-1.given s.at) in
    more below up fit
