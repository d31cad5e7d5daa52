-- What is left below the limit fits, four times as large.
use mathlib.Core.Path.{◌≡◌, ap₂, sym, subst}
use Prim.Native.Nat.{ℕ, ◌*◌, ◌%◌, ◌^◌, ◌≤◌, ◌<◌}
use native.Mathlib.Nat.{mod-lt}
use native.Mathlib.Omega.{arith}
use lib.Pow.{pow_pos, pow_mono}
use Rattle.flow.specs.Walk.{deepest}
use Rattle.flow.specs.Masks.{deeper_of}
use Rattle.flow.proofs.Mark.deeper.Goals as goal

pub overflow_mul-result : goal.overflow_mul-result
overflow_mul-result c = let b = c.at-below in
    let k = 2 * c.args.limit in
    let l : c.args.limit ≤ deepest = c.requires in
    let n : 2 ^ k ≤ 2 ^ 62 = pow_mono {j = 62} (omega arith) in
    let p : 0 < b.result = subst (λ (x : ℕ). 0 < x) (sym b.ensures) (pow_pos k) in
    let h : c.bare.result % b.result < b.result = mod-lt c.bare.result p in
    let e : b.result ≡ 2 ^ k = b.ensures in
    omega arith

pub returns : goal.returns
unfolding deeper_of
returns c = ap₂ (λ (x y : ℕ). x % y * 4) c.bare.ensures c.at-below.ensures
