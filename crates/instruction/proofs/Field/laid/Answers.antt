-- What is cut to the field's width is not lost when it is moved up to its place.
use mathlib.Core.Path.{ap, ◌∙◌}
use Prim.Native.Nat.{ℕ, ◌*◌, ◌%◌, ◌^◌}
use native.Mathlib.Nat.{mod-lt}
use native.Mathlib.Omega.{arith}
use lib.Pow.{pow_pos, shl_exact}
use Rattle.instruction.proofs.Field.laid.Goals as goal

pub returns : goal.returns
returns c = let f = c.args.self in
    ap (λ (x : ℕ). c.args.v % x * 2 ^ f.low % 2 ^ 64) c.span.ensures
    ∙ shl_exact f.width f.low 64 (mod-lt c.args.v (pow_pos f.width)) (omega (arith, c.requires.2))
