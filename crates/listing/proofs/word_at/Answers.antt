-- Each byte more is one place of 256.
use Prim.Native.Nat.{ℕ, ◌+◌, ◌*◌}
use mathlib.Core.Path.{ap, ap₂, sym, ◌∙◌}
use native.Mathlib.Omega.{arith}
use Rattle.instruction.specs.Word.{word_bytes}
use Rattle.listing.specs.Listing.{big_endian}
use Rattle.listing.proofs.Lines.{byte_grows, byte_room}
use native.Mathlib.Numerals.{add-one}
use Rattle.listing.proofs.word_at.Goals as goal

pub overflow_mul-word : goal.overflow_mul-word
overflow_mul-word c = omega (arith, byte_room c.loop-k.k c.loop-k.word 0 c.loop-k-test.true c.loop-k.invariant.1 (omega arith))

pub overflow_add-word : goal.overflow_add-word
overflow_add-word c = omega (arith, byte_room c.loop-k.k c.loop-k.word c.wide.result c.loop-k-test.true c.loop-k.invariant.1 c.wide.ensures.1)

pub loop-k-preserved : goal.loop-k-preserved
loop-k-preserved c = (ap₂ (λ (x y : ℕ). x * 256 + y) c.loop-k.invariant.0 c.wide.ensures.0 ∙ ap (big_endian c.args.bytes.now (c.args.a * word_bytes)) (sym (add-one c.loop-k.k)), byte_grows c.loop-k.k c.loop-k.word c.wide.result c.loop-k.invariant.1 c.wide.ensures.1)
