-- The reserved bit by its number; above every field where the payload's mask has no bit from it on.
use mathlib.Core.Path.{sym, ap, ◌∙◌}
use Prim.Native.Nat.{ℕ, ◌/◌, ◌^◌}
use borrow.Author.Tests.{eq-eqb, ne_eqb}
use Rattle.reader.proofs.Masks.{above_exact}
use Rattle.reader.proofs.Strays.{not_reserved}
use Rattle.reader.proofs.kind_of.Goals as goal

pub returns-then-payload_bits-bit-eq0 : goal.returns-then-payload_bits-bit-eq0
returns-then-payload_bits-bit-eq0 c = let code = c.args.code in
    let bit = c.args.bit in
    let pre = c.requires in
    rw (not_reserved bit c.if-bit.false, sym (above_exact code bit pre.0 pre.1), eq-eqb _ 0 (ap (λ (m : ℕ). m / 2 ^ bit) (sym c.payload_bits.ensures) ∙ c.if-payload_bits-bit-eq0.true))

pub returns : goal.returns
returns c = let code = c.args.code in
    let bit = c.args.bit in
    let pre = c.requires in
    rw (not_reserved bit c.if-bit.false, sym (above_exact code bit pre.0 pre.1), ne_eqb _ 0 (λ z. c.if-payload_bits-bit-eq0.false (ap (λ (m : ℕ). m / 2 ^ bit) c.payload_bits.ensures ∙ z)))
