-- The mask of the op code leaves the whole word just where no bit is set that is not named.
use mathlib.Core.Path.{ap, ◌∙◌}
use mathlib.Core.Bool.{not}
use Prim.Native.Nat.{ℕ}
use lib.Bits.{bit_and}
use lib.Dec.{eqb}
use Rattle.named.specs.Named.{named_bits}
use Rattle.reader.proofs.Masks.{unnamed_by_mask}
use borrow.Author.Rules.{rules}
use Rattle.reader.proofs.has_unnamed.Goals as goal

pub returns : goal.returns
returns c = let w = c.args.word in
    ap (λ (m : ℕ). not (eqb (bit_and w m) w)) (c.named_bits.ensures ∙ ap named_bits c.code_in.ensures) ∙ unnamed_by_mask w (search rules)
