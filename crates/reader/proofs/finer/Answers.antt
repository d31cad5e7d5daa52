-- The kind of the highest bit that is not named, and the bit; any other number as it is.
use mathlib.Core.Path.{sym, subst}
use Prim.Native.Nat.{ℕ, ◌<◌}
use Rattle.instruction.specs.Table.{word_bits}
use Rattle.reader.proofs.Masks.{code_small}
use Rattle.reader.proofs.Strays.{stray_inside}
use Rattle.reader.proofs.finer.Goals as goal

pub kind_of-requires : goal.kind_of-requires
kind_of-requires c = let w = c.args.word in
    (subst (λ (k : ℕ). k < 16) (sym c.code_in.ensures) (code_small w), subst (λ (k : ℕ). k < word_bits) (sym c.highest_stray-bit.ensures) (stray_inside w))
