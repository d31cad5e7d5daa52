-- The highest bit of what the mask does not leave of the word.
use Rattle.std.specs.Prelude.{◌≡◌, ℕ, ◌-◌}
use mathlib.Core.Path.{sym, ap, ◌∙◌}
use lib.Bits.{bit_and}
use Rattle.instruction.specs.Word.{code_in}
use Rattle.named.specs.Named.{named_bits}
use Rattle.reader.proofs.Masks.{mask_in, no_top, top_bit}
use borrow.Author.Rules.{rules}
use Rattle.reader.proofs.highest_stray.Goals as goal

-- what was worked out is the mask of the op code
left : (word code m : ℕ) → m ≡ named_bits code → code ≡ code_in word → word - bit_and word m ≡ word - bit_and word (mask_in word)
left word code m is coded = ap (λ (x : ℕ). word - bit_and word x) (is ∙ ap named_bits coded)

pub returns-then-stray-eq0 : goal.returns-then-stray-eq0
returns-then-stray-eq0 c =
    sym (no_top c.args.word (sym (left c.args.word _ _ c.named_bits.ensures c.code_in.ensures) ∙ c.if-stray-eq0.true))

pub returns : goal.returns
returns c =
    let w = c.args.word in
    top_bit w (w - bit_and w c.named_bits.result) (search rules) (left w _ _ c.named_bits.ensures c.code_in.ensures) c.if-stray-eq0.false
