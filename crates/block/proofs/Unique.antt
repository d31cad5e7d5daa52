-- A block text has one answer, and leaves one buffer.
-- Assumes nothing.
use Prim.Native.Nat.{ℕ}
use mathlib.Core.Path.{◌≡◌, sym, ap, ◌∙◌}
use mathlib.Core.List.{List, ◌++◌}
use lib.Dec.{eqb}
use lib.ListN.{drop}
use Rattle.instruction.specs.Bits.{pick}
use Rattle.nest.specs.Layout.{size_of, words_of}
use Rattle.block.specs.Text.{block_of, Translates}
use Rattle.text.specs.Told.{Told, number_in}

pub one_answer_block : (wave : ℕ) (text before : List ℕ) {r r' : Told} {after after' : List ℕ} → Translates wave text before after r → Translates wave text before after' r'
    → (r ≡ r') × (after ≡ after')
one_answer_block wave text before t t' =
    let same = t.answer ∙ sym t'.answer in (
      same,
      t.words
          ∙ ap (λ (s : Told). pick (eqb (number_in s) 0) (words_of (block_of text) ++ drop (size_of (block_of text)) before) before) same
          ∙ sym t'.words,
    )
