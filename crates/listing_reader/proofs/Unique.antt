-- `one_answer_read_listing`: the contract of `read_listing` leaves one answer and one content of the buffer.
-- Assumes nothing.
use mathlib.Core.Path.{◌≡◌, sym, ap, ◌∙◌}
use mathlib.Core.List.{List, ◌++◌}
use lib.Dec.{eqb}
use lib.ListN.{length, drop}
use Rattle.instruction.specs.Bits.{pick}
use Rattle.instruction.specs.declared.Rules.{Rules}
use Rattle.listing_reader.specs.ReadBack.{words_in, ReadsBack}
use Rattle.listing_reader.specs.declared.ReadBack.{ReadBack}
use Prim.Native.Nat.{ℕ}

pub one_answer_read_listing : (rules : Rules) (text before : List ℕ) {r r' : ReadBack} {after after' : List ℕ} → ReadsBack rules text before after r → ReadsBack rules text before after' r'
    → (r ≡ r') × (after ≡ after')
one_answer_read_listing rules text before p q =
    let e = p.answer ∙ sym q.answer in (
      e,
      p.words ∙ ap (λ (t : ReadBack). pick (eqb t.number 0) (words_in rules text ++ drop (length (words_in rules text)) before) before) e ∙ sym q.words,
    )
