-- The contract of a move leaves one answer, and one content of the buffer.
-- Assumes nothing.
use mathlib.Core.Path.{◌≡◌, sym, ap, ◌∙◌}
use mathlib.Core.List.{List, ◌++◌}
use Prim.Native.Nat.{ℕ}
use lib.Dec.{eqb}
use lib.ListN.{length, drop}
use Rattle.instruction.specs.Bits.{pick}
use Rattle.editions.specs.Moves.{Moves}
use Rattle.editions.specs.declared.Moved.{Moved}

pub one_move : (judged : Moved) (text before : List ℕ) {after after' : List ℕ} {r r' : Moved} → Moves judged text before after r → Moves judged text before after' r' → (r ≡ r') × (after ≡ after')
one_move judged text before p q =
    let e = p.answer ∙ sym q.answer in (
      e,
      p.bytes ∙ ap (λ (t : Moved). pick (eqb t.number 0) (text ++ drop (length text) before) before) e ∙ sym q.bytes,
    )
