-- By the move.
use Prim.Native.Nat.{ℕ}
use mathlib.Core.Path.{◌≡◌, sym, ap, subst, ◌∙◌}
use lib.Bits.{bit_or}
use lib.Dec.{eqb}
use Rattle.flow.specs.declared.Move.{Move}
use Rattle.look.specs.Closed.{Tells, back_in, holds}
use Rattle.look.proofs.Laws.{or_zero, tells_eq}
use Rattle.look.proofs.knows.Goals as goal

pub returns-in-Other : goal.returns-in-Other
returns-in-Other c = let s = c.args in holds (ap (λ (o : Move). bit_or s.back (back_in o s.m)) c.in-Other.is ∙ or_zero s.back)

pub returns-in-Compare : goal.returns-in-Compare
returns-in-Compare c = let s = c.args in holds (ap (λ (o : Move). bit_or s.back (back_in o s.m)) c.in-Compare.is ∙ or_zero s.back)

pub returns-in-Jump : goal.returns-in-Jump
returns-in-Jump c = let s = c.args in holds (ap (λ (o : Move). bit_or s.back (back_in o s.m)) c.in-Jump.is ∙ or_zero s.back)

pub returns-in-Enter : goal.returns-in-Enter
returns-in-Enter c = let s = c.args in holds (ap (λ (o : Move). bit_or s.back (back_in o s.m)) c.in-Enter.is ∙ or_zero s.back)

pub returns-in-Leave : goal.returns-in-Leave
returns-in-Leave c = let s = c.args in
    subst (λ (x : ℕ). Tells (bit_or s.back x ≡ s.back) (eqb (bit_or s.back c.bare.result) s.back)) (c.bare.ensures ∙ sym (ap (λ (o : Move). back_in o s.m) c.in-Leave.is))
    (tells_eq (bit_or s.back c.bare.result) s.back)

pub returns-in-Loop : goal.returns-in-Loop
returns-in-Loop c = let s = c.args in holds (ap (λ (o : Move). bit_or s.back (back_in o s.m)) c.in-Loop.is ∙ or_zero s.back)
