-- Digit by digit; a text without digits, or with anything else, is none.
use Rattle.typed.proofs.Numbers.{Read}
use Rattle.typed.proofs.number.Given as goal

abbrev pub invariant-loop-b : goal.invariant-loop-b
invariant-loop-b l = Read l.most l.text l.value l.b-index
