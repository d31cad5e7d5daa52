-- Digit by digit, up to the byte or the end.
use Rattle.text.proofs.Numbers.{Counting}
use Rattle.text.proofs.number_on.Given as goal

abbrev pub invariant-loop-i : goal.invariant-loop-i
invariant-loop-i l = Counting l.x l.from l.text l.value l.i
