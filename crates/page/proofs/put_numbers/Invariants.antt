-- One number after the other.
use Rattle.page.proofs.Decimal.{Numbered}
use Rattle.page.proofs.put_numbers.Given as goal

abbrev pub invariant-loop-n : goal.invariant-loop-n
invariant-loop-n l = Numbered l.numbers l.initial.page l.at l.page l.end l.n-index
