-- Each turn writes the last digit of what is left, of which there is one more than is written here.
use Prim.Native.Nat.{◌<◌}
use Rattle.page.proofs.Decimal.{Spelled}
use Rattle.page.proofs.put_number.Given as goal

abbrev pub invariant-loop-i : goal.invariant-loop-i
invariant-loop-i l = (l.at < l.i) × Spelled l.n l.initial.page l.at l.page l.i l.rest
