-- From the end to the last tab.
use Rattle.editions.proofs.Last.{Tabless}
use Rattle.editions.proofs.last_field.Given as goal

abbrev pub invariant-loop-i : goal.invariant-loop-i
invariant-loop-i l = Tabless l.line l.i
