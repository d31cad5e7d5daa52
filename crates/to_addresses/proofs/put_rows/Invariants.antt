-- Word after word by the notes, and then the others.
use mathlib.Core.Path.{◌≡◌}
use Rattle.to_addresses.proofs.Laying.{Noting}
use Rattle.to_addresses.proofs.put_rows.Given as goal

abbrev pub invariant-loop : goal.invariant-loop
invariant-loop l = Noting l.text l.known l.notes l.initial.out l.start l.laid l.out × (l.laid.words ≡ l.counter)
