-- One number after the other.
use lib.ListN.{length}
use Rattle.fields.proofs.Gathered.{Gathered}
use Rattle.fields.proofs.read_numbers.Given as goal

abbrev pub invariant-loop-value : goal.invariant-loop-value
invariant-loop-value l = Gathered l.line l.from (length l.initial.values) l.initial.values l.values l.at l.value-index
