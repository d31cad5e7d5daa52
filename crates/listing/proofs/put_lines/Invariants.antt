-- Line after line.
use Rattle.listing.proofs.Lines.{Laid}
use Rattle.listing.proofs.put_lines.Given as goal

abbrev pub invariant-loop-a : goal.invariant-loop-a
invariant-loop-a l = Laid l.rules l.bytes l.n l.initial.page l.at l.page l.end l.a
