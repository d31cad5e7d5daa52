-- Byte by byte.
use Rattle.typed.proofs.Words.{Along}
use Rattle.typed.proofs.take.Given as goal

abbrev pub invariant-loop-b : goal.invariant-loop-b
invariant-loop-b l = Along l.spelling l.initial.at l.text l.initial.words l.words l.at l.b-index
