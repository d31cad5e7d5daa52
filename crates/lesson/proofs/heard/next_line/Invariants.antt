use Rattle.std.proofs.Common.{◌≤◌, length}
use Rattle.lesson.proofs.heard.next_line.Given as goal

abbrev pub invariant-loop : goal.invariant-loop
invariant-loop l = l.n ≤ length l.room
