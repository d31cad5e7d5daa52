use Rattle.std.proofs.Common.{◌≤◌, length}
use Rattle.files.proofs.lines.word_lines.Given as goal

abbrev pub invariant-loop-piece : goal.invariant-loop-piece
invariant-loop-piece l = l.n ≤ length l.room
