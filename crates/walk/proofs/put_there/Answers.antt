-- No bits are held everywhere.
use Rattle.look.proofs.Laws.{held_zero}
use Rattle.walk.specs.Loops.{same}
use Rattle.walk.proofs.put_there.Goals as goal

pub returns-then-x-eq0 : goal.returns-then-x-eq0
returns-then-x-eq0 c = let s = c.args in same (held_zero s.n s.marks.now s.to s.x c.if-x-eq0.true)
