-- Byte by byte.
use Rattle.typed.proofs.Words.{along_next}
use Rattle.typed.proofs.take.Goals as goal

pub loop-b-preserved : goal.loop-b-preserved
loop-b-preserved c = along_next _ _ _ _ _ _ _ c.loop-b.invariant c.loop-b-test.true _ _ c.take_byte-at.ensures
