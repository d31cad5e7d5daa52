-- The test is the definition, of the op code and the op that the word holds.
use Rattle.reader.specs.Reading.{not_its_op}
use Rattle.reader.proofs.not_its_op.Goals as goal

pub returns : goal.returns
unfolding not_its_op
returns c = rw (c.held_in-op.ensures, c.code_in-code.ensures)
