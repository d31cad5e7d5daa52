-- The form of an instruction is that of its body and write flag.
use Rattle.instruction.specs.Form.{form_of}
use Rattle.instruction.proofs.Instruction.form.Goals as goal

pub returns : goal.returns
unfolding form_of
returns c = c.form.ensures
