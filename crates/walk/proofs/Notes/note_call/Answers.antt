-- No depth is added.
use Rattle.walk.proofs.Laws.{noted_call}
use Rattle.walk.proofs.Notes.note_call.Goals as goal

pub returns : goal.returns
returns c = λ t. noted_call t c.args.s c.add-calls.result c.requires c.add-calls.ensures
