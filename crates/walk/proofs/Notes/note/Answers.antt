-- By the move.
use mathlib.Core.Path.{sym, ap, subst}
use Rattle.flow.specs.declared.Move.{Move}
use Rattle.look.specs.Closed.{back_in}
use Rattle.walk.specs.Loops.{NoteDone}
use Rattle.walk.proofs.Laws.{noted_none}
use Rattle.walk.proofs.Notes.note.Goals as goal

pub returns-in-Other : goal.returns-in-Other
returns-in-Other c = noted_none _ c.args.s c.requires (ap (λ (o : Move). back_in o c.args.s.mark) c.in-Other.is)

pub returns-in-Compare : goal.returns-in-Compare
returns-in-Compare c = noted_none _ c.args.s c.requires (ap (λ (o : Move). back_in o c.args.s.mark) c.in-Compare.is)

pub returns-in-Jump : goal.returns-in-Jump
returns-in-Jump c = noted_none _ c.args.s c.requires (ap (λ (o : Move). back_in o c.args.s.mark) c.in-Jump.is)

pub returns-in-Enter : goal.returns-in-Enter
returns-in-Enter c = subst (λ (o : Move). NoteDone o c.args.s c.note_call.result) (sym c.in-Enter.is) (c.note_call.ensures c.in-Enter.field-0)

pub returns-in-Loop : goal.returns-in-Loop
returns-in-Loop c = noted_none _ c.args.s c.requires (ap (λ (o : Move). back_in o c.args.s.mark) c.in-Loop.is)
