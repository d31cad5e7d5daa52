-- Input first.
use mathlib.Core.Path.{refl, ◌∙◌}
use Rattle.sequence.proofs.Laws.{input_some}
use Rattle.aps2_c.proofs.Calls.{condition_input, condition_70}
use Rattle.aps2_c.proofs.condition_refused.Goals as goal

pub returns-in-Ok : goal.returns-in-Ok
returns-in-Ok c e n w = c.number.ensures ∙ condition_70 c.args.budget e _ (c.in-Ok.ensures ∙ rw (n, w)) refl

pub returns-in-Err : goal.returns-in-Err
returns-in-Err c e n w = c.number-in-Err.ensures ∙ condition_input c.args.budget e _ (c.in-Err.ensures ∙ rw (n, w)) (input_some c.in-Err.bad)
