-- What is misplaced has the number of its name.
use mathlib.Core.Path.{sym, ◌∙◌}
use Rattle.sequence.proofs.Laws.{wave_number, word_number}
use Rattle.sequence.proofs.Sequence.placing.Goals as goal

pub returns-in-Waveform : goal.returns-in-Waveform
returns-in-Waveform c = wave_number c.args.wave.0 c.args.n c.in-Waveform.field-0 c.in-Waveform.is (sym c.is_misplaced.ensures ∙ c.if-not-is_misplaced.false)

pub returns-in_default : goal.returns-in_default
returns-in_default c = word_number c.args.wave.0 c.args.n c.args.body c.in_default.not-Waveform (sym c.is_misplaced.ensures ∙ c.if-not-is_misplaced.false)
