-- A play that passes, or any WAVEFORM.
use mathlib.Core.Path.{sym}
use Rattle.reader.proofs.Coarse.{coarse_none}
use Rattle.reader.proofs.waveform_form.Goals as goal

pub returns-then-plays_well : goal.returns-then-plays_well
returns-then-plays_well c = sym (coarse_none c.args.rules c.args.word (c.plays_well.ensures c.args.rules c.if-plays_well.true))
