-- By the line.
use mathlib.Core.Path.{◌∙◌}
use Rattle.block_line.proofs.Numbers.{number_pulse, number_unpaired, number_paired, number_unshaped}
use Rattle.block_line.proofs.line_number.Goals as goal

pub returns-then-level-eq0 : goal.returns-then-level-eq0
returns-then-level-eq0 c = number_unpaired c.args.wave.0 c.args.level c.in-End.is c.if-level-eq0.true

pub returns-in-Pulse : goal.returns-in-Pulse
returns-in-Pulse c = c.pulse_number.ensures ∙ number_pulse c.args.wave.0 c.args.level c.in-Pulse.is

pub returns-else-level-eq0 : goal.returns-else-level-eq0
returns-else-level-eq0 c = number_paired c.args.wave.0 c.args.level c.in-End.is c.if-level-eq0.false

pub returns-in-Unshaped : goal.returns-in-Unshaped
returns-in-Unshaped c = number_unshaped c.args.wave.0 c.args.level c.in-Unshaped.is
