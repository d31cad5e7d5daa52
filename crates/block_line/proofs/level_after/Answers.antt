-- By the line.
use Rattle.block_line.proofs.Numbers.{level_pulse, level_repeat, level_end, level_unshaped}
use mathlib.Core.Path.{◌∙◌}
use Rattle.block_line.proofs.level_after.Goals as goal

pub returns-in-Pulse : goal.returns-in-Pulse
returns-in-Pulse c = level_pulse c.args.level c.in-Pulse.is

pub returns-in-Repeat : goal.returns-in-Repeat
returns-in-Repeat c = level_repeat c.args.level c.in-Repeat.is

pub returns-in-End : goal.returns-in-End
returns-in-End c = c.saturating_sub.ensures ∙ level_end c.args.level c.in-End.is

pub returns-in-Unshaped : goal.returns-in-Unshaped
returns-in-Unshaped c = level_unshaped c.args.level c.in-Unshaped.is
