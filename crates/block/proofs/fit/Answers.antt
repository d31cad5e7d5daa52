-- By the number of words, then by the room.
use mathlib.Core.Path.{◌∙◌}
use Rattle.block.proofs.Fitting.{fit_54, fit_55, fit_0}
use Rattle.block.proofs.fit.Goals as goal

pub returns-then-count-gt-WORDS : goal.returns-then-count-gt-WORDS
returns-then-count-gt-WORDS c = c.refused.ensures ∙ fit_54 c.args.room c.args.size c.if-count-gt-WORDS.true

pub returns-then-room-size : goal.returns-then-room-size
returns-then-room-size c = c.refused-then-room-size.ensures ∙ fit_55 c.args.room c.args.size c.if-count-gt-WORDS.false c.if-room-size.true

pub returns : goal.returns
returns c = fit_0 c.args.room c.args.size c.if-count-gt-WORDS.false c.if-room-size.false
