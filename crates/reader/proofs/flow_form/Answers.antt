-- Nothing but a bit that is not named.
use mathlib.Core.Path.{sym, ◌∙◌}
use native.Mathlib.Omega.{arith}
use Rattle.reader.proofs.Laws.{flow_passes}
use Rattle.reader.proofs.Coarse.{coarse_none, coarse_111}
use borrow.Author.Rules.{rules}
use Rattle.reader.proofs.flow_form.Goals as goal

pub returns-then-has_unnamed : goal.returns-then-has_unnamed
returns-then-has_unnamed c rules = sym (coarse_111 rules c.args.word (omega (arith, c.requires.1)) (sym c.has_unnamed.ensures ∙ c.if-has_unnamed.true))

pub returns-else-has_unnamed : goal.returns-else-has_unnamed
returns-else-has_unnamed c rules = let w = c.args.word in sym (coarse_none rules w (flow_passes rules w c.requires.0 c.requires.1 (sym c.has_unnamed.ensures ∙ c.if-has_unnamed.false)))
