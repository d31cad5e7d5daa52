-- The wait counts first, then the totals.
use mathlib.Core.Path.{sym, ap, ◌∙◌}
use mathlib.Core.Bool.{not}
use Rattle.left.proofs.Laws.{waits_many, waits_few}
use Rattle.left.proofs.counts_fit.Goals as goal

pub returns-then-any_above : goal.returns-then-any_above
returns-then-any_above c = let a = c.args in
    sym (waits_many a.sent a.s.waits a.s.totals (sym c.any_above.ensures ∙ c.if-any_above.true))

pub returns : goal.returns
returns c = let a = c.args in
    ap not c.any_total_above.ensures ∙ sym (waits_few a.sent a.s.waits a.s.totals (sym c.any_above.ensures ∙ c.if-any_above.false))
