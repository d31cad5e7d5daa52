-- 23 where the instruction does not fit, and else its form number.
use mathlib.Core.Path.{sym, ◌∙◌}
use Rattle.writer.proofs.Laws.{asked_wide, asked_fitting}
use Rattle.writer.proofs.asked.Goals as goal

pub returns-then-not-fits : goal.returns-then-not-fits
returns-then-not-fits c = sym (asked_wide _ _ (sym c.fits.ensures ∙ c.if-not-fits.true))

pub returns : goal.returns
returns c = c.told.ensures ∙ c.form.ensures ∙ sym (asked_fitting _ _ (sym c.fits.ensures ∙ c.if-not-fits.false))
