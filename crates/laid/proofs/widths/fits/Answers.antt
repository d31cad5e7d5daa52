-- NOOP is judged by its header alone, every other instruction field by field.
use mathlib.Core.Path.{sym, ◌∙◌}
use Rattle.instruction.proofs.Laws.{fits_noop, fits_other}
use Rattle.laid.proofs.widths.fits.Goals as goal

pub returns-then-code-eq-NOOP : goal.returns-then-code-eq-NOOP
returns-then-code-eq-NOOP c = sym (fits_noop _ (sym c.code-code.ensures ∙ c.if-code-eq-NOOP.true))

pub returns : goal.returns
returns c = let i = c.args.i in
    rw (c.body_fits.ensures, c.header_fits.ensures)
    (sym (fits_other i (λ e. c.if-code-eq-NOOP.false (c.code-code.ensures ∙ e))))
