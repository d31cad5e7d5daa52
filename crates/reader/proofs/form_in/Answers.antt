-- A MARKER or MODULATOR by its fields; else each return is where the tests of the numbers before it failed and its own held.
use mathlib.Core.Path.{sym, ◌∙◌}
use native.Mathlib.Omega.{arith}
use Rattle.reader.proofs.Coarse.{coarse_10, coarse_111, coarse_12, coarse_rest}
use Rattle.reader.proofs.form_in.Goals as goal

pub returns-then-code-gt-PREFETCH : goal.returns-then-code-gt-PREFETCH
returns-then-code-gt-PREFETCH c = sym (coarse_10 c.args.rules c.args.word (omega (arith, c.if-code-gt-PREFETCH.true, c.code_in-code.ensures)))

pub returns-then-has_unnamed : goal.returns-then-has_unnamed
returns-then-has_unnamed c = sym (coarse_111 c.args.rules c.args.word (omega (arith, c.if-code-gt-PREFETCH.false, c.code_in-code.ensures)) (sym c.has_unnamed.ensures ∙ c.if-has_unnamed.true))

pub returns-then-not_its_op : goal.returns-then-not_its_op
returns-then-not_its_op c = sym (coarse_12 c.args.rules c.args.word (omega (arith, c.if-code-gt-PREFETCH.false, c.code_in-code.ensures)) (sym c.has_unnamed.ensures ∙ c.if-has_unnamed.false) (sym c.not_its_op.ensures ∙ c.if-not_its_op.true))

pub returns : goal.returns
returns c = c.told.ensures
    ∙ c.form_in.ensures
    ∙ sym (coarse_rest c.args.rules c.args.word (omega (arith, c.if-code-gt-PREFETCH.false, c.code_in-code.ensures)) (sym c.has_unnamed.ensures ∙ c.if-has_unnamed.false) (sym c.not_its_op.ensures ∙ c.if-not_its_op.false))
