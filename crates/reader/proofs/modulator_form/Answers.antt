-- A bit that is not named, or what the fields hold.
use mathlib.Core.Path.{sym, ap, ◌∙◌}
use native.Mathlib.Omega.{arith}
use Rattle.instruction.specs.Form.{body_form}
use Rattle.instruction.specs.declared.Body.TheVariants.{Modulator}
use Rattle.reader.proofs.Coarse.{coarse_111, coarse_fields}
use borrow.Author.Rules.{rules}
use Rattle.reader.proofs.modulator_form.Goals as goal

pub returns-then-has_unnamed : goal.returns-then-has_unnamed
returns-then-has_unnamed c rules = sym (coarse_111 rules c.args.word (omega (arith, c.requires)) (sym c.has_unnamed.ensures ∙ c.if-has_unnamed.true))

pub returns-else-has_unnamed : goal.returns-else-has_unnamed
returns-else-has_unnamed c rules = c.told.ensures ∙ c.form.ensures rules
    ∙ ap (λ f. body_form rules 0 (Modulator f)) c.spelled_by.ensures
    ∙ sym (coarse_fields rules c.args.word 10 c.requires (omega arith) (λ z. omega arith) (λ z. omega arith) (sym c.has_unnamed.ensures ∙ c.if-has_unnamed.false))
