-- A bit that is not named, or what the fields hold.
use mathlib.Core.Path.{sym, ap, ◌∙◌}
use native.Mathlib.Omega.{arith}
use Rattle.instruction.specs.Form.{body_form}
use Rattle.instruction.specs.declared.Body.TheVariants.{Marker}
use Rattle.reader.proofs.Coarse.{coarse_111, coarse_fields}
use Rattle.reader.proofs.marker_form.Goals as goal

pub returns-then-has_unnamed : goal.returns-then-has_unnamed
returns-then-has_unnamed c = sym (coarse_111 c.args.rules c.args.word (omega (arith, c.requires)) (sym c.has_unnamed.ensures ∙ c.if-has_unnamed.true))

pub returns-else-has_unnamed : goal.returns-else-has_unnamed
returns-else-has_unnamed c = c.told.ensures ∙ c.form.ensures
    ∙ ap (λ f. body_form c.args.rules 0 (Marker f)) c.spelled_by.ensures
    ∙ sym (coarse_fields c.args.rules c.args.word 1 c.requires (omega arith) (λ z. omega arith) (λ z. omega arith) (sym c.has_unnamed.ensures ∙ c.if-has_unnamed.false))
