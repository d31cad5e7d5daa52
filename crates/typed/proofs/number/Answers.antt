-- Digit by digit; a text without digits, or with anything else, is none.
use mathlib.Core.Path.{sym, ◌∙◌}
use Rattle.typed.proofs.Numbers.{read_next}
use Rattle.typed.proofs.number.Goals as goal

pub loop-b-preserved : goal.loop-b-preserved
loop-b-preserved c = rw (c.grown-value.ensures, c.from-limit.ensures) (read_next _ _ _ _ c.loop-b-test.true c.loop-b.invariant (sym c.is_ascii_digit.ensures.value ∙ c.if-not-is_ascii_digit.false))
