-- Where a digit more is too much, the number is too large, whatever follows.
use mathlib.Core.Path.{sym, ◌∙◌}
use borrow.Author.Tests.{le-ltb}
use Rattle.text.proofs.Numbers.{counting_large}
use Rattle.text.proofs.number_on.Goals as goal

pub returns-in_err-value : goal.returns-in_err-value
returns-in_err-value c =
    let d = sym c.is_ascii_digit.ensures.value ∙ c.if-not-is_ascii_digit.false in
    c.from_residual.ensures
    ∙ counting_large c.args.x c.args.from c.args.text.now c.loop-i.invariant c.loop-i-test.true c.from-d.ensures c.requires.0.other d (le-ltb _ _ c.in_err-value.ensures)
