-- What is copied is a part of the numbers.
use mathlib.Core.Path.{◌≡◌, ◌∙◌}
use lib.ListN.{length}
use borrow.Author.Rules.{rules}
use native.Mathlib.Omega.{arith}
use Rattle.state_c.proofs.Back.{numbers_part}
use Rattle.state_c.proofs.numbers_at.Goals as goal

pub returns : goal.returns
returns g c =
    let many : length c.args.numbers.now ≡ 55 = search rules in
    c.copy_from_slice.ensures.after ∙ numbers_part _ c.args.from c.args.numbers.now (omega (arith, c.requires, many))
