-- Each turn writes the last digit of what is left; the first digit stands at the place itself.
use native.Mathlib.Omega.{arith}
use Prim.Native.Nat.{◌+◌, ◌-◌}
use mathlib.Core.Path.{ap, ◌∙◌}
use Rattle.text.specs.Line.{digit}
use Rattle.page.proofs.Decimal.{decimal_some, spell_start, spell_length, spell_single, spell_next, spell_end, small_rest}
use Rattle.page.proofs.put_number.Goals as goal

pub loop-i-init : goal.loop-i-init
loop-i-init c = let a = c.args in (
  omega (arith, c.digit_count.ensures, decimal_some a.n),
  spell_start a.n a.page.now a.at c.requires _ (ap (λ k. a.at + k) c.digit_count.ensures),
)

pub loop-i-preserved : goal.loop-i-preserved
loop-i-preserved c = let l = c.loop-i-test.true in (
  omega arith,
  spell_next c.args.n c.args.page.now c.args.at c.requires c.loop-i.invariant.1 (c.loop-i.i - 1) (omega arith) (omega arith) c.last_digit.ensures,
)

pub bounds-page-at : goal.bounds-page-at
bounds-page-at c =
    let p = spell_length c.args.n c.args.page.now c.args.at c.requires c.loop-i.invariant.1 in
    omega (arith, c.requires, p, decimal_some c.args.n)

pub one_digit-requires : goal.one_digit-requires
one_digit-requires c = spell_single c.args.n c.args.page.now c.args.at c.requires c.loop-i.invariant.1 (omega (arith, c.loop-i-test.false, c.loop-i.invariant.0))

pub returns : goal.returns
returns c =
    let a = c.args in
    let last = c.one_digit.ensures ∙ ap digit (small_rest c.loop-i.rest (spell_single a.n a.page.now a.at c.requires c.loop-i.invariant.1 (omega (arith, c.loop-i-test.false, c.loop-i.invariant.0)))) in
    let next = spell_next a.n a.page.now a.at c.requires c.loop-i.invariant.1 a.at (omega (arith, c.loop-i-test.false, c.loop-i.invariant.0)) (omega arith) last in
    spell_end a.n a.page.now a.at c.requires next (ap (λ k. a.at + k) c.digit_count.ensures)
