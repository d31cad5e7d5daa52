-- The addresses, and then what is past the depth.
use mathlib.Core.Path.{◌≡◌, sym, ap, ◌∙◌}
use mathlib.Core.Bool.{not}
use lib.ListN.{length}
use Rattle.left.proofs.Laws.{above_part, stack_far, stack_dirty, stack_clean}
use borrow.Author.Rules.{rules}
use Rattle.left.proofs.stack_fits.Goals as goal

pub returns-then-any_above : goal.returns-then-any_above
returns-then-any_above c = let a = c.args in
    sym (stack_far a.n a.s.core.depth a.s.returns a.s.counters (sym c.any_above.ensures ∙ c.if-any_above.true))

pub returns-then-any_above-2 : goal.returns-then-any_above-2
returns-then-any_above-2 c = let a = c.args in
    let l : length a.s.returns ≡ 16 = search rules in
    sym (stack_dirty a.n a.s.core.depth a.s.returns a.s.counters (sym c.any_above.ensures ∙ c.if-any_above.false) (above_part 0 a.s.core.depth 16 a.s.returns l ∙ sym c.any_above-2.ensures ∙ c.if-any_above-2.true))

pub returns : goal.returns
returns c = let a = c.args in
    let l : length a.s.returns ≡ 16 = search rules in
    let k : length a.s.counters ≡ 16 = search rules in
    ap not (c.any_above-3.ensures ∙ sym (above_part 0 a.s.core.depth 16 a.s.counters k))
    ∙ sym (stack_clean a.n a.s.core.depth a.s.returns a.s.counters (sym c.any_above.ensures ∙ c.if-any_above.false) (above_part 0 a.s.core.depth 16 a.s.returns l ∙ sym c.any_above-2.ensures ∙ c.if-any_above-2.false))
