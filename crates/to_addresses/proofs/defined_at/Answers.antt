-- Another letter, a word, a label line without a label, or a label.
use borrow.Author.Tests.{not-false}
use Prim.Native.Nat.{◌-◌}
use lib.ListN.{take, drop}
use Rattle.editions.proofs.Two.{end_inside}
use Rattle.to_addresses.proofs.Passing.{line_order, line_inside, defines_other, defines_none, defines_here}
use native.Mathlib.Omega.{arith}
use Rattle.to_addresses.proofs.defined_at.Goals as goal

pub returns-then-text-at-ne108 : goal.returns-then-text-at-ne108
returns-then-text-at-ne108 c = defines_other c.args.text.now c.args.at c.args.end c.requires.0 c.requires.1 c.if-text-at-ne108.true

pub label_from-from-requires : goal.label_from-from-requires
label_from-from-requires c = end_inside (take (c.args.end - c.args.at) (drop c.args.at c.args.text.now)) c.kind_of-kind.ensures.end

pub returns-then-from-eq0 : goal.returns-then-from-eq0
returns-then-from-eq0 c = defines_none c.args.text.now c.args.at c.args.end c.requires.0 c.requires.1 c.kind_of-kind.ensures (not-false _ c.if-not-kind.false) c.label_from-from.ensures c.if-from-eq0.true

pub returns : goal.returns
returns c = defines_here c.args.text.now c.args.at c.args.end c.requires.0 c.requires.1 c.kind_of-kind.ensures (not-false _ c.if-not-kind.false) c.label_from-from.ensures c.if-from-eq0.false c.if-text-end.false

pub slice_bounds-kind_of-end : goal.slice_bounds-kind_of-end
slice_bounds-kind_of-end c = omega (arith, line_order c.args.text.now c.requires.0 c.requires.1, line_inside c.args.text.now c.requires.0 c.requires.1)
