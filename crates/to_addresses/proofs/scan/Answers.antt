-- Line after line, until the label is met.
use Prim.Native.Nat.{◌+◌}
use mathlib.Core.Path.{sym, subst, ◌∙◌}
use native.Mathlib.Omega.{arith}
use Rattle.to_addresses.proofs.Passing.{line_inside}
use Rattle.to_addresses.proofs.Seeking.{Seeking, seeking_here, seeking_next}
use Rattle.to_addresses.proofs.scan.Goals as goal

pub returns-then-names_it : goal.returns-then-names_it
returns-then-names_it c = seeking_here c.args.text.now c.args.from c.args.name.now c.loop-at.invariant c.loop-at-test.true c.find-end.ensures c.defined_at-line.ensures (sym c.names_it.ensures ∙ c.if-names_it.true)

pub overflow_add-at : goal.overflow_add-at
overflow_add-at c = omega (arith, line_inside c.args.text.now c.loop-at-test.true c.find-end.ensures, c.well_formed)

pub loop-at-preserved : goal.loop-at-preserved
loop-at-preserved c = subst (Seeking c.args.text.now c.args.from c.args.name.now (c.find-end.result + 1)) (sym c.pass-past.ensures) (seeking_next c.args.text.now c.args.from c.args.name.now c.loop-at.invariant c.loop-at-test.true c.find-end.ensures c.defined_at-line.ensures (sym c.names_it.ensures ∙ c.if-names_it.false))
