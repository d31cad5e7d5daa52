-- Line after line: what is left of the labels stands before what is left of the lines.
use borrow.Author.Rules.{rules}
use Prim.Native.Nat.{◌+◌}
use mathlib.Core.Path.{sym, subst}
use native.Mathlib.Omega.{arith}
use Rattle.to_addresses.specs.declared.Passed.{Passed}
use Rattle.to_addresses.specs.Moving.{defined_in, Along, Kept}
use Rattle.to_addresses.proofs.Keeping.{kept_row}
use Rattle.to_addresses.proofs.Passing.{along_next, line_inside}
use Rattle.to_addresses.proofs.collect.Goals as goal

pub overflow_add-at : goal.overflow_add-at
overflow_add-at c = omega (arith, line_inside c.args.text.now c.loop-at-test.true c.find-end.ensures, c.well_formed)

pub loop-at-preserved : goal.loop-at-preserved
loop-at-preserved c = let t = c.args.text.now in
    let from = c.args.from in
    let inv = c.loop-at.invariant in
    let here = c.loop-at-test.true in
    let ends = c.find-end.ensures in
    let defines = c.defined_at-line.ensures in (
      subst (λ (p : Passed). Along t from (c.find-end.result + 1) p) (sym c.pass-past.ensures) (along_next t from inv.0 here ends defines),
      subst (λ (p : Passed). Kept c.collect_row.new.keys (defined_in t from) p.labels) (sym c.pass-past.ensures)
          (kept_row t from inv.0 here ends defines c.loop-at.keys c.collect_row.ensures inv.1),
      search rules,
    )
