-- The address, the name, and what is behind it.
use mathlib.Core.Path.{refl}
use native.Mathlib.Omega.{arith}
use Rattle.names.proofs.Rows.{row_some, row_none}
use Rattle.listing_reader.proofs.Fields.{line_not, line_alone, line_known, line_unknown, name_inside, name_order}
use Rattle.listing_reader.proofs.line.line_shape.Goals as goal

pub returns-in_default : goal.returns-in_default
returns-in_default c = line_not c.args.line.now c.args.a c.args.values.now c.in_default.ensures c.refused.ensures

pub returns-then-line-address : goal.returns-then-line-address
returns-then-line-address c = line_alone c.args.line.now c.args.a c.args.values.now c.in-Some.ensures c.if-line-address.true c.refused-then-line-address.ensures

pub returns-in_default-named : goal.returns-in_default-named
returns-in_default-named c = line_unknown c.args.line.now c.args.a c.args.values.now c.in-Some.ensures c.if-line-address.false c.find-end.ensures refl (row_none _ c.in_default-named.ensures) c.unknown_shape-number.ensures c.refused-in_default-named.ensures

pub returns : goal.returns
returns c = let n = row_some _ c.in-Some-named.ensures in line_known c.args.line.now c.args.a c.args.values.now c.in-Some.ensures c.if-line-address.false c.find-end.ensures n.0 n.1 c.known_shape-number.ensures

pub slice_bounds-named-end : goal.slice_bounds-named-end
slice_bounds-named-end c =
    omega (
      arith,
      name_inside c.args.line.now c.args.a c.args.values.now c.in-Some.ensures c.if-line-address.false c.find-end.ensures,
      name_order c.args.line.now c.args.a c.args.values.now c.in-Some.ensures c.if-line-address.false c.find-end.ensures,
    )
