-- A label line, an unknown name, a jump, or numbers.
use mathlib.Core.Path.{refl, sym, ◌∙◌}
use Rattle.names.proofs.Rows.{row_some, row_none}
use native.Mathlib.Omega.{arith}
use lib.Seq.{length-take-le}
use Rattle.fields.proofs.Gathered.{lent_front}
use Rattle.listing_reader.proofs.Fields.{count_small}
use Rattle.editions.proofs.Two.{end_inside, two_label, two_unknown, two_jump, two_61, two_plain}
use Rattle.editions.proofs.line_two.Goals as goal

pub label_from-from-requires : goal.label_from-from-requires
label_from-from-requires c = end_inside c.args.line.now c.kind_of-kind.ensures.end

pub returns-then-kind : goal.returns-then-kind
returns-then-kind c = two_label c.args.line.now c.kind_of-kind.ensures c.if-kind.true c.label_from-from.ensures c.found.ensures

pub slice_bounds-named-end : goal.slice_bounds-named-end
slice_bounds-named-end c = sym (length-take-le c.kind_of-kind.result.end c.args.line.now (end_inside c.args.line.now c.kind_of-kind.ensures.end))

pub returns-in_default : goal.returns-in_default
returns-in_default c = two_unknown c.args.line.now c.kind_of-kind.ensures c.if-kind.false refl (row_none _ c.in_default.ensures) c.plain.ensures

pub target_from-from-requires : goal.target_from-from-requires
target_from-from-requires c = end_inside c.args.line.now c.kind_of-kind.ensures.end

pub returns-then-is_jump : goal.returns-then-is_jump
returns-then-is_jump c = two_jump c.args.line.now c.kind_of-kind.ensures c.if-kind.false (row_some _ c.in-Some.ensures).0 (row_some _ c.in-Some.ensures).1 (sym c.is_jump.ensures ∙ c.if-is_jump.true) c.target_from-from.ensures c.found-then-is_jump.ensures

pub read_numbers-requires : goal.read_numbers-requires
read_numbers-requires c = end_inside c.args.line.now c.kind_of-kind.ensures.end

pub returns-then-not-read_numbers : goal.returns-then-not-read_numbers
returns-then-not-read_numbers c = two_61 c.args.line.now c.kind_of-kind.ensures c.if-kind.false (row_some _ c.in-Some.ensures).0 (row_some _ c.in-Some.ensures).1 (sym c.is_jump.ensures ∙ c.if-is_jump.false) c.field_count.ensures (lent_front (omega (arith, c.field_count.ensures, count_small c.in-Some.row (row_some _ c.in-Some.ensures).1)) c.read_numbers.ensures) c.if-not-read_numbers.true c.plain-then-not-read_numbers.ensures

pub returns : goal.returns
returns c = two_plain c.args.line.now c.kind_of-kind.ensures c.if-kind.false (row_some _ c.in-Some.ensures).0 (row_some _ c.in-Some.ensures).1 (sym c.is_jump.ensures ∙ c.if-is_jump.false) c.field_count.ensures (lent_front (omega (arith, c.field_count.ensures, count_small c.in-Some.row (row_some _ c.in-Some.ensures).1)) c.read_numbers.ensures) c.if-not-read_numbers.false c.plain-2.ensures
