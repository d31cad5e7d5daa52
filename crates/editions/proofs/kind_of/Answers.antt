-- The first field, up to the first tab.
use mathlib.Core.Path.{sym}
use lib.Seq.{length-take-le}
use Rattle.editions.proofs.Two.{kind_is, end_inside}
use Rattle.editions.proofs.kind_of.Goals as goal

pub slice_bounds-same-end : goal.slice_bounds-same-end
slice_bounds-same-end c = sym (length-take-le c.find-end.result c.args.line.now (end_inside c.args.line.now c.find-end.ensures))

pub returns : goal.returns
returns c = kind_is c.args.line.now c.find-end.ensures c.same-label.ensures
