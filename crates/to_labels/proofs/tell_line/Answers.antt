-- By its line feed, and by the line.
use mathlib.Core.Path.{ap}
use borrow.Author.Tests.{le-ltb}
use lib.ListN.{length}
use Rattle.text.specs.Cut.{row_at}
use Rattle.editions.specs.declared.LineOne.{LineOne}
use Rattle.to_labels.proofs.Judging.{row_open, row_told}
use Rattle.to_labels.proofs.tell_line.Goals as goal

pub returns-then-text-end : goal.returns-then-text-end
returns-then-text-end c = row_open c.args.n c.args.a (row_at c.args.text.now c.args.at c.args.end) (le-ltb c.args.end (length c.args.text.now) c.if-text-end.true) (ap (λ (x : LineOne). x.number) c.refused.ensures)

pub returns : goal.returns
returns c = row_told c.args.n c.args.a c.args.text.now c.args.at c.args.end c.if-text-end.false c.line_one.ensures
