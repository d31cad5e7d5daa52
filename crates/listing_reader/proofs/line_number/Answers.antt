-- By the line feed, the line, and the room.
use mathlib.Core.Path.{sym, ◌∙◌}
use borrow.Author.Tests.{le-ltb}
use lib.ListN.{length}
use Rattle.text.specs.Cut.{row_at}
use Rattle.listing_reader.proofs.Lines.{number_open, number_bad, number_full, number_none, read_number}
use Rattle.listing_reader.proofs.line_number.Goals as goal

pub returns-then-text-end : goal.returns-then-text-end
returns-then-text-end c = number_open c.args.rules c.args.room c.args.a (row_at c.args.text.now c.args.at c.args.end) (le-ltb c.args.end (length c.args.text.now) c.if-text-end.true)

pub returns-then-read-ne0 : goal.returns-then-read-ne0
returns-then-read-ne0 c = number_bad c.args.rules c.args.room c.args.a (row_at c.args.text.now c.args.at c.args.end) (read_number c.args.rules c.args.text.now c.args.at c.args.end c.args.a c.if-text-end.false c.read_line-read.ensures) c.if-read-ne0.true

pub returns-then-room-a : goal.returns-then-room-a
returns-then-room-a c = number_full c.args.rules c.args.room c.args.a (row_at c.args.text.now c.args.at c.args.end) (sym (read_number c.args.rules c.args.text.now c.args.at c.args.end c.args.a c.if-text-end.false c.read_line-read.ensures) ∙ c.if-read-ne0.false) c.if-room-a.true

pub returns : goal.returns
returns c = number_none c.args.rules c.args.room c.args.a (row_at c.args.text.now c.args.at c.args.end) (sym (read_number c.args.rules c.args.text.now c.args.at c.args.end c.args.a c.if-text-end.false c.read_line-read.ensures) ∙ c.if-read-ne0.false) c.if-room-a.false
