-- Refused before the writer is asked, or as the writer answers.
use Rattle.listing_reader.proofs.Fields.{read_refused, read_written}
use mathlib.Core.Path.{◌∙◌}
use Rattle.listing_reader.proofs.line.read_line.Goals as goal

pub returns-then-shape-ne0 : goal.returns-then-shape-ne0
returns-then-shape-ne0 c = read_refused c.args.rules c.args.line.now c.args.a c.line_shape-shape.ensures c.if-shape-ne0.true

pub returns : goal.returns
returns c = c.write.ensures ∙ read_written c.args.rules c.args.line.now c.args.a c.line_shape-shape.ensures c.if-shape-ne0.false c.body_of-body.ensures
