-- A label line, and the line.
use Rattle.buffer.proofs.Laws.{puts_both}
use Rattle.to_labels.specs.Loops.{label_text, parts_text}
use Rattle.to_labels.proofs.put_row.Goals as goal

pub returns : goal.returns
returns c = puts_both (label_text c.args.on c.args.a) (parts_text c.args.text.now c.args.parts) c.args.out.now c.args.at c.requires.1 c.put_label-next.ensures c.put_parts.ensures
