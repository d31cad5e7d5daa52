-- The header and the lines, where there is room for both.
use Rattle.to_labels.proofs.Whole.{finish_short, finish_lines, finish_whole}
use Rattle.to_labels.proofs.finish.Goals as goal

pub returns-then-left-eq0 : goal.returns-then-left-eq0
returns-then-left-eq0 c = finish_short c.args.n c.args.text.now c.args.from c.args.marks.now c.args.notes.now c.args.out.now c.requires c.room_for_labels-left.ensures c.if-left-eq0.true c.refused.ensures

pub put_lines-size-requires : goal.put_lines-size-requires
put_lines-size-requires c = finish_lines c.args.n c.args.text.now c.args.from c.args.marks.now c.args.notes.now c.args.out.now c.requires c.room_for_labels-left.ensures c.if-left-eq0.false c.put_header-start.ensures

pub returns : goal.returns
returns c = finish_whole c.args.n c.args.text.now c.args.from c.args.marks.now c.args.notes.now c.args.out.now c.requires c.room_for_labels-left.ensures c.if-left-eq0.false c.put_header-start.ensures c.put_lines-size.ensures
