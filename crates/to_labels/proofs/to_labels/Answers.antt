-- Judged, and then written whole.
use Rattle.to_labels.proofs.Whole.{no_header, lines_ready, bad_line_lem, lines_passed, good_lines}
use Rattle.to_labels.proofs.to_labels.Goals as goal

pub returns-in_default : goal.returns-in_default
returns-in_default c = no_header c.args.text.now c.args.out.now c.in_default.ensures c.refused.ensures

pub judge_lines-requires : goal.judge_lines-requires
judge_lines-requires c = lines_ready c.args.text.now c.args.out.now c.in-Some.ensures c.line_count-n.ensures

pub returns-in-Err : goal.returns-in-Err
returns-in-Err c = bad_line_lem c.args.text.now c.args.out.now c.in-Some.ensures c.line_count-n.ensures c.in-Err.ensures c.refused-in-Err.ensures

pub finish-requires : goal.finish-requires
finish-requires c = lines_passed c.args.text.now c.args.out.now c.in-Some.ensures c.line_count-n.ensures c.in-Ok.ensures c.behind-room.ensures

pub returns-in-Ok : goal.returns-in-Ok
returns-in-Ok c = good_lines c.args.text.now c.args.out.now c.in-Some.ensures c.line_count-n.ensures c.in-Ok.ensures c.finish.ensures
