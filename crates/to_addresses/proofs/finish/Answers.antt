-- Judged, and then written whole or not at all.
use native.Mathlib.Omega.{arith}
use lib.ListN.{length}
use Rattle.editions.proofs.Rooms.{head_room}
use Rattle.listing_reader.proofs.Lines.{header_size}
use Rattle.to_addresses.proofs.Finishing.{knows, finish_notes, finish_bad, finish_good, finish_short, finish_rows, finish_whole}
use Rattle.to_addresses.proofs.finish.Goals as goal

pub judge-requires : goal.judge-requires
judge-requires c = (knows c.args.text.now c.args.from c.args.keys.now c.first_double-double.new.table c.args.end c.requires c.first_double-double.ensures, omega (arith, c.requires.head, header_size 1 (omega arith)))

pub returns-in-Err : goal.returns-in-Err
returns-in-Err c = finish_bad c.args.text.now c.args.from c.args.out.now c.in-Err.ensures c.refused.ensures

pub returns-then-left-eq0 : goal.returns-then-left-eq0
returns-then-left-eq0 c = finish_short c.args.text.now c.args.from c.args.out.now c.requires.head (head_room (length c.args.out.now) c.args.from c.behind-room.ensures) c.in-Ok.ensures c.if-left-eq0.true c.refused-then-left-eq0.ensures

pub put_rows-size-requires : goal.put_rows-size-requires
put_rows-size-requires c =
    record {
      noted = finish_notes c.args.text.now c.args.from c.args.keys.now c.args.end c.requires c.in-Ok.ensures;
      knows = knows c.args.text.now c.args.from c.args.keys.now c.first_double-double.new.table c.args.end c.requires c.first_double-double.ensures;
      good = finish_good c.args.text.now c.args.from c.args.out.now c.requires.head (head_room (length c.args.out.now) c.args.from c.behind-room.ensures) c.in-Ok.ensures;
      fits = finish_rows c.args.text.now c.args.from c.args.out.now c.requires.head (head_room (length c.args.out.now) c.args.from c.behind-room.ensures) c.in-Ok.ensures c.if-left-eq0.false c.put_header-start.ensures;
    }

pub returns-else-left-eq0 : goal.returns-else-left-eq0
returns-else-left-eq0 c = finish_whole c.args.text.now c.args.from c.args.out.now c.requires.head (head_room (length c.args.out.now) c.args.from c.behind-room.ensures) c.in-Ok.ensures c.if-left-eq0.false c.put_header-start.ensures c.put_rows-size.ensures
