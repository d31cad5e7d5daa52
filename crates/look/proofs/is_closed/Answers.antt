-- The three parts, one by one.
use Rattle.look.proofs.Laws.{tells_all}
use Rattle.look.proofs.is_closed.Goals as goal

pub returns : goal.returns
returns c = let s = c.args in
    let f = c.of-f in
    tells_all s.limit s.words.now s.back s.marks.now s.a _ f.result c.at-o.ensures f.ensures c.knows.ensures c.both_hold.ensures
