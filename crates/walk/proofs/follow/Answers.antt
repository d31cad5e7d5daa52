-- Each visit sets a bit, or a hint is taken.
use native.Mathlib.Omega.{arith}
use Rattle.walk.specs.Loops.{fresh, since}
use Rattle.walk.proofs.Laws.{since_more, turn_hand, turn_fell, turn_room}
use Rattle.walk.proofs.follow.Goals as goal

pub loop-s-init : goal.loop-s-init
loop-s-init c = let p = c.requires in (p.marks, p.room, p.hand, fresh)

pub returns-then-n-s : goal.returns-then-n-s
returns-then-n-s c = since_more c.visit-v.ensures c.turn-s.ensures c.loop-s.invariant.3

pub loop-s-smaller : goal.loop-s-smaller
loop-s-smaller c = turn_fell c.visit-v.ensures c.turn-s.ensures c.if-n-s.false

pub loop-s-preserved : goal.loop-s-preserved
loop-s-preserved c = let v = c.visit-v.ensures in
    let t = c.turn-s.ensures in
    let l = c.loop-s in
    let g = v.grew.long in
    let i = l.invariant.0 in (omega (arith, g, i), turn_room v.room t, turn_hand v t c.if-n-s.false, since (since_more v t l.invariant.3))
