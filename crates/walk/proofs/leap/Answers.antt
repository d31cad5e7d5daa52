-- A bit that was set pays for a hint.
use Prim.Native.Nat.{◌<◌}
use native.Mathlib.Omega.{arith}
use Rattle.walk.specs.Loops.{left}
use Rattle.walk.proofs.Laws.{put_left}
use Rattle.walk.proofs.leap.Goals as goal

pub returns : goal.returns
returns c = let p = c.put_there.ensures in
    let l : left _ < left _ = put_left _ _ _ _ c.requires.0 p c.if-put_there-eq0.false in
    let top = c.push.ensures in
    record { room = top; put = (_, p); fell = omega arith }
