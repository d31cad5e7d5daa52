-- A word that goes on puts its mark.
use Prim.Native.Nat.{◌≤◌}
use mathlib.Core.Path.{sym, ◌∙◌}
use native.Mathlib.Omega.{arith}
use lib.ListN.{length, get_or}
use Rattle.flow.proofs.Codes.{goes_on_lem}
use Rattle.walk.specs.Loops.{left}
use Rattle.walk.proofs.Laws.{visit_plain, put_less}
use Rattle.walk.proofs.visit.Goals as goal

pub returns : goal.returns
returns c = let s = c.args in
    let pre = c.requires in
    let h = s.s in
    let p = c.put-mark.ensures in
    let g = c.goes_on in
    let less : left c.put-mark.new.marks ≤ left s.marks.now = put_less (length s.words.now) s.marks.now _ _ p in
    let w = visit_plain s.limit s.words.now h.back s.marks.now h.at h.mark pre.marks pre.hand.below pre.hand.part (goes_on_lem (get_or s.words.now h.at 0) (sym g.ensures ∙ c.if-not-goes_on.false)) p in
    record { room = record { hints = pre.room.hints; calls = pre.room.calls }; grew = w.grew; turned = w.turned; ahead = w.next; fell = omega (arith, less) }
