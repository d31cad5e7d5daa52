-- Two puts, of what the word leads to. Where the next address has nothing new, the target is at hand.
use Prim.Native.Nat.{◌≤◌}
use mathlib.Core.Path.{ap, ◌∙◌}
use native.Mathlib.Omega.{arith}
use lib.ListN.{length}
use lib.Bits.{bit_or}
use Rattle.flow.specs.declared.Move.{Move}
use Rattle.flow.specs.Masks.{next_of, jump_of, to_of}
use Rattle.look.specs.Closed.{back_in}
use Rattle.walk.specs.Loops.{left}
use Rattle.walk.proofs.Laws.{visit_law, put_less}
use Rattle.walk.proofs.branch.Goals as goal

pub returns-then-mark-eq0 : goal.returns-then-mark-eq0
returns-then-mark-eq0 c = let t = c.note-t in
    let f = c.of-f in
    let o = c.at-o.ensures in
    let s = c.args in
    let pre = c.requires in
    let ms = s.marks.now in
    let h = s.s in
    let p = c.put-mark.ensures in
    let less : left c.put-mark.new.marks ≤ left ms = put_less (length s.words.now) ms _ _ p in
    let j = c.put_there-there.ensures in
    let less' : left c.put_there-there.new.marks ≤ left c.put-mark.new.marks = put_less (length s.words.now) _ _ _ j in
    let w =
    visit_law s.limit s.words.now h.back ms h.at h.mark t.result.back f.result.next f.result.jump f.result.to.0 pre.marks pre.hand.below pre.hand.part t.ensures.rose
    (t.ensures.back ∙ ap (λ (z : Move). bit_or h.back (back_in z h.mark)) o)
    (f.ensures.next ∙ ap (λ (z : Move). next_of z h.mark t.result.back) o)
    (f.ensures.jump ∙ ap (λ (z : Move). jump_of s.limit z h.mark) o)
    (f.ensures.to ∙ ap to_of o)
    p
    j
    in record { room = record { hints = t.ensures.room.hints; calls = t.ensures.room.calls }; grew = w.grew; turned = w.turned; ahead = w.jump; fell = omega (arith, less', less, t.ensures.fell) }

pub returns : goal.returns
returns c = let t = c.note-t in
    let f = c.of-f in
    let o = c.at-o.ensures in
    let s = c.args in
    let pre = c.requires in
    let ms = s.marks.now in
    let h = s.s in
    let p = c.put-mark.ensures in
    let less : left c.put-mark.new.marks ≤ left ms = put_less (length s.words.now) ms _ _ p in
    let j = c.leap-hints.ensures in
    let w =
    visit_law s.limit s.words.now h.back ms h.at h.mark t.result.back f.result.next f.result.jump f.result.to.0 pre.marks pre.hand.below pre.hand.part t.ensures.rose
    (t.ensures.back ∙ ap (λ (z : Move). bit_or h.back (back_in z h.mark)) o)
    (f.ensures.next ∙ ap (λ (z : Move). next_of z h.mark t.result.back) o)
    (f.ensures.jump ∙ ap (λ (z : Move). jump_of s.limit z h.mark) o)
    (f.ensures.to ∙ ap to_of o)
    p
    j.put.1
    in record { room = record { hints = j.room; calls = t.ensures.room.calls }; grew = w.grew; turned = w.turned; ahead = w.next; fell = omega (arith, j.fell, less, t.ensures.fell) }
