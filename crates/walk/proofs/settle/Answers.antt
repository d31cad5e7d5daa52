-- Following from an open address sets a bit; where none is open, nothing is missing.
use mathlib.Core.Path.{◌∙◌}
use native.Mathlib.Omega.{arith}
use Rattle.walk.proofs.Laws.{settled}
use Rattle.walk.proofs.settle.Goals as goal

pub loop-l-preserved : goal.loop-l-preserved
loop-l-preserved c = let g = c.follow-s.ensures.grew in
    let i = c.loop-l.invariant in
    let e = g.long in
    let m = i.0 in (
      omega (arith, e, m),
      g.long ∙ i.1,
      g.sound i.5 i.2,
      g.kept 0 0 i.3,
      λ a h. g.tail a h ∙ i.4 a h,
      g.backs i.5 i.2,
      c.follow-s.ensures.room,
      g.depths i.7,
      c.look_over-l-in-loop-l.ensures,
    )

pub returns : goal.returns
returns c = let l = c.loop-l in
    let s = c.args in
    settled s.limit s.words.now l.s.back s.marks.now l.marks c.requires.fits.limit l.invariant.2 l.invariant.3 l.invariant.5 l.invariant.7 l.invariant.1 l.invariant.4 l.invariant.8 c.loop-l-test.false
