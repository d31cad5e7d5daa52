-- On, to one of the hints, or to none.
use mathlib.Core.Path.{refl}
use native.Mathlib.Omega.{arith}
use Rattle.walk.specs.Loops.{onward, ended}
use Rattle.walk.proofs.Notes.turn.Goals as goal

pub returns-then-s-ne0 : goal.returns-then-s-ne0
returns-then-s-ne0 c = onward c.if-s-ne0.true

pub returns-then-s-eq0 : goal.returns-then-s-eq0
returns-then-s-eq0 c = ended {t = record { hints = 0; calls = c.args.s.calls; back = c.args.s.back; at = c.args.n; mark = 0 }} (record { hints = omega (arith, c.requires.1.hints); calls = c.requires.1.calls }) refl refl
