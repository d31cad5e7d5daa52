-- One hint less.
use Prim.Native.Nat.{◌-◌}
use mathlib.Core.Path.{refl}
use native.Mathlib.Omega.{arith}
use lib.ListN.{get_or}
use Rattle.walk.specs.Loops.{hint, ended}
use Rattle.walk.proofs.Notes.take.Goals as goal

pub returns-then-n-at : goal.returns-then-n-at
returns-then-n-at c = ended {t = record { hints = c.args.s.hints - 1; calls = c.args.s.calls; back = c.args.s.back; at = c.args.n; mark = 0 }} (record { hints = omega (arith, c.requires.1.hints); calls = c.requires.1.calls }) refl refl

pub returns : goal.returns
returns c = hint {t = record { hints = c.args.s.hints - 1; calls = c.args.s.calls; back = c.args.s.back; at = c.entry-at.result; mark = get_or c.args.marks.now c.entry-at.result 0 }} (record { hints = omega (arith, c.requires.1.hints); calls = c.requires.1.calls }) refl (omega (arith, c.requires.2)) refl
