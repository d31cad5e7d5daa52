-- Byte by byte: the place that is looked for stays the same.
use mathlib.Core.Path.{◌≡◌}
use Rattle.text.specs.Cut.{place_of}
use Rattle.text.proofs.find.Given as goal

abbrev pub invariant-loop-i : goal.invariant-loop-i
invariant-loop-i l = place_of l.x l.i l.text ≡ place_of l.x l.from l.text
