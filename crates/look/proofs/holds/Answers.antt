-- Any bits are held past the end.
use native.Mathlib.Omega.{arith}
use lib.ListN.{get_or}
use lib.Bits.{bit_or}
use Rattle.look.specs.Closed.{holds}
use Rattle.look.proofs.Laws.{tells_as, tells_eq}
use Rattle.look.proofs.holds.Goals as goal

pub returns-then-n-at : goal.returns-then-n-at
returns-then-n-at c = holds (λ l. absurd (omega arith))

pub returns : goal.returns
returns c = let s = c.args in
    let old = get_or s.marks.now s.at 0 in
    tells_as (λ e l. e) (λ h. h c.if-n-at.false) (tells_eq (bit_or old s.x) old)
