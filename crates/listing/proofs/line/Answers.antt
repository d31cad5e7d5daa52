-- The page holds the line; it is handed over where it fits.
use native.Mathlib.Omega.{arith}
use Rattle.listing.proofs.Room.{line_short}
use Rattle.listing.proofs.line.Goals as goal

pub put_line-n-requires : goal.put_line-n-requires
put_line-n-requires c = omega (arith, line_short c.args.rules c.args.address c.args.word (omega (arith, c.ranges)))
