-- Alone, one word is written and counted; else one after the other.
use mathlib.Core.Path.{sym, subst}
use Prim.Native.Nat.{◌^◌}
use native.Mathlib.Omega.{arith}
use Rattle.dispatch.specs.Counting.{Small}
use Rattle.dispatch.proofs.Counts.{counted_more, share_small}
use Rattle.dispatch.proofs.write_group.Goals as goal

pub count-requires : goal.count-requires
count-requires c = (counted_more (2 ^ 30) (2 ^ 31) c.args.waits.now c.args.totals.now (omega arith) c.requires.0.counts, subst Small (sym c.in_word.ensures) (share_small _))
