-- The words that were passed are written and counted.
use Prim.Native.Nat.{◌+◌, ◌^◌}
use mathlib.Core.Path.{sym, subst}
use native.Mathlib.Omega.{arith}
use Rattle.dispatch.specs.Counting.{Small}
use Rattle.buffer.proofs.Laws.{fill_next}
use Rattle.dispatch.proofs.Counts.{along_next, counted_more, counted_by, share_small}
use Rattle.dispatch.proofs.write_all.Goals as goal

pub count-requires : goal.count-requires
count-requires c = let k = c.loop-i in (
  counted_more (2 ^ 30 + k.i) (2 ^ 31) k.waits k.totals (omega (arith, c.requires.0.size, c.loop-i-test.true)) k.invariant.1.counts,
  subst Small (sym c.in_word.ensures) (share_small _),
)

pub loop-i-preserved : goal.loop-i-preserved
loop-i-preserved c = let a = c.args in
    let k = c.loop-i in (
      rw k.invariant.0 (fill_next a.group.now a.room.now k.i c.loop-i-test.true (omega (arith, c.requires.1, c.loop-i-test.true))),
      along_next a.group.now k.i a.waits.now a.totals.now k.waits k.totals _ _ c.loop-i-test.true k.invariant.1 (counted_by c.in_word.ensures c.count.ensures),
    )
