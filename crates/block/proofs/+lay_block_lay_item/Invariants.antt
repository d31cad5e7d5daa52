-- The cycle of calls: a block lays its items, and an item that is a repeat lays its body. The measure is the text that is left, twice,
-- and one more for an item, whose line is read already.
use Rattle.std.proofs.Common.{length, ◌-◌, ◌+◌, ◌*◌}
use Rattle.block.proofs.Laying.{Going}
use Rattle.block.proofs.+lay_block_lay_item.Given as goal

abbrev pub decreases-lay_block : goal.decreases-lay_block
decreases-lay_block l = 2 * (length l.text.now - l.at)

abbrev pub decreases-lay_item : goal.decreases-lay_item
decreases-lay_item l = 2 * (length l.text.now - l.next) + 1

abbrev pub invariant-lay_block-loop-i : goal.invariant-lay_block-loop-i
invariant-lay_block-loop-i l = Going l.text l.at l.level l.initial.heads l.initial.words l.i l.heads l.words

abbrev pub decreases-lay_block-loop-i : goal.decreases-lay_block-loop-i
decreases-lay_block-loop-i l = length l.text - l.i
