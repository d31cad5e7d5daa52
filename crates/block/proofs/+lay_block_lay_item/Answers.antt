-- The cycle of calls: a block lays its items, and an item that is a repeat lays its body. Each answer is a law of Laying.antt.
use mathlib.Core.Path.{sym, ◌∙◌}
use native.Mathlib.Numerals.{add-one}
use native.Mathlib.Omega.{arith}
use Rattle.block.proofs.Laying.{going_later, going_far, going_asks, going_next, going_end, pulse_room, repeat_opens, body_asks, repeat_closes}
use Rattle.block.proofs.+lay_block_lay_item.Goals as goal

-- ---- a block

pub lay_block-returns-then-is_end : goal.lay_block-returns-then-is_end
lay_block-returns-then-is_end t c =
    let a = c.args in
    going_end a.text.now a.at a.level a.heads.now a.words.now c.requires c.loop-i.invariant c.loop-i-test.true c.take_line-taken.ensures (sym c.is_end.ensures ∙ c.if-is_end.true)

pub lay_block-lay_item-i-requires : goal.lay_block-lay_item-i-requires
lay_block-lay_item-i-requires t c =
    let a = c.args in
    let later = going_later a.text.now a.at a.level a.heads.now a.words.now c.requires c.loop-i.invariant c.loop-i-test.true c.take_line-taken.ensures in
    let far = going_far a.text.now a.at a.level a.heads.now a.words.now c.requires c.loop-i.invariant c.loop-i-test.true c.take_line-taken.ensures in (
      omega (arith, c.decreases, c.loop-i.invariant.since, later, far),
      going_asks a.text.now a.at a.level a.heads.now a.words.now c.requires c.loop-i.invariant c.loop-i-test.true c.take_line-taken.ensures (sym c.is_end.ensures ∙ c.if-is_end.false),
    )

pub lay_block-loop-i-preserved : goal.lay_block-loop-i-preserved
lay_block-loop-i-preserved t c =
    let a = c.args in
    going_next a.text.now a.at a.level a.heads.now a.words.now c.requires c.loop-i.invariant c.loop-i-test.true c.take_line-taken.ensures c.lay_item-i.ensures

-- ---- an item

pub lay_item-put_pulse-requires : goal.lay_item-put_pulse-requires
lay_item-put_pulse-requires t c =
    let a = c.args in
    pulse_room a.text.now a.line a.next a.level a.heads.now a.words.now c.requires c.in-Pulse.is

pub lay_item-open_repeat-requires : goal.lay_item-open_repeat-requires
lay_item-open_repeat-requires t c =
    let a = c.args in
    repeat_opens a.text.now a.line a.next a.level a.heads.now a.words.now c.requires c.in-Repeat.is

pub lay_item-lay_block-after-requires : goal.lay_item-lay_block-after-requires
lay_item-lay_block-after-requires t c =
    let a = c.args in (
      omega (arith, c.decreases),
      body_asks a.text.now a.line a.next a.level a.heads.now a.words.now c.requires c.in-Repeat.is c.open_repeat.ensures (add-one a.level),
    )

pub lay_item-close_repeat-requires : goal.lay_item-close_repeat-requires
lay_item-close_repeat-requires t c =
    let a = c.args in
    repeat_closes a.text.now a.line a.next a.level a.heads.now a.words.now c.requires c.in-Repeat.is c.open_repeat.ensures (add-one a.level) c.lay_block-after.ensures
