-- Nothing for a label line; else a word as it stands, or a jump.
use borrow.Author.Tests.{not-true, not-false}
use Rattle.to_addresses.proofs.Laying.{lays_label, plain_fits, lays_plain, lay_label, jump_fits, lays_jump}
use Rattle.to_addresses.proofs.put_row.Goals as goal

pub returns-then-told : goal.returns-then-told
returns-then-told c = lays_label c.args.text.now c.args.keys.now c.args.table.now c.args.known c.args.out.now c.args.laid c.requires c.find-end.ensures c.glance_two-told.ensures c.if-told.true

pub put_plain-place-requires : goal.put_plain-place-requires
put_plain-place-requires c = plain_fits c.args.text.now c.args.keys.now c.args.table.now c.args.known c.args.out.now c.args.laid c.requires c.find-end.ensures c.glance_two-told.ensures c.if-told.false (not-true _ c.if-not-told.true)

pub returns-then-not-told : goal.returns-then-not-told
returns-then-not-told c = lays_plain c.args.text.now c.args.keys.now c.args.table.now c.args.known c.args.out.now c.args.laid c.requires c.find-end.ensures c.glance_two-told.ensures c.if-told.false (not-true _ c.if-not-told.true) c.put_plain-place.ensures

pub find_label-found-requires : goal.find_label-found-requires
find_label-found-requires c = (c.requires.knows, lay_label c.args.text.now c.args.keys.now c.args.table.now c.args.known c.args.out.now c.args.laid c.requires c.find-end.ensures c.glance_two-told.ensures c.if-told.false (not-false _ c.if-not-told.false))

pub put_jump-place-requires : goal.put_jump-place-requires
put_jump-place-requires c = jump_fits c.args.text.now c.args.keys.now c.args.table.now c.args.known c.args.out.now c.args.laid c.requires c.find-end.ensures c.glance_two-told.ensures c.if-told.false (not-false _ c.if-not-told.false) c.find_label-found.ensures.means

pub returns : goal.returns
returns c = lays_jump c.args.text.now c.args.keys.now c.args.table.now c.args.known c.args.out.now c.args.laid c.requires c.find-end.ensures c.glance_two-told.ensures c.if-told.false (not-false _ c.if-not-told.false) c.find_label-found.ensures.means c.put_jump-place.ensures
