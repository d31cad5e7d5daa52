-- A line without its shape, a label line, a jump, or another word.
use mathlib.Core.Bool.{false}
use Prim.Native.Nat.{◌-◌}
use mathlib.Core.Path.{sym, subst}
use native.Mathlib.Omega.{arith}
use Rattle.editions.specs.declared.Room.{Room}
use Rattle.page.proofs.Decimal.{decimal_short}
use Rattle.to_addresses.specs.Moving.{Weighs}
use Rattle.to_addresses.proofs.Passing.{line_order, line_inside}
use Rattle.to_addresses.proofs.Weighing.{label_twice, weighs_label, target_label, weighs_jump, weighs_plain, plain_room}
use borrow.Author.Rules.{rules}
use Rattle.to_addresses.proofs.weigh.Goals as goal

pub row_two-told-requires : goal.row_two-told-requires
row_two-told-requires c = (line_order c.args.text.now c.requires.here c.requires.ends, line_inside c.args.text.now c.requires.here c.requires.ends)

pub label_number-number-requires : goal.label_number-number-requires
label_number-number-requires c = label_twice c.args.text.now c.args.keys.now c.args.table.now c.args.known c.args.at c.args.end c.args.past c.requires c.row_two-told.ensures c.if-told-ne0.false c.if-told.true

pub returns-then-told : goal.returns-then-told
returns-then-told c = weighs_label c.args.text.now c.args.keys.now c.args.table.now c.args.known c.args.at c.args.end c.args.past c.requires c.row_two-told.ensures c.if-told-ne0.false c.if-told.true c.args.room c.label_number-number.ensures

pub find_label-found-requires : goal.find_label-found-requires
find_label-found-requires c = (c.requires.knows, target_label c.args.text.now c.args.keys.now c.args.table.now c.args.known c.args.at c.args.end c.args.past c.requires c.row_two-told.ensures c.if-told-ne0.false c.if-told.false c.if-told-2.true)

pub returns-then-told-2 : goal.returns-then-told-2
returns-then-told-2 c = weighs_jump c.args.text.now c.args.keys.now c.args.table.now c.args.known c.args.at c.args.end c.args.past c.requires c.row_two-told.ensures c.if-told-ne0.false c.if-told.false c.if-told-2.true c.args.room c.find_label-found.ensures c.weigh_jump.ensures

pub overflow_add-digit_count : goal.overflow_add-digit_count
overflow_add-digit_count c = omega (arith, c.digit_count.ensures, decimal_short 19 c.args.past.words (search rules))

pub returns : goal.returns
returns c = subst (λ (x : Room). Weighs c.args.text.now c.args.known c.args.at c.args.end c.args.past c.args.room (record { number = 0; label = false; room = x; stop = c.args.end; means = 0 })) (sym (plain_room c.args.room c.digit_count.result (c.args.end - c.args.at) c.take.ensures c.take-left.ensures)) (weighs_plain c.args.text.now c.args.keys.now c.args.table.now c.args.known c.args.at c.args.end c.args.past c.requires c.row_two-told.ensures c.if-told-ne0.false c.if-told.false c.args.room c.if-told-2.false c.digit_count.ensures)
