-- The header, the labels, and the rest.
use Rattle.to_addresses.proofs.Finishing.{no_header, parts, move_done}
use borrow.Author.Rules.{rules}
use Rattle.to_addresses.proofs.to_addresses.Goals as goal

pub returns-in_default : goal.returns-in_default
returns-in_default c = no_header c.args.text.now c.in_default.ensures c.args.out.now c.refused.ensures

pub finish-requires : goal.finish-requires
finish-requires c = parts c.args.text.now c.in-Some.ensures c.collect-end.ensures c.min-n.result (search rules)

pub returns : goal.returns
returns c = move_done c.args.text.now c.in-Some.ensures c.args.out.now c.finish.ensures
