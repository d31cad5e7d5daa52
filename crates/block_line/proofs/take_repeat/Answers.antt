-- The number of passes.
use mathlib.Core.Path.{refl}
use Rattle.block_line.proofs.Taking.{repeat_inside, repeat_none, repeat_taken}
use Rattle.block_line.proofs.take_repeat.Goals as goal

pub number_then-requires : goal.number_then-requires
number_then-requires c = (repeat_inside c.args.text.now c.args.at c.requires, refl)

pub returns-in-None : goal.returns-in-None
returns-in-None c = repeat_none c.args.text.now c.args.at c.requires c.in-None.ensures c.unshaped.ensures

pub returns-in-Some : goal.returns-in-Some
returns-in-Some c = repeat_taken c.args.text.now c.args.at c.requires c.in-Some.ensures
