-- The count first, then the depth.
use Rattle.block_line.proofs.Numbers.{repeat_51, repeat_53, repeat_0}
use Rattle.block_line.proofs.repeat_number.Goals as goal

pub returns-then-not-n : goal.returns-then-not-n
returns-then-not-n c = λ wave. repeat_51 wave c.args.level c.args.n c.if-not-n.true

pub returns-then-level-ge-DEEPEST : goal.returns-then-level-ge-DEEPEST
returns-then-level-ge-DEEPEST c = λ wave. repeat_53 wave c.args.level c.args.n c.if-not-n.false c.if-level-ge-DEEPEST.true

pub returns : goal.returns
returns c = λ wave. repeat_0 wave c.args.level c.args.n c.if-not-n.false c.if-level-ge-DEEPEST.false
