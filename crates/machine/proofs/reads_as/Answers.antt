-- By the word's coarse number.
use mathlib.Core.Path.{◌∙◌, ap}
use Rattle.std.specs.declared.result.Result.TheVariants.{Ok, Err}
use Rattle.reader.proofs.Coarse.{coarse_refuses, coarse_accepts}
use Rattle.machine.proofs.reads_as.Goals as goal

pub returns-then-coarse-ne0 : goal.returns-then-coarse-ne0
returns-then-coarse-ne0 c = ap Err c.finer.ensures ∙ coarse_refuses _ _ c.coarse_of-coarse.ensures c.if-coarse-ne0.true

pub returns : goal.returns
returns c = ap Ok c.instruction_in.ensures ∙ coarse_accepts _ _ c.coarse_of-coarse.ensures c.if-coarse-ne0.false
