-- Each part is what its function ensures.
use mathlib.Core.Path.{sym, ◌∙◌}
use Rattle.instruction.proofs.Laws.{body_at}
use Rattle.instruction.specs.Word.{spelled_by}
use Rattle.instruction.proofs.Instruction.spelled_by.Goals as goal

pub returns : goal.returns
unfolding spelled_by
returns c = λ j. record {
  engine = c.engine_in.ensures j;
  write = c.write_in.ensures j;
  body = (c.spelled_by.ensures ∙ body_at _ (sym c.code_in.ensures)) j;
}
