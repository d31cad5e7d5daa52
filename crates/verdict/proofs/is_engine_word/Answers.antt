-- The op code of what the word spells.
use mathlib.Core.Path.{ap, ◌∙◌}
use Rattle.instruction.specs.declared.Instruction.{Instruction}
use Rattle.sequence.specs.Placing.{is_engine}
use Rattle.verdict.specs.Words.{is_engine_word}
use Rattle.verdict.proofs.is_engine_word.Goals as goal

pub returns : goal.returns
unfolding is_engine_word
returns c = c.is_engine.ensures ∙ ap (λ (i : Instruction). is_engine i.body) c.spelled_by-i.ensures
