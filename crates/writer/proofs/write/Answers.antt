-- The word where the number is 0, and else zero.
use mathlib.Core.Path.{sym, ◌∙◌}
use Rattle.writer.proofs.Laws.{written_good, written_bad}
use Rattle.writer.proofs.write.Goals as goal

pub returns-then-number-eq0 : goal.returns-then-number-eq0
returns-then-number-eq0 c = let asked = c.asked-number.ensures in
    rw (c.word_of-word.ensures, asked) (sym (written_good _ _ (sym asked ∙ c.if-number-eq0.true)))

pub returns-else-number-eq0 : goal.returns-else-number-eq0
returns-else-number-eq0 c = let asked = c.asked-number.ensures in
    rw asked (sym (written_bad _ _ (λ e. c.if-number-eq0.false (asked ∙ e))))
