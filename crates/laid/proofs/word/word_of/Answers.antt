-- NOOP is its own word, every other instruction its header with its payload laid below.
use mathlib.Core.Path.{sym, ◌∙◌}
use Rattle.instruction.proofs.Laws.{word_noop, word_other}
use Rattle.laid.proofs.word.word_of.Goals as goal

pub returns-then-code-eq-NOOP : goal.returns-then-code-eq-NOOP
returns-then-code-eq-NOOP c = sym (word_noop _ (sym c.code-code.ensures ∙ c.if-code-eq-NOOP.true))

pub returns : goal.returns
returns c = let i = c.args.i in
    rw (c.body_onto.ensures, c.header.ensures, c.code-code.ensures)
    (sym (word_other i (λ e. c.if-code-eq-NOOP.false (c.code-code.ensures ∙ e))))
