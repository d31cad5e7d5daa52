-- No engine word, high, or a group that closes.
use mathlib.Core.Path.{sym, ap, ◌∙◌}
use mathlib.Core.Bool.{not}
use borrow.Author.Tests.{eq-eqb, ne_eqb}
use Rattle.verdict.specs.Words.{left_open}
use Rattle.verdict.proofs.left_open.Goals as goal

pub returns-then-not-is_engine : goal.returns-then-not-is_engine
unfolding left_open
returns-then-not-is_engine c = rw (sym c.is_engine.ensures ∙ c.if-not-is_engine.true)

pub returns-then-write-ne0 : goal.returns-then-write-ne0
unfolding left_open
returns-then-write-ne0 c = rw (sym c.is_engine.ensures ∙ c.if-not-is_engine.false, ne_eqb _ _ c.if-write-ne0.true)

pub returns : goal.returns
unfolding left_open
returns c = rw (sym c.is_engine.ensures ∙ c.if-not-is_engine.false, eq-eqb _ _ c.if-write-ne0.false) (ap not c.closes.ensures)
