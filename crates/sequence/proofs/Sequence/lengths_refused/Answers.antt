-- Each return is where the tests before it failed and its own held.
use borrow.Author.Tests.{ne_eqb, lt-ltb, le-ltb}
use Rattle.sequence.specs.Bounds.{lengths_refused}
use Rattle.sequence.proofs.Sequence.lengths_refused.Goals as goal

pub returns-then-n-eq0 : goal.returns-then-n-eq0
unfolding lengths_refused
returns-then-n-eq0 c = rw c.if-n-eq0.true

pub returns-then-n-gt-WORDS : goal.returns-then-n-gt-WORDS
unfolding lengths_refused
returns-then-n-gt-WORDS c = rw (ne_eqb _ _ c.if-n-eq0.false, lt-ltb _ _ c.if-n-gt-WORDS.true)

pub returns-then-wave : goal.returns-then-wave
unfolding lengths_refused
returns-then-wave c = rw (ne_eqb _ _ c.if-n-eq0.false, le-ltb _ _ c.if-n-gt-WORDS.false, lt-ltb _ _ c.if-wave.true)

pub returns : goal.returns
unfolding lengths_refused
returns c = rw (ne_eqb _ _ c.if-n-eq0.false, le-ltb _ _ c.if-n-gt-WORDS.false, le-ltb _ _ c.if-wave.false)
