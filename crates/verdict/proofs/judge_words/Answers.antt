-- All words below a pass.
use mathlib.Core.Path.{sym, ap, subst, ◌∙◌}
use native.Mathlib.Omega.{arith}
use Rattle.instruction.specs.declared.Refusal.{Refusal}
use Rattle.verdict.specs.Check.{WordsAre, passed, first}
use Rattle.verdict.specs.Flow.{verdict}
use Rattle.verdict.proofs.judge_words.Goals as goal

pub returns-then-refusal-ne0 : goal.returns-then-refusal-ne0
returns-then-refusal-ne0 c = let l = c.loop-a in
    let s = c.args in
    subst (λ (r : Refusal). WordsAre s.rules s.wave.0 s.words.now (verdict r l.a)) (sym c.word_refusal-refusal.ensures)
    (first c.loop-a-test.true l.invariant (λ z. c.if-refusal-ne0.true (ap (λ (r : Refusal). r.number) c.word_refusal-refusal.ensures ∙ z)))

pub returns : goal.returns
returns c = let l = c.loop-a in
    rw c.numbered.ensures (passed (λ b h. l.invariant b (omega (arith, c.loop-a-test.false))))
