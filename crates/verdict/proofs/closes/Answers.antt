-- What is asked at first is what is still asked.
use Prim.Native.Nat.{ℕ, ◌+◌, ◌-◌}
use native.Mathlib.Omega.{arith}
use mathlib.Core.Path.{sym, ap, ◌∙◌}
use lib.ListN.{drop}
use Rattle.verdict.specs.Words.{is_engine_word, is_high, closes}
use Rattle.verdict.proofs.Words.{closes_not, closes_high, closes_on, near_left, near_in, near_is, near_none}
use Rattle.verdict.proofs.closes.Goals as goal

pub returns-then-not-is_engine_word : goal.returns-then-not-is_engine_word
returns-then-not-is_engine_word c = let l = c.loop-word in
    let above = c.args.above.now in
    let i = l.word-index in
    let m = c.min.ensures in
    let t = c.loop-word-test.true in
    sym (l.invariant ∙ closes_not (7 - i) i above (near_left 7 i above m t) (near_in 7 i above m t) (ap is_engine_word (sym (near_is 7 i above m t)) ∙ sym c.is_engine_word.ensures ∙ c.if-not-is_engine_word.true))

pub returns-then-is_high : goal.returns-then-is_high
returns-then-is_high c = let l = c.loop-word in
    let above = c.args.above.now in
    let i = l.word-index in
    let m = c.min.ensures in
    let t = c.loop-word-test.true in
    let same = sym (near_is 7 i above m t) in
    sym (l.invariant ∙ closes_high (7 - i) i above (near_left 7 i above m t) (near_in 7 i above m t) (ap is_engine_word same ∙ sym c.is_engine_word.ensures ∙ c.if-not-is_engine_word.false) (ap is_high same ∙ sym c.is_high.ensures ∙ c.if-is_high.true))

pub loop-word-preserved : goal.loop-word-preserved
loop-word-preserved c = let l = c.loop-word in
    let above = c.args.above.now in
    let i = l.word-index in
    let m = c.min.ensures in
    let t = c.loop-word-test.true in
    let same = sym (near_is 7 i above m t) in
    l.invariant ∙ closes_on (7 - i) i above (near_left 7 i above m t) (near_in 7 i above m t) (ap is_engine_word same ∙ sym c.is_engine_word.ensures ∙ c.if-not-is_engine_word.false) (ap is_high same ∙ sym c.is_high.ensures ∙ c.if-is_high.false)
    ∙ ap (λ (k : ℕ). closes k (drop (i + 1) above)) (omega arith)

pub returns : goal.returns
returns c = let l = c.loop-word in
    sym (l.invariant ∙ near_none 7 l.word-index c.args.above.now c.min.ensures c.loop-word-test.false)
