-- The input, the words, and then what the walk and the verdict on flow promise.
use Prim.Native.Nat.{ℕ}
use mathlib.Core.Path.{◌≡◌, sym, subst, ◌∙◌}
use native.Mathlib.Omega.{arith}
use lib.ListN.{length}
use Rattle.instruction.specs.Form.{numbered}
use Rattle.verdict.specs.Check.{CheckIs, input, word, flow}
use Rattle.verdict.specs.Flow.{verdict}
use Rattle.sequence.proofs.Laws.{input_some}
use Rattle.verdict.proofs.Words.{input_good, targets, all_pass}
use Rattle.verdict.proofs.check.Goals as goal

pub returns-in-Err : goal.returns-in-Err
returns-in-Err c = let s = c.args in
    rw (c.numbered.ensures, c.number.ensures)
    (subst (λ (k : ℕ). CheckIs s.rules s.wave.0 s.words.now s.marks.now (verdict (numbered k) 0) s.marks.now) (sym c.in-Err.ensures)
    (input (λ z. input_some c.in-Err.bad (c.in-Err.ensures ∙ z))))

pub returns-then-v-ne0 : goal.returns-then-v-ne0
returns-then-v-ne0 c = word (sym c.in_default.ensures) c.judge_words-v.ensures c.if-v-ne0.true

pub walk-seen-requires : goal.walk-seen-requires
walk-seen-requires c = let s = c.args in
    let n = length s.words.now in
    let g = input_good n s.wave.0 (length s.marks.now) (sym c.in_default.ensures) in
    (record { marks = g.1; room = omega arith; limit = omega arith }, g.0)

pub judge-requires : goal.judge-requires
judge-requires c = let s = c.args in
    let n = length s.words.now in
    let g = input_good n s.wave.0 (length s.marks.now) (sym c.in_default.ensures) in
    let e : length c.walk-seen.new.marks ≡ length s.marks.now = c.walk-seen.auto.marks in
    let h = g.1 in
    record {
      fits = record { marks = omega arith; room = omega arith; limit = omega arith };
      some = g.0;
      targets = targets s.rules s.wave.0 s.words.now g.0 (all_pass s.rules s.wave.0 s.words.now c.judge_words-v.ensures c.if-v-ne0.false);
      exact = c.walk-seen.ensures.marked.exact;
      returns = c.walk-seen.ensures.returns;
      fault = c.walk-seen.ensures.fault;
    }

pub returns : goal.returns
returns c = let s = c.args in
    flow (sym c.in_default.ensures) (all_pass s.rules s.wave.0 s.words.now c.judge_words-v.ensures c.if-v-ne0.false) c.walk-seen.ensures.marked c.judge.ensures
