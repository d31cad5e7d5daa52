-- The refusal of its form, or of where it stands.
use mathlib.Core.Path.{sym, ap, ◌∙◌}
use lib.ListN.{length, get_or, drop}
use Prim.Native.Nat.{ℕ, ◌+◌}
use mathlib.Core.List.{List}
use Rattle.instruction.specs.Form.{numbered}
use Rattle.instruction.specs.declared.Instruction.{Instruction}
use Rattle.reader.proofs.Coarse.{coarse_accepts, coarse_refuses}
use Rattle.verdict.specs.Words.{stands_refused}
use Rattle.verdict.proofs.Words.{refusal_at, rest_above}
use Rattle.verdict.proofs.word_refusal.Goals as goal

pub returns-then-coarse-ne0 : goal.returns-then-coarse-ne0
returns-then-coarse-ne0 c = let a = c.args in
    let w = get_or a.words.now a.a 0 in
    c.finer.ensures ∙ sym (refusal_at a.rules a.wave.0 a.words.now a.a (sym (coarse_refuses a.rules w c.coarse_of-coarse.ensures c.if-coarse-ne0.true)))

pub returns : goal.returns
returns c = let a = c.args in
    let w = get_or a.words.now a.a 0 in
    c.numbered.ensures
    ∙ ap numbered (c.told.ensures
    ∙ c.stands_refused-stands.ensures
    ∙ ap (λ (above : List ℕ). stands_refused a.wave.0 (length a.words.now) above c.instruction_in.result) (rest_above a.words.now (a.a + 1))
    ∙ ap (λ (i : Instruction). stands_refused a.wave.0 (length a.words.now) (drop (a.a + 1) a.words.now) i) c.instruction_in.ensures)
    ∙ sym (refusal_at a.rules a.wave.0 a.words.now a.a (sym (coarse_accepts a.rules w c.coarse_of-coarse.ensures c.if-coarse-ne0.false)))
