-- NOOP first; then each return is where the tests before it failed and its own held.
use mathlib.Core.Path.{sym, ap, ◌∙◌}
use Prim.Native.Nat.{ℕ, ◌<◌}
use native.Mathlib.Omega.{arith}
use Rattle.instruction.specs.Word.{code_in, spelled_by}
use Rattle.reader.specs.Reading.{refused_with, judged}
use Rattle.std.specs.declared.result.Result.TheVariants.{Err}
use Rattle.reader.proofs.Laws.{reads_noop, reads_form, form_10, with_unnamed, refuses_unnamed}
use Rattle.reader.proofs.read.Goals as goal

pub returns-then-word-eq-NOOP : goal.returns-then-word-eq-NOOP
returns-then-word-eq-NOOP c = sym (reads_noop c.args.rules c.args.word c.if-word-eq-NOOP.true)

pub returns-then-code_in-gt-PREFETCH : goal.returns-then-code_in-gt-PREFETCH
returns-then-code_in-gt-PREFETCH c = let w = c.args.word in
    let rules = c.args.rules in
    ap (λ (n : ℕ). judged (refused_with w n) (spelled_by w)) (sym (form_10 rules w (omega (arith, c.if-code_in-gt-PREFETCH.true, c.code_in.ensures)))) ∙ sym (reads_form rules w c.if-word-eq-NOOP.false)

pub returns-then-has_unnamed : goal.returns-then-has_unnamed
returns-then-has_unnamed c = let w = c.args.word in
    let rules = c.args.rules in
    let code : code_in w < 13 = omega (arith, c.if-code_in-gt-PREFETCH.false, c.code_in.ensures) in
    let unnamed = sym c.has_unnamed.ensures ∙ c.if-has_unnamed.true in
    ap Err (c.finer.ensures ∙ sym (with_unnamed rules w code unnamed)) ∙ sym (refuses_unnamed rules w c.if-word-eq-NOOP.false code unnamed)

pub returns : goal.returns
returns c = c.read_named.ensures ∙ sym (reads_form c.args.rules c.args.word c.if-word-eq-NOOP.false)
