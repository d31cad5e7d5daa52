-- Each arm is what its op code spells, with its number.
use mathlib.Core.Path.{refl, ap, ◌∙◌}
use native.Mathlib.Omega.{arith}
use Rattle.instruction.specs.Form.{body_form}
use Rattle.instruction.specs.declared.Body.TheVariants.{Waveform, Marker, LoadRepeat, Repeat, Cmp, Goto, Call, Modulator, Prefetch}
use Rattle.instruction.proofs.Laws.{past}
use Rattle.reader.proofs.Laws.{read_by, read_as}
use Rattle.reader.proofs.Coarse.{coarse_named}
use Rattle.reader.proofs.read_named.Goals as goal

pub returns-in-0 : goal.returns-in-0
returns-in-0 c = c.judge.ensures ∙ read_as c.args.rules c.args.word 0 c.code_in.ensures c.in-0.is (omega (arith, c.requires.0)) c.requires.1 (λ z. omega arith) (λ z. omega arith) (c.told.ensures ∙ c.form.ensures c.args.rules ∙ ap (λ f. body_form c.args.rules 0 (Waveform f)) c.spelled_by-f.ensures) (ap Waveform c.spelled_by-f.ensures)

pub returns-in-1 : goal.returns-in-1
returns-in-1 c = c.judge-in-1.ensures ∙ read_as c.args.rules c.args.word 1 c.code_in.ensures c.in-1.is (omega (arith, c.requires.0)) c.requires.1 (λ z. omega arith) (λ z. omega arith) (c.told-in-1.ensures ∙ c.form-in-1.ensures ∙ ap (λ f. body_form c.args.rules 0 (Marker f)) c.spelled_by-f-in-1.ensures) (ap Marker c.spelled_by-f-in-1.ensures)

pub returns-in-2 : goal.returns-in-2
returns-in-2 c = c.judge-in-2.ensures ∙ read_by c.args.rules c.args.word 2 c.code_in.ensures c.in-2.is c.requires.1 (c.form_in.ensures ∙ coarse_named _ _ (omega (arith, c.requires.0)) c.requires.1) refl

pub returns-in-3 : goal.returns-in-3
returns-in-3 c = c.judge-in-3.ensures ∙ read_as c.args.rules c.args.word 3 c.code_in.ensures c.in-3.is (omega (arith, c.requires.0)) c.requires.1 (λ z. omega arith) (λ z. omega arith) refl (ap LoadRepeat c.spelled_by.ensures)

pub returns-in-4 : goal.returns-in-4
returns-in-4 c = c.judge-in-4.ensures ∙ read_as c.args.rules c.args.word 4 c.code_in.ensures c.in-4.is (omega (arith, c.requires.0)) c.requires.1 (λ z. omega arith) (λ z. omega arith) refl (ap Repeat c.spelled_by-in-4.ensures)

pub returns-in-5 : goal.returns-in-5
returns-in-5 c = c.judge-in-5.ensures ∙ read_as c.args.rules c.args.word 5 c.code_in.ensures c.in-5.is (omega (arith, c.requires.0)) c.requires.1 (λ z. omega arith) (λ z. omega arith) refl (ap Cmp c.spelled_by-in-5.ensures)

pub returns-in-6 : goal.returns-in-6
returns-in-6 c = c.judge-in-6.ensures ∙ read_as c.args.rules c.args.word 6 c.code_in.ensures c.in-6.is (omega (arith, c.requires.0)) c.requires.1 (λ z. omega arith) (λ z. omega arith) refl (ap Goto c.spelled_by-in-6.ensures)

pub returns-in-7 : goal.returns-in-7
returns-in-7 c = c.judge-in-7.ensures ∙ read_as c.args.rules c.args.word 7 c.code_in.ensures c.in-7.is (omega (arith, c.requires.0)) c.requires.1 (λ z. omega arith) (λ z. omega arith) refl (ap Call c.spelled_by-in-7.ensures)

pub returns-in-8 : goal.returns-in-8
returns-in-8 c = c.judge-in-8.ensures ∙ read_as c.args.rules c.args.word 8 c.code_in.ensures c.in-8.is (omega (arith, c.requires.0)) c.requires.1 (λ z. omega arith) (λ z. omega arith) refl refl

pub returns-in-9 : goal.returns-in-9
returns-in-9 c = c.judge-in-9.ensures ∙ read_by c.args.rules c.args.word 9 c.code_in.ensures c.in-9.is c.requires.1 (c.form_in-in-9.ensures ∙ coarse_named _ _ (omega (arith, c.requires.0)) c.requires.1) refl

pub returns-in-10 : goal.returns-in-10
returns-in-10 c = c.judge-in-10.ensures ∙ read_as c.args.rules c.args.word 10 c.code_in.ensures c.in-10.is (omega (arith, c.requires.0)) c.requires.1 (λ z. omega arith) (λ z. omega arith) (c.told-in-10.ensures ∙ c.form-in-10.ensures c.args.rules ∙ ap (λ f. body_form c.args.rules 0 (Modulator f)) c.spelled_by-f-in-10.ensures) (ap Modulator c.spelled_by-f-in-10.ensures)

pub returns-in-11 : goal.returns-in-11
returns-in-11 c = c.judge-in-11.ensures ∙ read_as c.args.rules c.args.word 11 c.code_in.ensures c.in-11.is (omega (arith, c.requires.0)) c.requires.1 (λ z. omega arith) (λ z. omega arith) refl refl

pub returns-in_default : goal.returns-in_default
returns-in_default c = let e = c.code_in.ensures in
    let l = past 12 c.in_default.in_default-own.rest in
    let h = c.requires.0 in
    c.judge-in_default.ensures ∙ read_by c.args.rules c.args.word 12 e (omega (arith, e, l, h)) c.requires.1 (c.form_in-in_default.ensures ∙ coarse_named _ _ (omega (arith, c.requires.0)) c.requires.1) (ap Prefetch c.spelled_by-in_default.ensures)
