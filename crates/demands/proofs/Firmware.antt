-- `older_then_current` and `older_runs_alike`: what the older kind does not give 24 for is the same for the current one, word by word and so step by step.
-- Assumes nothing.
use mathlib.Core.Path.{◌≡◌, refl, sym, ap, subst, ◌∙◌}
use mathlib.Core.Bool.{Bool, true, false}
use mathlib.Core.List.{List}
use Prim.Native.Nat.{ℕ, zero, suc, ◌+◌}
use native.Mathlib.Decide.{ℕ_discrete}
use native.Mathlib.Omega.{arith}
use borrow.Author.Tests.{eqb-true}
use lib.Dec.{eqb, ltb}
use lib.ListN.{length, get_or, drop}
use Rattle.instruction.specs.Bits.{pick}
use Rattle.instruction.specs.Rules.{older, current}
use Rattle.instruction.specs.declared.Instruction.{Instruction}
use Rattle.instruction.specs.declared.Refusal.{Refusal}
use Rattle.instruction.specs.declared.Body.{Body}
use Rattle.instruction.specs.declared.Body.TheVariants as body
use Rattle.reader.specs.Reading.{Reading, reading_of, number_of}
use Rattle.std.specs.declared.result.Result.TheVariants.{Ok, Err}
use Rattle.reader.proofs.Alike.{reads_alike, reads_alone}
use Rattle.writer.proofs.Alike.{writes_alike, writes_alone}
use Rattle.sequence.specs.Placing.{placing_of}
use Rattle.jumps.specs.State.{Fixed, Did, fresh, stop}
use Rattle.jumps.specs.declared.State.{State}
use Rattle.machine.specs.Step.{send_of, engine_word_of, sync_of, act_of, breaks_group, execute_of, with_reading, step_of}
use Rattle.rehearsal.specs.Run.{onto, then_did, run_of, input_refused, rehearse}
use Rattle.rehearsal.proofs.Runs.{input_good, rehearse_refused}
use Rattle.verdict.specs.Words.{refused_as, word_refusal, Passes}
use Rattle.verdict.specs.Check.{WordsAre, passed, first, CheckIs, input, word, flow}
use Rattle.verdict.specs.Flow.{verdict}
use Rattle.verdict.specs.declared.Verdict.{Verdict}
use Rattle.verdict.proofs.Unique.{one_answer_check}
use Rattle.demands.specs.Check.{NoFault, budget_spent, trigger_awaited, message_awaited, trace_full}
use Rattle.demands.specs.Firmware.{OlderReadsAlike, OlderWritesAlike, OlderReadsAlone, OlderWritesAlone, CurrentNever, OlderChecksAlike, OlderThenCurrent, under, OlderRunsAlike, AcceptedRunsAlike}
use Rattle.demands.proofs.Faults.{accepted_never_faults}
use Rattle.demands.proofs.Worked.{input_low}

-- ---- a word, and an instruction asked for

pub older_reads_alike : OlderReadsAlike
older_reads_alike = reads_alike

pub older_writes_alike : OlderWritesAlike
older_writes_alike = writes_alike

pub older_reads_alone : OlderReadsAlone
older_reads_alone = reads_alone

pub older_writes_alone : OlderWritesAlone
older_writes_alone = writes_alone

pub current_never : CurrentNever
current_never w z = by (ℕ_discrete (number_of (reading_of older w)) 24)
  where
    by : Dec (number_of (reading_of older w) ≡ 24) → ⊥
    by (yes e) = omega (arith, z, ap number_of (reads_alone w e))
    by (no h) = h (sym (ap number_of (reads_alike w h)) ∙ z)

-- ---- check

word_alike : (wave : ℕ) (words : List ℕ) (a : ℕ) → ((word_refusal older wave words a).number ≡ 24 → ⊥) → word_refusal current wave words a ≡ word_refusal older wave words a
unfolding word_refusal
word_alike wave words a h = ap (refused_as wave (length words) (drop (a + 1) words)) (reads_alike w (not_24 (reading_of older w) h))
  where
    w : ℕ
    w = get_or words a 0

    not_24 : (q : Reading) → ((refused_as wave (length words) (drop (a + 1) words) q).number ≡ 24 → ⊥) → number_of q ≡ 24 → ⊥
    not_24 (Ok i) f z = omega (arith, z)
    not_24 (Err r) f z = f z

passes_alike : (wave : ℕ) (words : List ℕ) (a : ℕ) → Passes older wave words a → Passes current wave words a
passes_alike wave words a p = ap (λ (r : Refusal). r.number) (word_alike wave words a (λ z. omega (arith, z, p))) ∙ p

words_alike : (wave : ℕ) (words : List ℕ) (v : Verdict) → (v.refusal.number ≡ 24 → ⊥) → WordsAre older wave words v → WordsAre current wave words v
words_alike wave words v h (passed all) = passed (λ a l. passes_alike wave words a (all a l))
words_alike wave words v h (first {a = a} l below n) =
    let e = word_alike wave words a h in
    subst (λ (r : Refusal). WordsAre current wave words (verdict r a)) e
    (first l (λ b k. passes_alike wave words b (below b k)) (λ z. n (sym (ap (λ (r : Refusal). r.number) e) ∙ z)))

check_alike : (wave : ℕ) (words marks marks' : List ℕ) (v : Verdict) → (v.refusal.number ≡ 24 → ⊥) → CheckIs older wave words marks v marks' → CheckIs current wave words marks v marks'
check_alike wave words marks marks' v h (input n) = input n
check_alike wave words marks marks' v h (word z w n) = word z (words_alike wave words v h w) n
check_alike wave words marks marks' v h (flow z all m f) = flow z (λ a l. passes_alike wave words a (all a l)) m f

pub older_checks_alike : OlderChecksAlike
older_checks_alike wave words marks marks' marks'' v v' c h k = one_answer_check current wave words marks k (check_alike wave words marks marks' v h c)

pub older_then_current : OlderThenCurrent
older_then_current wave words marks marks' marks'' v v' c z k =
    let o = older_checks_alike wave words marks marks' marks'' v v' c (λ e. omega (arith, e, z)) k in
    (ap (λ (x : Verdict). x.refusal.number) o.0 ∙ z, o.1)

-- ---- a step

module _ (e : Fixed) (s : State) where
  act_alike : (write : ℕ) (b : Body) → act_of (under current e) s write b ≡ act_of (under older e) s write b
  unfolding act_of engine_word_of sync_of send_of
  act_alike write (body.Waveform f) = refl
  act_alike write (body.Marker f) = refl
  act_alike write body.Wait = refl
  act_alike write (body.LoadRepeat n) = refl
  act_alike write (body.Repeat a) = refl
  act_alike write (body.Cmp x) = refl
  act_alike write (body.Goto a) = refl
  act_alike write (body.Call a) = refl
  act_alike write (body.Return p) = refl
  act_alike write body.Sync = refl
  act_alike write (body.Modulator f) = refl
  act_alike write (body.LoadCmp p) = refl
  act_alike write (body.Prefetch a) = refl
  act_alike write body.Noop = refl

  execute_alike : (i : Instruction) → execute_of (under current e) s i ≡ execute_of (under older e) s i
  unfolding execute_of
  execute_alike i =
      let n = placing_of e.setting.wave.0 (length e.words) i.body in
      ap (λ (d : Did). pick (eqb n 0) (pick (breaks_group s.core.held i.write i.body) (stop 22 s) d) (stop n s)) (act_alike i.write i.body)

  step_alike : ((step_of (under older e) s).end.number ≡ 24 → ⊥) → step_of (under current e) s ≡ step_of (under older e) s
  unfolding step_of with_reading
  step_alike h = by (ltb s.core.address.0 (length e.words)) (reading_of older w) refl h
    where
      w : ℕ
      w = get_or e.words s.core.address.0 0

      by : (t : Bool) (q : Reading) → reading_of older w ≡ q → ((pick t (with_reading (under older e) s q) (stop 30 s)).end.number ≡ 24 → ⊥)
          → pick t (with_reading (under current e) s (reading_of current w)) (stop 30 s) ≡ pick t (with_reading (under older e) s q) (stop 30 s)
      by false q p f = refl
      by true (Err r) p f = ap (with_reading (under current e) s) (reads_alike w (λ z. f (sym (ap number_of p) ∙ z)) ∙ p)
      by true (Ok i) p f = ap (with_reading (under current e) s) (reads_alike w (λ z. omega (arith, z, ap number_of p)) ∙ p) ∙ execute_alike i

-- ---- the run

run_alike : (e : Fixed) (budget : ℕ) (s : State) → ((run_of budget (under older e) s).end.number ≡ 24 → ⊥) → run_of budget (under current e) s ≡ run_of budget (under older e) s
unfolding run_of
run_alike e zero s h = refl
run_alike e (suc budget) s h =
    ap (λ (d : Did). then_did d (run_of budget (under current e) d.state)) (step_alike e s (moved d (eqb d.end.number 0) refl h))
    ∙ rest d (eqb d.end.number 0) h (run_alike e budget d.state)
  where
    d : Did
    d = step_of (under older e) s

    moved : (d : Did) (t : Bool) → eqb d.end.number 0 ≡ t → ((pick t (onto d.out (run_of budget (under older e) d.state)) d).end.number ≡ 24 → ⊥) → d.end.number ≡ 24 → ⊥
    moved d true p f z = omega (arith, z, eqb-true d.end.number 0 p)
    moved d false p f z = f z

    rest : (d : Did) (t : Bool) → ((pick t (onto d.out (run_of budget (under older e) d.state)) d).end.number ≡ 24 → ⊥)
        → (((run_of budget (under older e) d.state).end.number ≡ 24 → ⊥) → run_of budget (under current e) d.state ≡ run_of budget (under older e) d.state)
        → pick t (onto d.out (run_of budget (under current e) d.state)) d ≡ pick t (onto d.out (run_of budget (under older e) d.state)) d
    rest d true f ih = ap (onto d.out) (ih f)
    rest d false f ih = refl

pub older_runs_alike : OlderRunsAlike
unfolding rehearse
older_runs_alike e budget h = by (eqb (input_refused (length e.words) e.setting.wave.0 budget) 0) h
  where
    refused : Did
    refused = stop (input_refused (length e.words) e.setting.wave.0 budget) fresh

    by : (t : Bool) → ((pick t (run_of budget (under older e) fresh) refused).end.number ≡ 24 → ⊥)
        → pick t (run_of budget (under current e) fresh) refused ≡ pick t (run_of budget (under older e) fresh) refused
    by true f = run_alike e budget fresh f
    by false f = refl

no_24 : {n : ℕ} → NoFault n → n ≡ 24 → ⊥
no_24 budget_spent z = omega (arith, z)
no_24 trigger_awaited z = omega (arith, z)
no_24 message_awaited z = omega (arith, z)
no_24 trace_full z = omega (arith, z)

pub accepted_runs_alike : AcceptedRunsAlike
accepted_runs_alike wave words marks marks' v c z e budget p q = older_runs_alike e budget (by (ℕ_discrete (input_refused (length e.words) e.setting.wave.0 budget) 0))
  where
    by : Dec (input_refused (length e.words) e.setting.wave.0 budget ≡ 0) → (rehearse budget (under older e)).end.number ≡ 24 → ⊥
    by (yes n) = no_24 (accepted_never_faults older wave words marks marks' v c z (under older e) budget p q refl (input_good (length e.words) e.setting.wave.0 budget n).1)
    by (no n) = λ f. omega (arith, f, ap (λ (d : Did). d.end.number) (rehearse_refused budget (under older e) _ refl n), input_low (length e.words) e.setting.wave.0 budget)
