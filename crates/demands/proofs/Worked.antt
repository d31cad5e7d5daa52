-- `worked_sequences`: P1 to P12 by computation, `worked_pulses` too; the flow of each that comes so far by a list of places that the walk cannot leave.
-- `p10_no_run_falls_off`: every second step is back at address 0. Assumes nothing.
use mathlib.Core.Path.{◌≡◌, refl, ap, subst}
use mathlib.Core.Bool.{Bool, true, false, not}
use mathlib.Core.List.{List, [], ◌∷◌}
use Prim.Native.Nat.{ℕ, zero, suc, ◌+◌, ◌≤◌, ◌<◌}
use native.Mathlib.Numerals.{add-one}
use native.Mathlib.Decide.{ℕ_discrete}
use native.Mathlib.Omega.{arith}
use borrow.Author.Tests.{eqb-true, not-false}
use lib.Dec.{ltb, eqb}
use lib.ListN.{length}
use Rattle.instruction.specs.Rules.{current}
use Rattle.instruction.specs.Form.{numbered, form_of}
use Rattle.instruction.specs.Word.{spelled_by}
use Rattle.instruction.specs.declared.Rules.{Rules}
use Rattle.reader.specs.Reading.{some_below, has_kind, not_its_op, form_in, highest_stray, reading_of}
use Rattle.reader.proofs.Below.{none_below}
use Rattle.sequence.specs.Bounds.{word_limit, wave_limit, stack_depth, budget_limit, lengths_refused}
use Rattle.sequence.specs.Placing.{placing_of}
use Rattle.dispatch.proofs.Counts.{picks}
use Rattle.jumps.specs.State.{Fixed, fixed_by, Did, fresh_core, fresh, with_count, with_core}
use Rattle.jumps.specs.Jumps.{call_of, return_of, message_of}
use Rattle.jumps.specs.declared.Setting.{Setting}
use Rattle.jumps.specs.declared.State.{State}
use Rattle.machine.specs.Step.{send_of, engine_word_of, sync_of, act_of, execute_of, with_reading, step_of}
use Rattle.rehearsal.specs.Run.{run_of, input_refused, rehearse}
use Rattle.rehearsal.proofs.Runs.{rehearse_refused, rehearse_runs}
use Rattle.flow.specs.Walk.{Reached, start, compare, enter, passed, other, goto, past, full, empty}
use Rattle.verdict.specs.Flow.{verdict, FlowIs, sound, faulty}
use Rattle.verdict.specs.Words.{is_engine_word, is_high, closes, left_open, stands_refused, word_refusal, Passes}
use Rattle.verdict.specs.Check as check
use Rattle.verdict.specs.Check.{WordsAre, CheckIs}
use Rattle.verdict.specs.declared.Verdict.{Verdict}
use Rattle.verdict.proofs.Unique.{one_words, one_flow}
use Rattle.verdict.proofs.Words.{input_none}
use Rattle.demands.specs.Worked.{four_words, two_words, table, pulses, WorkedSequences, NoRunFallsOff}
use Rattle.demands.proofs.Certificate.{at, no_fault, no_lower}

-- ---- what settles a check

-- a word below n is refused
abbrev refused_below : Rules → ℕ → ℕ → List ℕ → Bool
refused_below rules n wave words = some_below n (λ a. not (eqb (word_refusal rules wave words a).number 0))

pass : (rules : Rules) (n wave : ℕ) (words : List ℕ) → refused_below rules n wave words ≡ false → (a : ℕ) → a < n → Passes rules wave words a
pass rules n wave words e a l = eqb-true _ 0 (not-false _ (none_below n (λ k. not (eqb (word_refusal rules wave words k).number 0)) e a l))

by_flow : (rules : Rules) (wave : ℕ) (words : List ℕ) (u : Verdict) → lengths_refused (length words) wave ≡ 0 → refused_below rules (length words) wave words ≡ false → FlowIs stack_depth words u
    → (marks marks' : List ℕ) (v : Verdict) → length words ≤ length marks → CheckIs rules wave words marks v marks' → v ≡ u
by_flow rules wave words u n p f marks _ _ l (check.input h) = absurd (h (input_none (length words) wave (length marks) n l))
by_flow rules wave words u n p f marks _ v l (check.word _ w h) =
    absurd (h (ap (λ (x : Verdict). x.refusal.number) (one_words rules wave words w (check.passed (pass rules (length words) wave words p)))))
by_flow rules wave words u n p f marks _ _ l (check.flow _ _ _ g) = one_flow stack_depth words g f

by_word : (rules : Rules) (wave : ℕ) (words : List ℕ) (v : Verdict) → lengths_refused (length words) wave ≡ 0 → WordsAre rules wave words v → (v.refusal.number ≡ 0 → ⊥)
    → (marks marks' : List ℕ) (u : Verdict) → length words ≤ length marks → CheckIs rules wave words marks u marks' → u ≡ v
by_word rules wave words v n w h marks _ _ l (check.input z) = absurd (z (input_none (length words) wave (length marks) n l))
by_word rules wave words v n w h marks _ u l (check.word _ x _) = one_words rules wave words x w
by_word rules wave words v n w h marks _ _ l (check.flow _ all _ _) = absurd (h (ap (λ (x : Verdict). x.refusal.number) (one_words rules wave words w (check.passed all))))

-- ---- the flows

p1 : FlowIs stack_depth four_words (verdict (numbered 0) 0)
unfolding spelled_by
p1 = sound (no_fault stack_depth four_words (at 0 0 false ∷ at 1 0 false ∷ at 2 0 false ∷ at 3 0 false ∷ []) refl refl)

p6 : FlowIs stack_depth (0x8000000000000000 ∷ []) (verdict (numbered 32) 0)
unfolding spelled_by
p6 = faulty (empty start (omega arith) refl) (λ k a f. omega arith)

p7 : FlowIs stack_depth (0xFFFFFFFFFFFFFFFF ∷ []) (verdict (numbered 30) 1)
unfolding spelled_by
p7 = faulty (past (other start (omega arith) refl)) (no_lower stack_depth (0xFFFFFFFFFFFFFFFF ∷ []) (at 0 0 false ∷ at 1 0 false ∷ []) 1 refl refl)

-- CALL 0 reaches itself at every depth
deeper : (d : ℕ) → d ≤ stack_depth → Reached stack_depth (0x7000000000000000 ∷ []) 0 d false
unfolding spelled_by
deeper zero l = start
deeper (suc d) l = subst (λ (x : ℕ). Reached stack_depth (0x7000000000000000 ∷ []) 0 x false) (add-one d) (enter (deeper d (omega arith)) (omega arith) refl (omega arith))

p8 : FlowIs stack_depth (0x7000000000000000 ∷ []) (verdict (numbered 31) 0)
unfolding spelled_by
p8 = faulty (full (deeper stack_depth (omega arith)) (omega arith) refl) (λ k a f. omega arith)

p9 : FlowIs stack_depth (0x7000000000000002 ∷ 0x6000000000000001 ∷ 0x8000000000000000 ∷ []) (verdict (numbered 0) 0)
unfolding spelled_by
p9 = sound (no_fault stack_depth (0x7000000000000002 ∷ 0x6000000000000001 ∷ 0x8000000000000000 ∷ []) (at 0 0 false ∷ at 2 1 false ∷ at 1 0 false ∷ []) refl refl)

p10 : FlowIs stack_depth two_words (verdict (numbered 30) 2)
unfolding spelled_by
p10 =
    faulty (past (passed (compare start (omega arith) refl) (omega arith) goto))
    (no_lower stack_depth two_words (at 0 0 false ∷ at 1 0 true ∷ at 2 0 false ∷ []) 2 refl refl)

-- ---- the table

infixr 5 ◌also◌
◌also◌ : {A B : Type 0} → A → B → A × B
a also b = (a, b)

pub worked_sequences : (rules : Rules) → WorkedSequences rules table
unfolding word_refusal stands_refused left_open closes is_engine_word is_high reading_of form_in has_kind highest_stray not_its_op form_of spelled_by placing_of lengths_refused input_refused rehearse run_of step_of with_reading execute_of act_of engine_word_of send_of sync_of message_of call_of return_of
worked_sequences rules =
    (by_flow rules 5 four_words (verdict (numbered 0) 0) refl refl p1 also tt)
    also (by_word rules 4 four_words (verdict (numbered 20) 2) refl (check.first {a = 2} (omega arith) (pass rules 2 4 four_words refl) (λ z. omega (arith, z))) (λ z. omega (arith, z)) also tt)
    also (refl also refl also refl also refl also refl also refl also tt)
    also (refl also refl also refl also refl also tt)
    also (refl also tt)
    also (refl also refl also refl also refl also refl also tt)
    also (by_flow rules 0 (0x8000000000000000 ∷ []) (verdict (numbered 32) 0) refl refl p6 also tt)
    also (by_flow rules 0 (0xFFFFFFFFFFFFFFFF ∷ []) (verdict (numbered 30) 1) refl refl p7 also tt)
    also (by_flow rules 0 (0x7000000000000000 ∷ []) (verdict (numbered 31) 0) refl refl p8 also tt)
    also (by_flow rules 0 (0x7000000000000002 ∷ 0x6000000000000001 ∷ 0x8000000000000000 ∷ []) (verdict (numbered 0) 0) refl refl p9 also tt)
    also (by_flow rules 0 two_words (verdict (numbered 30) 2) refl refl p10 also tt)
    also (by_word rules 0 (0x2100000000000000 ∷ []) (verdict (numbered 12) 0) refl (check.first {a = 0} (omega arith) (λ b l. absurd (omega arith)) (λ z. omega (arith, z))) (λ z. omega (arith, z)) also tt)
    also (refl also refl also refl also tt)
    also tt

pub worked_pulses : WorkedSequences current pulses
unfolding reading_of form_in has_kind highest_stray not_its_op form_of spelled_by placing_of lengths_refused input_refused rehearse run_of step_of with_reading execute_of act_of engine_word_of send_of
worked_pulses = (refl also refl also tt) also (refl also tt) also tt

-- ---- P10 goes round and round

-- at address 0 after k steps, all else fresh
abbrev at_zero : ℕ → State
at_zero k = with_core (with_count 0 k fresh_core) fresh

spends : (messages : List ℕ) (room : ℕ) (setting : Setting) (budget k : ℕ) → (run_of budget (fixed_by two_words messages room setting) (at_zero k)).end.number ≡ 40
unfolding reading_of form_in has_kind highest_stray not_its_op form_of spelled_by placing_of run_of step_of with_reading execute_of act_of
spends messages room setting zero k = refl
spends messages room setting (suc zero) k = refl
spends messages room setting (suc (suc budget)) k = spends messages room setting budget (k + 1 + 1)

-- "Input refusals: 1 .. 5"
pub input_low : (n wave budget : ℕ) → input_refused n wave budget ≤ 5
unfolding input_refused lengths_refused
input_low n wave budget =
    let Low : ℕ → Type 0 = λ k. k ≤ 5 in
    picks Low (not (eqb (lengths_refused n wave) 0))
    (λ _. picks Low (eqb n 0) (λ _. omega arith) (λ _. picks Low (ltb word_limit n) (λ _. omega arith) (λ _. picks Low (ltb wave_limit wave) (λ _. omega arith) (λ _. omega arith))))
    (λ _. picks Low (ltb budget_limit budget) (λ _. omega arith) (λ _. omega arith))

pub p10_no_run_falls_off : NoRunFallsOff two_words
p10_no_run_falls_off messages room setting budget = by (ℕ_discrete (input_refused 2 setting.wave.0 budget) 0)
  where
    e : Fixed
    e = fixed_by two_words messages room setting

    by : Dec (input_refused 2 setting.wave.0 budget ≡ 0) → (rehearse budget e).end.number ≡ 30 → ⊥
    by (yes n) z = omega (arith, z, ap (λ (d : Did). d.end.number) (rehearse_runs budget e n), spends messages room setting budget 0)
    by (no h) z = omega (arith, z, ap (λ (d : Did). d.end.number) (rehearse_refused budget e _ refl h), input_low 2 setting.wave.0 budget)
