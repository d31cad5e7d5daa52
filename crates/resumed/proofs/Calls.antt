-- One call, of any state: what is not 70, that a refusal changes nothing, and that its contract leaves one answer.
-- Assumes nothing.
use mathlib.Core.Path.{◌≡◌, sym, ap, ◌∙◌}
use mathlib.Core.Bool.{Bool, true, false, not, ◌||◌}
use Prim.Native.Nat.{ℕ, ◌≤◌}
use native.Mathlib.Decide.{ℕ_discrete}
use native.Mathlib.Omega.{arith}
use lib.Dec.{ltb, eqb}
use lib.ListN.{length}
use Rattle.instruction.specs.Bits.{pick}
use Rattle.sequence.specs.Bounds.{word_limit, wave_limit, budget_limit, lengths_refused}
use Rattle.buffer.specs.Put.{put}
use Rattle.buffer.proofs.Laws.{put_none}
use Rattle.dispatch.proofs.Counts.{picks}
use Rattle.jumps.specs.State.{Fixed}
use Rattle.jumps.specs.Lent.{arrays_of}
use Rattle.rehearsal.specs.Run.{input_refused}
use Rattle.left.specs.Left.{could_be_left}
use Rattle.paused.specs.Pause.{call_number, call_numbered, call_told_apart, call_refused, Went}
use Rattle.resumed.specs.Resumed.{RefusedChangesNothing, OneCalled, OneRunFrom, OneRunFromLent, OneBadCall}
use Rattle.paused.specs.declared.BadCall.{BadCall}
use Rattle.paused.specs.declared.BadCall.TheVariants.{Input, NoSuchState, LessThanLastTime}
use Rattle.paused.specs.declared.Paused.{Paused}
use Rattle.sequence.proofs.Laws.{input_some}
use Rattle.demands.proofs.Answers.{one_told}
use Rattle.paused.proofs.Pauses.{input_of, call_input, call_last, called_refused_lem}

-- ---- refusals

-- input numbers are 1 to 5
abbrev Small : ℕ → Type 0
Small n = n ≤ 5

lengths_low : (n wave : ℕ) → Small (lengths_refused n wave)
unfolding lengths_refused
lengths_low n wave =
    picks Small (eqb n 0) (λ _. omega arith)
    (λ _. picks Small (ltb word_limit n) (λ _. omega arith) (λ _. picks Small (ltb wave_limit wave) (λ _. omega arith) (λ _. omega arith)))

input_low : (n wave budget : ℕ) → Small (input_refused n wave budget)
unfolding input_refused
input_low n wave budget =
    picks Small (not (eqb (lengths_refused n wave) 0)) (λ _. lengths_low n wave) (λ _. picks Small (ltb budget_limit budget) (λ _. omega arith) (λ _. omega arith))

-- a state that passes is not 70, whatever else is wrong
pub not_70 : (budget : ℕ) (e : Fixed) (p : Paused) → could_be_left e p.budget p.state ≡ true → call_refused budget e p ≡ 70 → ⊥
not_70 budget e p k z = by (ℕ_discrete (input_of budget e) 0)
  where
    last : (b : Bool) → ◌≡◌ {A = ℕ} (pick b 71 0) 70 → ⊥
    last true h = omega (arith, h)
    last false h = omega (arith, h)

    by : Dec (input_of budget e ≡ 0) → ⊥
    by (yes h) = last (ltb e.setting.triggers p.triggers || ltb budget p.budget) (sym (call_last budget e p h k) ∙ z)
    by (no h) = omega (arith, sym (call_input budget e p h) ∙ z, input_low (length e.words) e.setting.wave.0 budget)

-- ---- what a refusal changes

pub refused_changes_nothing : RefusedChangesNothing
refused_changes_nothing pace budget e p before h end p' after c =
    let q = called_refused_lem pace budget e p h in (
      c.answer ∙ ap (λ (w : Went). w.end) q,
      c.held ∙ ap (λ (w : Went). w.paused) q,
      c.trace ∙ ap (λ (w : Went). put before p.state.core.sent w.out) q ∙ put_none before p.state.core.sent,
    )

-- ---- one answer

pub one_answer_called : OneCalled
one_answer_called w p before r r' c d =
    let end = c.answer ∙ sym d.answer in
    let held = c.held ∙ sym d.held in
    let trace = c.trace ∙ sym d.trace in
    λ i. (end i, held i, trace i)

pub one_answer_run_from : OneRunFrom
one_answer_run_from budget e s before r r' p q =
    let end = p.done.end ∙ sym q.done.end in
    let state = p.done.state ∙ sym q.done.state in
    let trace = p.trace ∙ sym q.trace in
    λ i. (record { end = end i; core = (state i).core }, trace i, (state i).returns, (state i).counters, (state i).waits, (state i).totals)

pub one_answer_run_from_lent : OneRunFromLent
one_answer_run_from_lent budget e s arrays before r r' p q =
    let end = p.done.end ∙ sym q.done.end in
    let state = p.done.state ∙ sym q.done.state in
    let trace = p.trace ∙ sym q.trace in
    λ i. (record { end = end i; core = (state i).core }, trace i, arrays_of (state i))

call_some : (bad : BadCall) → call_number bad ≡ 0 → ⊥
call_some (Input bad) e = input_some bad e
call_some NoSuchState e = omega (arith, e)
call_some LessThanLastTime e = omega (arith, e)

pub one_answer_bad_call : OneBadCall
one_answer_bad_call = one_told BadCall call_number call_numbered call_told_apart call_some
