-- A call on a run that pauses, document 02, CR 8: what it is refused for, what it does, and what it leaves.
-- "Keep the run state between calls, updated where the host holds it, with a single-step call and a go-on call, both taking budget, messages and triggers".
use Rattle.std.specs.Prelude.{refl, ℕ, ◌-◌, ◌≤◌, Bool, true, false, not, ◌||◌, ◌&&◌, List, [], ◌≡◌, ltb, eqb, length}
use Rattle.instruction.specs.Bits.{pick, ◌gives◌else◌}
use Rattle.instruction.specs.Form.{numbered}
use Rattle.instruction.specs.declared.Refusal.{Refusal}
use Rattle.buffer.specs.Put.{put}
use Rattle.sequence.specs.Bounds.{budget_limit}
use Rattle.sequence.specs.Numbers.{input_number, input_numbered}
use Rattle.sequence.specs.declared.BadInput.TheVariants.{NoWords, TooManyWords, TooMuchWave, ShortMarks, TooMuchBudget}
use Rattle.jumps.specs.State.{Fixed, fixed_in, Did, fresh, stop, stopped}
use Rattle.jumps.specs.declared.Setting.{Setting}
use Rattle.jumps.specs.declared.State.{State}
use Rattle.jumps.specs.declared.Stepped.{Stepped}
use Rattle.machine.specs.Step.{step_of}
use Rattle.machine.specs.Kept.{Good}
use Rattle.rehearsal.specs.Run.{run_of, input_refused}
use Rattle.left.specs.Left.{could_be_left}
use Rattle.paused.specs.declared.Paused.{Paused}
use Rattle.paused.specs.declared.BadCall.{BadCall}
use Rattle.paused.specs.declared.BadCall.TheVariants.{Input, NoSuchState, LessThanLastTime}
use Rattle.paused.specs.declared.Asked.{Asked}
use Rattle.paused.specs.declared.Pace.{Pace}
use Rattle.paused.specs.declared.Pace.TheVariants.{Single, On}

-- "from the fresh state": nothing is done, and nothing was given
abbrev pub fresh_paused : Paused
fresh_paused = record { state = fresh; budget = 0; triggers = 0 }

-- ---- refusals

-- the number of each thing that a call is refused for
abbrev pub call_number : BadCall → ℕ
call_number (Input bad) = input_number bad
call_number NoSuchState = 70
call_number LessThanLastTime = 71

abbrev pub call_numbered : ℕ → BadCall
call_numbered n = pick (eqb n 70) NoSuchState (pick (eqb n 71) LessThanLastTime (Input (input_numbered n)))

pub call_told_apart : (bad : BadCall) → call_numbered (call_number bad) ≡ bad
call_told_apart (Input NoWords) = refl
call_told_apart (Input TooManyWords) = refl
call_told_apart (Input TooMuchWave) = refl
call_told_apart (Input ShortMarks) = refl
call_told_apart (Input TooMuchBudget) = refl
call_told_apart NoSuchState = refl
call_told_apart LessThanLastTime = refl

-- "Refusals: 70 such a field, 71 fewer triggers or less budget than last time, after 1 to 5"; 0 where none is given
unfoldable pub call_refused : ℕ → Fixed → Paused → ℕ
call_refused budget e p =
    not (eqb (input_refused (length e.words) e.setting.wave.0 budget) 0) gives input_refused (length e.words) e.setting.wave.0 budget
    else not (could_be_left e p.budget p.state) gives 70
    else ltb e.setting.triggers p.triggers || ltb budget p.budget gives 71
    else 0

-- ---- what a call does

-- "a single step does at most one step and ends with 0 if it did"; going on takes all steps that the budget leaves; "triggers and budget as totals so far"
unfoldable pub done_by : Pace → ℕ → Fixed → State → Did
done_by Single budget e s = pick (ltb s.core.steps budget) (step_of e s) (stop 40 s)
done_by On budget e s = run_of (budget - s.core.steps) e s

-- how a call ended, what the host then holds, and the words that it dispatched
pub record Went : Type 0 where
  pub end : Refusal
  pub paused : Paused
  pub out : List ℕ

-- what it was given is last time's to the next call
abbrev pub went_by : ℕ → Fixed → Did → Went
went_by budget e d = record { end = d.end; paused = record { state = d.state; budget = budget; triggers = e.setting.triggers }; out = d.out }

-- "nothing is changed by them"
abbrev pub refused_with : ℕ → Paused → Went
refused_with number p = record { end = numbered number; paused = p; out = [] }

unfoldable pub called : Pace → ℕ → Fixed → Paused → Went
called pace budget e p =
    pick (eqb (call_refused budget e p) 0)
    (went_by budget e (done_by pace budget e p.state))
    (refused_with (call_refused budget e p) p)

-- what a call answers that went so, what the host holds, and what the trace holds: "each group .. after the last dispatched word"
pub record Called (w : Went) (p : Paused) (before : List ℕ) (end : Refusal) (p' : Paused) (after : List ℕ) : Type 0 where
  pub answer : end ≡ w.end
  pub held : p' ≡ w.paused
  pub trace : after ≡ put before p.state.core.sent w.out

-- ---- the same of what is lent and asked

abbrev pub setting_of : Asked → Setting
setting_of k = record { wave = k.wave; rules = k.rules; triggers = k.triggers }

abbrev pub Does : Pace → List ℕ → List ℕ → List ℕ → List ℕ → Paused → Asked → Refusal → Paused → Type 0
Does pace words messages before after p k end p' = Called (called pace k.budget (fixed_in words messages before (setting_of k)) p) p before end p' after

-- ---- what only carries the code: both paces take the run's loop, so that the step has one caller

-- so many steps at the most, of those that the budget leaves
abbrev pub steps_of : Pace → ℕ → ℕ
steps_of Single left = 1
steps_of On left = left

abbrev pub is_single : Pace → Bool
is_single Single = true
is_single On = false

-- the loop's end: a single step that was done spends its budget of one
abbrev pub ends_of : Pace → Stepped → Stepped
ends_of pace r = pick (is_single pace && eqb r.end.number 40) (stopped 0 r.core) r

-- what the steps ask: a good state, and a budget within its limit
pub record CanGoOn (budget : ℕ) (e : Fixed) (s : State) : Type 0 where
  pub good : Good e s
  pub limit : budget ≤ budget_limit
