-- The run: input refusals, then steps until one stops or the budget is spent. Document 01, "One step" and "Numbers given back".
-- The trace is not in the state: a run yields the list that was dispatched, and the lent buffer holds it before its own old tail.
use Rattle.std.specs.Prelude.{ℕ, zero, suc, ◌+◌, ◌≤◌, not, List, ◌++◌, ◌≡◌, ltb, eqb, length, drop}
use Rattle.instruction.specs.Bits.{pick, ◌gives◌else◌}
use Rattle.sequence.specs.Bounds.{budget_limit, lengths_refused}
use Rattle.jumps.specs.State.{Fixed, Did, fresh, stop}
use Rattle.jumps.specs.declared.State.{State}
use Rattle.machine.specs.Step.{step_of}
use Rattle.machine.specs.Kept.{Good}
use Rattle.rehearsal.specs.declared.Answer.{Answer}

-- what d did, after words that were dispatched before it
abbrev pub onto : List ℕ → Did → Did
onto words d = record { end = d.end; state = d.state; out = words ++ d.out }

-- what a step did, and where it moved, what was done from there
abbrev pub then_did : Did → Did → Did
then_did d rest = pick (eqb d.end.number 0) (onto d.out rest) d

-- a run of so many steps at the most: "budget (40)" is tested before each
unfoldable pub run_of : ℕ → Fixed → State → Did
run_of zero e s = stop 40 s
run_of (suc budget) e s = then_did (step_of e s) (run_of budget e (step_of e s).state)

-- 1, 2, 3, "5 budget too large (run only)", and 0 where none is given
unfoldable pub input_refused : ℕ → ℕ → ℕ → ℕ
input_refused n wave budget =
    not (eqb (lengths_refused n wave) 0) gives lengths_refused n wave
    else ltb budget_limit budget gives 5
    else 0

-- "A run refused for input leaves the trace untouched and returns zeros beside its number."
unfoldable pub rehearse : ℕ → Fixed → Did
rehearse budget e =
    pick (eqb (input_refused (length e.words) e.setting.wave.0 budget) 0)
    (run_of budget e fresh)
    (stop (input_refused (length e.words) e.setting.wave.0 budget) fresh)

-- what `run` answers, and what it leaves in the trace: "the trace holds what was dispatched, and the rest is untouched"
pub record Rehearsed (d : Did) (before after : List ℕ) (r : Answer) : Type 0 where
  pub answer : r ≡ record { end = d.end; state = d.state }
  pub trace : after ≡ d.out ++ drop (length d.out) before

-- ---- what the loop asks

pub record CanGo (budget : ℕ) (e : Fixed) (s : State) : Type 0 where
  pub good : Good e s
  pub steps : s.core.steps + budget ≤ budget_limit
