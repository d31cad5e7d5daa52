-- What is promised of a run in several calls, document 02, CR 8: it ends as one run, and no state that runs left is refused with 70.
-- "H7's sum is claimed only for states that runs left", which are those of a `Series`.
use Rattle.std.specs.Prelude.{ℕ, ◌<◌, List, [], ◌++◌, ◌≡◌, length, get_or, take}
use Rattle.instruction.specs.Form.{numbered}
use Rattle.instruction.specs.declared.QuadSamples.{QuadSamples}
use Rattle.instruction.specs.declared.Refusal.{Refusal}
use Rattle.instruction.specs.declared.Rules.{Rules}
use Rattle.dispatch.specs.Engines.{engine_count}
use Rattle.jumps.specs.State.{Fixed, fixed_by}
use Rattle.jumps.specs.Lent.{Traced, Leaves, state_in}
use Rattle.jumps.specs.declared.Arrays.{Arrays}
use Rattle.jumps.specs.declared.Core.{Core}
use Rattle.jumps.specs.declared.State.{State}
use Rattle.jumps.specs.declared.Stepped.{Stepped}
use Rattle.rehearsal.specs.Run.{run_of, rehearse, Rehearsed}
use Rattle.demands.specs.Run.{played_on, awaited_on, sum_over}
use Rattle.demands.specs.Answers.{One, OneTold}
use Rattle.paused.specs.Pause.{fresh_paused, call_number, call_refused, Went, called, Called}
use Rattle.paused.specs.declared.BadCall.{BadCall}
use Rattle.paused.specs.declared.Paused.{Paused}
use Rattle.paused.specs.declared.Pace.{Pace}
use Rattle.paused.specs.declared.Pace.TheVariants.{On}

-- ---- a series of calls

-- "With the same words, waveform length, firmware and trace buffer": what stays from call to call, the trace as it was lent first
pub record Lesson : Type 0 where
  pub words : List ℕ
  pub wave : QuadSamples
  pub rules : Rules
  pub before : List ℕ

-- what a call gives: messages "as the whole list so far", "triggers and budget as totals so far"
pub record Given : Type 0 where
  pub pace : Pace
  pub messages : List ℕ
  pub triggers : ℕ
  pub budget : ℕ

-- what is fixed in a call that is lent this trace
abbrev pub fixed_for : Lesson → List ℕ → Given → Fixed
fixed_for l trace g = fixed_by l.words g.messages (length trace) (record { wave = l.wave; rules = l.rules; triggers = g.triggers })

-- what a call is refused for, and 0 where it is taken
abbrev pub refused_for : Lesson → Given → Paused → List ℕ → ℕ
refused_for l g p t = call_refused g.budget (fixed_for l t g) p

-- a call ends so, and leaves that state and that trace
abbrev pub Calls : Lesson → Given → Paused → List ℕ → Refusal → Paused → List ℕ → Type 0
Calls l g p t end p' t' = Called (called g.pace g.budget (fixed_for l t g) p) p t end p' t'

-- calls from the fresh state on: the messages of the last one that was not refused, what the host holds, and the trace
pub data Series (l : Lesson) : List ℕ → Paused → List ℕ → Type 0 where
  fresh : Series l [] fresh_paused l.before
  -- refused calls among them, whatever they gave
  refused : {messages : List ℕ} {p : Paused} {t : List ℕ} → Series l messages p t
      → (g : Given) → (refused_for l g p t ≡ 0 → ⊥)
      → (end : Refusal) (p' : Paused) (t' : List ℕ) → Calls l g p t end p' t' → Series l messages p' t'
  -- "Messages come as the whole list so far, the earlier ones unchanged"
  taken : {messages : List ℕ} {p : Paused} {t : List ℕ} → Series l messages p t
      → (g : Given) (added : List ℕ) → g.messages ≡ messages ++ added → refused_for l g p t ≡ 0
      → (end : Refusal) (p' : Paused) (t' : List ℕ) → Calls l g p t end p' t' → Series l g.messages p' t'

-- ---- what is promised of it

-- "a run in several calls from the fresh state, the last a go-on that is not refused, ends as one run with the last call's budget, messages and triggers": the contract of `run`, every field and the trace
abbrev pub CallsAreOneRun : Type 0
CallsAreOneRun =
    (l : Lesson) (messages : List ℕ) (p : Paused) (t : List ℕ) → Series l messages p t
    → (g : Given) (added : List ℕ) → g.pace ≡ On → g.messages ≡ messages ++ added → refused_for l g p t ≡ 0
    → (end : Refusal) (p' : Paused) (t' : List ℕ) → Calls l g p t end p' t'
    → Rehearsed (rehearse g.budget (fixed_for l l.before g)) l.before t' (record { end = end; state = p'.state })

-- "A state that no run could leave is judged by its fields": none that a run left is refused for them
abbrev pub LeftByRuns : Type 0
LeftByRuns =
    (l : Lesson) (messages : List ℕ) (p : Paused) (t : List ℕ) → Series l messages p t
    → (g : Given) (added : List ℕ) → g.messages ≡ messages ++ added → refused_for l g p t ≡ 70 → ⊥

-- H7: "Each total equals the sum taken over the trace.", as far as it is written
abbrev pub SeriesTotals : Type 0
SeriesTotals =
    (l : Lesson) (messages : List ℕ) (p : Paused) (t : List ℕ) → Series l messages p t
    → (k : ℕ) → k < engine_count → get_or p.state.totals k 0 ≡ sum_over (played_on k) (take p.state.core.sent t)

-- H6: each wait count is the one taken over it
abbrev pub SeriesWaits : Type 0
SeriesWaits =
    (l : Lesson) (messages : List ℕ) (p : Paused) (t : List ℕ) → Series l messages p t
    → (k : ℕ) → k < engine_count → get_or p.state.waits k 0 ≡ sum_over (awaited_on k) (take p.state.core.sent t)

-- a fault is an end and no refusal, and a go-on after it gives it again; so does one after any other end
abbrev pub GivesAgain : Type 0
GivesAgain =
    (l : Lesson) (messages : List ℕ) (p : Paused) (t : List ℕ) → Series l messages p t
    → (g : Given) (added : List ℕ) → g.pace ≡ On → g.messages ≡ messages ++ added → refused_for l g p t ≡ 0
    → (end : Refusal) (p' : Paused) (t' : List ℕ) → Calls l g p t end p' t'
    → (end'' : Refusal) (p'' : Paused) (t'' : List ℕ) → Calls l g p' t' end'' p'' t''
    → (end'' ≡ end) × (p'' ≡ p') × (t'' ≡ t')

-- ---- what is promised of one call, of any state

-- "nothing is changed by them"
abbrev pub RefusedChangesNothing : Type 0
RefusedChangesNothing =
    (pace : Pace) (budget : ℕ) (e : Fixed) (p : Paused) (before : List ℕ) → (call_refused budget e p ≡ 0 → ⊥)
    → (end : Refusal) (p' : Paused) (after : List ℕ) → Called (called pace budget e p) p before end p' after
    → (end ≡ numbered (call_refused budget e p)) × (p' ≡ p) × (after ≡ before)

-- the contract leaves one answer, one state and one trace
abbrev pub OneCalled : Type 0
OneCalled = (w : Went) (p : Paused) (before : List ℕ) → One (Refusal × Paused × List ℕ) (λ r. Called w p before r.0 r.1 r.2)

-- and so does that of the loop, with the arrays and the trace lent to it
abbrev pub OneRunFrom : Type 0
OneRunFrom =
    (budget : ℕ) (e : Fixed) (s : State) (before : List ℕ)
    → One (Stepped × List ℕ × List ℕ × List ℕ × List ℕ × List ℕ) (λ r. Traced (run_of budget e s) s.core.sent before r.1 r.0 r.2 r.3 r.4 r.5)

-- and with those arrays lent as one
abbrev pub OneRunFromLent : Type 0
OneRunFromLent =
    (budget : ℕ) (e : Fixed) (s : Core) (arrays : Arrays) (before : List ℕ)
    → One (Stepped × List ℕ × Arrays) (λ r. Leaves (run_of budget e (state_in s arrays)) s.sent before r.1 r.0 r.2)

-- what a call is refused for, told by its number
abbrev pub OneBadCall : Type 0
OneBadCall = OneTold BadCall call_number
