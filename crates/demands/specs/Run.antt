-- What a run promises, for every sequence, checked or not.
-- Demand 2: "down to the last dispatched word, counter and total". Demand 3: what was rehearsed is what the longer run starts with.
use Rattle.std.specs.Prelude.{◌≡◌, Bool, true, ◌||◌, List, [], ◌∷◌, ◌++◌, ℕ, zero, suc, ◌+◌, ◌≤◌, ◌<◌, eqb, length, get_or}
use Rattle.instruction.specs.Bits.{pick}
use Rattle.instruction.specs.Table.{code_of}
use Rattle.instruction.specs.Word.{spelled_by}
use Rattle.instruction.specs.declared.Instruction.{Instruction}
use Rattle.instruction.specs.declared.Rules.{Rules}
use Rattle.instruction.specs.declared.Body.{Body}
use Rattle.instruction.specs.declared.Body.TheVariants.{Wait, Sync}
use Rattle.reader.specs.Reading.{reading_of}
use Rattle.std.specs.declared.result.Result.TheVariants.{Ok}
use Rattle.sequence.specs.Bounds.{stack_depth, budget_limit}
use Rattle.sequence.specs.Placing.{is_engine}
use Rattle.dispatch.specs.Engines.{engine_count, engine_of, waits_for, plays_for}
use Rattle.jumps.specs.State.{Fixed}
use Rattle.jumps.specs.declared.State.{State}
use Rattle.machine.specs.Step.{step_of}
use Rattle.rehearsal.specs.Run.{onto, run_of, rehearse}

-- ---- prefix

-- "When messages are added at the end of the list, or triggers, room .. are raised"
pub record Extends (e e' : Fixed) : Type 0 where
  pub words : e'.words ≡ e.words
  pub wave : e'.setting.wave ≡ e.setting.wave
  pub rules : e'.setting.rules ≡ e.setting.rules
  pub added : List ℕ
  pub messages : e'.messages ≡ e.messages ++ added
  pub triggers : e.setting.triggers ≤ e'.setting.triggers
  pub room : e.room ≤ e'.room

-- "or .. budget are raised, the budget still allowed, all that was dispatched before still opens the list of what is dispatched now"
abbrev pub Prefix : Type 0
Prefix =
    (e e' : Fixed) (budget budget' : ℕ) → Extends e e' → budget ≤ budget' → budget' ≤ budget_limit
    → (more : List ℕ) × ((rehearse budget' e').out ≡ (rehearse budget e).out ++ more)

-- ---- the trace

-- "trace length": as many words as were dispatched
abbrev pub SentIsLength : Type 0
SentIsLength = (e : Fixed) (budget : ℕ) → (rehearse budget e).state.core.sent ≡ length (rehearse budget e).out

-- "Dispatch writes engine words, WAIT and SYNC as they stand into the trace"
abbrev pub is_dispatched : Body → Bool
is_dispatched b = is_engine b || eqb (code_of b) (code_of Wait) || eqb (code_of b) (code_of Sync)

-- a word has passed form, and what its fields spell, which the engines count, is one of those
pub record Reads (rules : Rules) (word : ℕ) : Type 0 where
  pub form : reading_of rules word ≡ Ok (spelled_by word)
  pub kind : is_dispatched (spelled_by word).body ≡ true

-- what holds of each word of a list
abbrev pub Every : (ℕ → Type 0) → List ℕ → Type 0
Every P [] = Unit {0}
Every P (word ∷ words) = P word × Every P words

abbrev pub TraceReads : Type 0
TraceReads = (e : Fixed) (budget : ℕ) → Every (Reads e.setting.rules) (rehearse budget e).out

-- ---- the stack

-- "stack with unused entries zero": those of its sixteen that are past the depth
pub record Stack (depth : ℕ) (entries : List ℕ) : Type 0 where
  pub size : length entries ≡ stack_depth
  pub unused : (i : ℕ) → depth ≤ i → get_or entries i 0 ≡ 0

-- return addresses, and the counters beside them
abbrev pub UnusedAreZero : Type 0
UnusedAreZero =
    (e : Fixed) (budget : ℕ)
    → Stack (rehearse budget e).state.core.depth (rehearse budget e).state.returns
    × Stack (rehearse budget e).state.core.depth (rehearse budget e).state.counters

-- ---- totals and waits

-- what a dispatched word adds to the total of engine k
abbrev pub played_on : ℕ → Instruction → ℕ
played_on k i = pick (eqb (engine_of i) k) (plays_for i.body) 0

-- what it adds to the wait count of engine k; "WAIT adds one to all six"
abbrev pub awaited_on : ℕ → Instruction → ℕ
awaited_on k i = pick (eqb (code_of i.body) (code_of Wait)) 1 (pick (eqb (engine_of i) k) (waits_for i.body) 0)

-- a number summed over the words of a trace
abbrev pub sum_over : (Instruction → ℕ) → List ℕ → ℕ
sum_over number [] = 0
sum_over number (w ∷ trace) = number (spelled_by w) + sum_over number trace

-- H7: "Each total equals the sum taken over the trace."
abbrev pub TotalsAreSums : Type 0
TotalsAreSums =
    (e : Fixed) (budget k : ℕ) → k < engine_count
    → get_or (rehearse budget e).state.totals k 0 ≡ sum_over (played_on k) (rehearse budget e).out

-- H6: each wait count is the one taken over the trace
abbrev pub WaitsAreCounts : Type 0
WaitsAreCounts =
    (e : Fixed) (budget k : ℕ) → k < engine_count
    → get_or (rehearse budget e).state.waits k 0 ≡ sum_over (awaited_on k) (rehearse budget e).out

-- ---- steps

-- "A step that stops so isn't counted and alters nothing."
abbrev pub StopsStill : Type 0
StopsStill =
    (e : Fixed) (s : State) → ((step_of e s).end.number ≡ 0 → ⊥)
    → ((step_of e s).state ≡ s) × ((step_of e s).out ≡ [])

-- how many steps of a run moved
unfoldable pub taken : ℕ → Fixed → State → ℕ
taken zero e s = 0
taken (suc budget) e s = pick (eqb (step_of e s).end.number 0) (1 + taken budget e (step_of e s).state) 0

-- the steps counted are the steps taken
abbrev pub StepsAreTaken : Type 0
StepsAreTaken = (e : Fixed) (s : State) (budget : ℕ) → (run_of budget e s).state.core.steps ≡ s.core.steps + taken budget e s

-- "demand 2 fixes the state for each budget": one step more of budget adds one step where the budget was spent, and else nothing
abbrev pub StepByStep : Type 0
StepByStep =
    (e : Fixed) (s : State) (budget : ℕ)
    → run_of (suc budget) e s ≡ pick (eqb (run_of budget e s).end.number 40) (onto (run_of budget e s).out (run_of 1 e (run_of budget e s).state)) (run_of budget e s)
