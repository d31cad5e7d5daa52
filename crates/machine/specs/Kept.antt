-- What every state of a run keeps, so that no sum overflows and no index is out of range: what the step asks of its state.
-- It holds of the fresh state and is kept by every step (proofs/Kept.antt). Last, what only the code asks of a word.
use Rattle.std.specs.Prelude.{ℕ, ◌-◌, ◌^◌, ◌≤◌, ◌<◌, Bool, true, false, List, eqb, length}
use Rattle.instruction.specs.Bits.{pick}
use Rattle.instruction.specs.declared.Instruction.{Instruction}
use Rattle.instruction.specs.declared.Body.{Body}
use Rattle.instruction.specs.declared.Body.TheVariants.{Waveform, Marker, Wait, LoadRepeat, Repeat, Cmp, Goto, Call, Return, Sync, Modulator, LoadCmp, Prefetch, Noop}
use Rattle.sequence.specs.Bounds.{stack_depth, budget_limit, group_size}
use Rattle.sequence.specs.Placing.{placing_of}
use Rattle.dispatch.specs.Engines.{AllLe, Counted}
use Rattle.jumps.specs.State.{Fixed, Did, fixed_by}
use Rattle.jumps.specs.Lent.{state_in, Leaves}
use Rattle.jumps.specs.Asked.{CanHold}
use Rattle.jumps.specs.declared.Core.{Core}
use Rattle.jumps.specs.declared.Arrays.{Arrays}
use Rattle.jumps.specs.declared.State.{State}
use Rattle.jumps.specs.declared.Setting.{Setting}
use Rattle.jumps.specs.declared.Stepped.{Stepped}
use Rattle.machine.specs.Step.{breaks_group}

pub record Good (e : Fixed) (s : State) : Type 0 where
  pub address : s.core.address.0 ≤ length e.words
  pub held : s.core.held < group_size
  pub behind : s.core.held ≤ s.core.address.0
  pub counted : s.core.held ≤ s.core.steps
  pub sent : s.core.sent ≤ e.room
  pub depth : s.core.depth ≤ stack_depth
  pub returns : AllLe (length e.words) s.returns
  pub counts : Counted (s.core.steps - s.core.held) s.waits s.totals

-- a step can be taken: one more still counts
pub record Ready (e : Fixed) (s : State) : Type 0 where
  pub good : Good e s
  pub steps : s.core.steps < budget_limit

-- and there is a word to take
pub record At (e : Fixed) (s : State) : Type 0 where
  pub ready : Ready e s
  pub inside : s.core.address.0 < length e.words

-- a group that ends at the address can go out
pub record Sends (words : List ℕ) (room : ℕ) (c : Core) (ws ts : List ℕ) : Type 0 where
  pub holds : CanHold c
  pub inside : c.address.0 < length words
  pub behind : c.held ≤ c.address.0
  pub sent : c.sent ≤ room
  pub engines : Counted (2 ^ 30) ws ts

-- the words that go out, at once or later: engine words, WAIT and SYNC
abbrev pub goes_out : Body → Bool
goes_out (Waveform f) = true
goes_out (Marker f) = true
goes_out Wait = true
goes_out (LoadRepeat n) = false
goes_out (Repeat a) = false
goes_out (Cmp x) = false
goes_out (Goto a) = false
goes_out (Call a) = false
goes_out (Return p) = false
goes_out Sync = true
goes_out (Modulator f) = true
goes_out (LoadCmp p) = false
goes_out (Prefetch a) = false
goes_out Noop = false

-- 20 and 21, then 22, of an instruction that comes while a group is held; else 0
abbrev pub group_refused : ℕ → Instruction → ℕ → ℕ → ℕ
group_refused held i n wave =
    pick (eqb held 0) 0
    (pick (eqb (placing_of wave n i.body) 0) (pick (breaks_group held i.write i.body) 22 0) (placing_of wave n i.body))

-- what is left of what is lent by a function that takes no message, whatever these are
abbrev pub Outward : (Fixed → State → Did) → List ℕ → List ℕ → List ℕ → Core → Setting → Stepped → Arrays → Arrays → Type 0
Outward did words before after s setting r arrays arrays' =
    (messages : List ℕ) → Leaves (did (fixed_by words messages (length before) setting) (state_in s arrays)) s.sent before after r arrays'
