-- The state of a run, what stays fixed in it, and what a step did. Document 01, "One step".
-- antt has no record update, so each field of the core has a function that sets it.
use Rattle.std.specs.Prelude.{ℕ, List, [], length, replicate}
use Rattle.instruction.specs.Form.{numbered}
use Rattle.instruction.specs.declared.Refusal.{Refusal}
use Rattle.sequence.specs.Bounds.{stack_depth}
use Rattle.dispatch.specs.Engines.{engine_count}
use Rattle.jumps.specs.declared.Condition.{Condition}
use Rattle.jumps.specs.declared.Condition.TheVariants.{Absent}
use Rattle.jumps.specs.declared.Core.{Core}
use Rattle.jumps.specs.declared.Arrays.{Arrays}
use Rattle.jumps.specs.declared.State.{State}
use Rattle.jumps.specs.declared.Setting.{Setting}
use Rattle.jumps.specs.declared.Stepped.{Stepped}

-- what stays the same in a run: the words, the messages, the room in the trace, and the setting (W, the rules that words are read by, and triggers)
pub record Fixed : Type 0 where
  pub words : List ℕ
  pub messages : List ℕ
  pub room : ℕ
  pub setting : Setting

abbrev pub fixed_by : List ℕ → List ℕ → ℕ → Setting → Fixed
fixed_by words messages room setting = record { words = words; messages = messages; room = room; setting = setting }

-- the same of words, messages and a trace that are lent
abbrev pub fixed_in : List ℕ → List ℕ → List ℕ → Setting → Fixed
fixed_in words messages trace setting = fixed_by words messages (length trace) setting

abbrev pub state_of : Core → List ℕ → List ℕ → List ℕ → List ℕ → State
state_of core returns counters waits totals = record { core = core; returns = returns; counters = counters; waits = waits; totals = totals }

-- "Fresh state: address, comparison register and all counters 0, stack empty, no condition."
abbrev pub fresh_core : Core
fresh_core = record { address = record { 0 = 0 }; steps = 0; used = 0; sent = 0; counter = 0; register = 0; condition = Absent; held = 0; depth = 0 }

abbrev pub fresh : State
fresh = state_of fresh_core (replicate stack_depth 0) (replicate stack_depth 0) (replicate engine_count 0) (replicate engine_count 0)

abbrev pub fresh_arrays : Arrays
fresh_arrays = record { returns = fresh.returns; counters = fresh.counters; waits = fresh.waits; totals = fresh.totals }

-- ---- one field of the core anew

abbrev pub with_count : ℕ → ℕ → Core → Core
with_count address steps c = record { address = record { 0 = address }; steps = steps; used = c.used; sent = c.sent; counter = c.counter; register = c.register; condition = c.condition; held = c.held; depth = c.depth }

abbrev pub with_message : ℕ → ℕ → Core → Core
with_message used register c = record { address = c.address; steps = c.steps; used = used; sent = c.sent; counter = c.counter; register = register; condition = c.condition; held = c.held; depth = c.depth }

abbrev pub with_sent : ℕ → ℕ → Core → Core
with_sent sent held c = record { address = c.address; steps = c.steps; used = c.used; sent = sent; counter = c.counter; register = c.register; condition = c.condition; held = held; depth = c.depth }

abbrev pub with_counter : ℕ → Core → Core
with_counter counter c = record { address = c.address; steps = c.steps; used = c.used; sent = c.sent; counter = counter; register = c.register; condition = c.condition; held = c.held; depth = c.depth }

abbrev pub with_condition : Condition → Core → Core
with_condition condition c = record { address = c.address; steps = c.steps; used = c.used; sent = c.sent; counter = c.counter; register = c.register; condition = condition; held = c.held; depth = c.depth }

abbrev pub with_depth : ℕ → Core → Core
with_depth depth c = record { address = c.address; steps = c.steps; used = c.used; sent = c.sent; counter = c.counter; register = c.register; condition = c.condition; held = c.held; depth = depth }

abbrev pub with_core : Core → State → State
with_core core s = state_of core s.returns s.counters s.waits s.totals

-- ---- what a step did: how it ended (0: it moved), the state then, and the words that it dispatched

pub record Did : Type 0 where
  pub end : Refusal
  pub state : State
  pub out : List ℕ

-- "A step that stops so isn't counted and alters nothing."
abbrev pub refused_by : Refusal → State → Did
refused_by end s = record { end = end; state = s; out = [] }

abbrev pub stop : ℕ → State → Did
stop n s = refused_by (numbered n) s

abbrev pub moves : State → Did
moves s = record { end = numbered 0; state = s; out = [] }

-- the answer of a function that stops, or moves with the core alone
abbrev pub stopped : ℕ → Core → Stepped
stopped n c = record { end = numbered n; core = c }
