-- What changes the state without dispatch, as document 01 gives it: flow, messages, and a word that is held.
-- `call_of`, `return_of` and `message_of` say how the step ends too; the others move the core of a step that goes on.
use Rattle.std.specs.Prelude.{ℕ, ◌+◌, ◌-◌, Bool, true, false, not, List, ltb, eqb, length, get_or, set}
use Rattle.instruction.specs.Bits.{pick}
use Rattle.instruction.specs.declared.Comparison.{Comparison}
use Rattle.sequence.specs.Bounds.{stack_depth}
use Rattle.jumps.specs.State.{Did, state_of, with_count, with_message, with_sent, with_counter, with_condition, with_depth, with_core, stop, moves}
use Rattle.jumps.specs.declared.Condition.{Condition}
use Rattle.jumps.specs.declared.Condition.TheVariants.{Absent, Fails, Holds}
use Rattle.jumps.specs.declared.Core.{Core}
use Rattle.jumps.specs.declared.State.{State}

-- the step is counted, and goes to an address, or to the next one
abbrev pub goes : ℕ → Core → Core
goes a c = with_count a (c.steps + 1) c

abbrev pub nexts : Core → Core
nexts c = goes (c.address.0 + 1) c

-- ---- flow

-- H3: "REPEAT with counter 0 goes on and leaves 0; otherwise lowers it by one and jumps."
abbrev pub repeat_of : Core → ℕ → Core
repeat_of c a = pick (eqb c.counter 0) (nexts c) (goes a (with_counter (c.counter - 1) c))

-- H4: "CMP compares register (left) with mask now and leaves a condition, true or false"; code "0 =, 1 ≠, 2 >, 3 <"
abbrev pub compares : ℕ → ℕ → ℕ → Bool
compares code register mask =
    pick (eqb code 0) (eqb register mask)
    (pick (eqb code 1) (not (eqb register mask))
    (pick (eqb code 2) (ltb mask register)
    (ltb register mask)))

abbrev pub compare_of : Core → Comparison → Core
compare_of c x = nexts (with_condition (pick (compares x.code c.register x.mask) Holds Fails) c)

-- H4: "false means go on to the next address. Without one they always act."
abbrev pub acts : Condition → Bool
acts Absent = true
acts Fails = false
acts Holds = true

-- H4: "The next GOTO, CALL or RETURN executed uses it and clears it"
abbrev pub cleared : Core → Core
cleared c = with_condition Absent c

abbrev pub goto_of : Core → ℕ → Core
goto_of c a = pick (acts c.condition) (goes a (cleared c)) (nexts (cleared c))

-- H5: "CALL pushes its own address + 1 and the repeat counter; the counter itself stays."
abbrev pub pushed : State → ℕ → State
pushed s a =
    state_of (goes a (cleared (with_depth (s.core.depth + 1) s.core)))
    (set s.returns s.core.depth (s.core.address.0 + 1)) (set s.counters s.core.depth s.core.counter) s.waits s.totals

-- "31 CALL taken with 16 on the stack"
unfoldable pub call_of : State → ℕ → Did
call_of s a =
    pick (acts s.core.condition)
    (pick (ltb s.core.depth stack_depth) (moves (pushed s a)) (stop 31 s))
    (moves (with_core (nexts (cleared s.core)) s))

-- H5: "RETURN pops both"; unused entries of the stack are zero
abbrev pub popped : State → ℕ → State
popped s top =
    state_of (goes (get_or s.returns top 0) (cleared (with_depth top (with_counter (get_or s.counters top 0) s.core))))
    (set s.returns top 0) (set s.counters top 0) s.waits s.totals

-- "32 RETURN taken with none"
unfoldable pub return_of : State → Did
return_of s =
    pick (acts s.core.condition)
    (pick (ltb 0 s.core.depth) (moves (popped s (s.core.depth - 1))) (stop 32 s))
    (moves (with_core (nexts (cleared s.core)) s))

-- "LOAD_CMP takes the next message, or ends with 42."
unfoldable pub message_of : List ℕ → State → Did
message_of messages s =
    pick (ltb s.core.used (length messages))
    (moves (with_core (nexts (with_message (s.core.used + 1) (get_or messages s.core.used 0) s.core)) s))
    (stop 42 s)

-- ---- dispatch

-- "One with its write flag low is held"
abbrev pub hold_of : Core → Core
hold_of c = nexts (with_sent c.sent (c.held + 1) c)
