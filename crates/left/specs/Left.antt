-- What is judged of a state that a host hands back, document 02, CR 8: "A state that no run could leave is judged by its fields".
-- Each line is one of the fields that it lists; what it does not list is kept and used as the number it is.
use Rattle.std.specs.Prelude.{ℕ, ◌-◌, ◌*◌, ◌^◌, Bool, true, false, not, ◌&&◌, List, [], ◌∷◌, ltb, eqb, leb, length, drop}
use Rattle.reader.specs.Reading.{Reading, reading_of}
use Rattle.std.specs.declared.result.Result.TheVariants.{Ok, Err}
use Rattle.sequence.specs.Bounds.{stack_depth, group_size}
use Rattle.sequence.specs.Placing.{is_engine, placing_of}
use Rattle.dispatch.specs.Trace.{part}
use Rattle.jumps.specs.State.{Fixed}
use Rattle.jumps.specs.declared.Core.{Core}
use Rattle.jumps.specs.declared.State.{State}
use Rattle.machine.specs.Step.{any_above}

-- "stack addresses at most n and unused entries zero"
unfoldable pub stack_fits : ℕ → ℕ → List ℕ → List ℕ → Bool
stack_fits n depth returns counters =
    not (any_above n returns)
    && not (any_above 0 (drop depth returns))
    && not (any_above 0 (drop depth counters))

-- "low engine words .. that pass form and 20"
abbrev pub can_be_held : Fixed → Reading → Bool
can_be_held e (Ok i) = is_engine i.body && eqb i.write 0 && eqb (placing_of e.setting.wave.0 (length e.words) i.body) 0
can_be_held e (Err r) = false

-- each of these words is one
abbrev pub can_all_be_held : Fixed → List ℕ → Bool
can_all_be_held e [] = true
can_all_be_held e (word ∷ words) = can_be_held e (reading_of e.setting.rules word) && can_all_be_held e words

-- "at most seven held and no more than steps, these being low engine words right below the address that pass form and 20"
unfoldable pub group_fits : Fixed → Core → Bool
group_fits e c =
    ltb c.held group_size
    && leb c.held c.steps
    && leb c.held c.address.0
    && can_all_be_held e (part (c.address.0 - c.held) c.held e.words)

-- "wait counts at most steps less held, totals at most 2^32 times that"
unfoldable pub counts_fit : ℕ → List ℕ → List ℕ → Bool
counts_fit sent waits totals =
    not (any_above sent waits)
    && not (any_above (sent * 2 ^ 32) totals)

-- "address at most n, depth at most 16", "messages used within the list, trace length within the buffer, steps within last time's budget"
unfoldable pub core_fits : Fixed → ℕ → Core → Bool
core_fits e budget c =
    leb c.address.0 (length e.words)
    && leb c.depth stack_depth
    && leb c.used (length e.messages)
    && leb c.sent e.room
    && leb c.steps budget

-- all that is judged, with last time's budget
unfoldable pub could_be_left : Fixed → ℕ → State → Bool
could_be_left e budget s =
    core_fits e budget s.core
    && stack_fits (length e.words) s.core.depth s.returns s.counters
    && group_fits e s.core
    && counts_fit (s.core.steps - s.core.held) s.waits s.totals
