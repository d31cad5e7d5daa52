-- A run's state as the numbers that C holds: 0 address, 1 steps, 2 messages used, 3 trace length, 4 to 9 wait counts, 10 to 15 totals, 16 repeat counter, 17 register,
-- 18 condition, 19 held, 20 depth, 21 to 36 stack addresses, 37 to 52 stack counters; of a run that pauses also 53 last time's budget and 54 last time's triggers.
use Rattle.std.specs.Prelude.{ℕ, zero, suc, List, [], ◌∷◌, ◌++◌, eqb, get_or}
use Rattle.instruction.specs.Bits.{pick}
use Rattle.sequence.specs.Bounds.{stack_depth}
use Rattle.dispatch.specs.Engines.{engine_count}
use Rattle.jumps.specs.declared.Condition.{Condition}
use Rattle.jumps.specs.declared.Condition.TheVariants.{Absent, Fails, Holds}
use Rattle.jumps.specs.declared.State.{State}
use Rattle.paused.specs.declared.Paused.{Paused}

-- ---- laid down

-- "condition (0, 1, 2 ..)": none, false, true
abbrev pub condition_of : Condition → ℕ
condition_of Absent = 0
condition_of Fails = 1
condition_of Holds = 2

-- 0 to 52
abbrev pub numbers_of : State → List ℕ
numbers_of s =
    let c = s.core in
    (c.address.0 ∷ c.steps ∷ c.used ∷ c.sent ∷ [])
    ++ (s.waits ++ (s.totals
    ++ ((c.counter ∷ c.register ∷ condition_of c.condition ∷ c.held ∷ c.depth ∷ [])
    ++ (s.returns ++ s.counters))))

-- 0 to 54
abbrev pub held_numbers : Paused → List ℕ
held_numbers p = numbers_of p.state ++ (p.budget ∷ p.triggers ∷ [])

-- ---- taken up

-- n numbers, from place k on
abbrev pub numbers_at : ℕ → ℕ → List ℕ → List ℕ
numbers_at k zero l = []
numbers_at k (suc n) l = get_or l k 0 ∷ numbers_at (suc k) n l

-- the condition that a number stands for, of those that are one
abbrev pub condition_in : ℕ → Condition
condition_in n = pick (eqb n 0) Absent (pick (eqb n 1) Fails Holds)

abbrev pub held_with : Condition → List ℕ → Paused
held_with condition l = record {
  state = record {
    core = record {
      address = record { 0 = get_or l 0 0 };
      steps = get_or l 1 0;
      used = get_or l 2 0;
      sent = get_or l 3 0;
      counter = get_or l 16 0;
      register = get_or l 17 0;
      condition = condition;
      held = get_or l 19 0;
      depth = get_or l 20 0;
    };
    returns = numbers_at 21 stack_depth l;
    counters = numbers_at 37 stack_depth l;
    waits = numbers_at 4 engine_count l;
    totals = numbers_at 10 engine_count l;
  };
  budget = get_or l 53 0;
  triggers = get_or l 54 0;
}

abbrev pub held_in : List ℕ → Paused
held_in l = held_with (condition_in (get_or l 18 0)) l
