-- What the functions of the step promise of what is lent to them: the core by value, and its arrays.
-- It carries the code; who believes the run believes `Rehearsed` (crate rehearsal) and not these.
use Rattle.std.specs.Prelude.{ℕ, List, ◌≡◌}
use Rattle.buffer.specs.Put.{put}
use Rattle.jumps.specs.State.{Did, state_of}
use Rattle.jumps.specs.declared.Core.{Core}
use Rattle.jumps.specs.declared.Arrays.{Arrays}
use Rattle.jumps.specs.declared.State.{State}
use Rattle.jumps.specs.declared.Stepped.{Stepped}

-- what a function answers that did d, and what it leaves in the lent arrays
pub record Done (d : Did) (r : Stepped) (returns counters waits totals : List ℕ) : Type 0 where
  pub end : r.end ≡ d.end
  pub state : state_of r.core returns counters waits totals ≡ d.state

-- and in the trace, of which the first k words are kept
pub record Traced (d : Did) (k : ℕ) (before after : List ℕ) (r : Stepped) (returns counters waits totals : List ℕ) : Type 0 where
  pub done : Done d r returns counters waits totals
  pub trace : after ≡ put before k d.out

-- the state as lent: its core by value, and its arrays
abbrev pub state_in : Core → Arrays → State
state_in core a = state_of core a.returns a.counters a.waits a.totals

abbrev pub arrays_of : State → Arrays
arrays_of s = record { returns = s.returns; counters = s.counters; waits = s.waits; totals = s.totals }

-- what is left of it
abbrev pub DoneIn : Did → Stepped → Arrays → Type 0
DoneIn d r a = Done d r a.returns a.counters a.waits a.totals

-- and of the trace, before and after
abbrev pub Leaves : Did → ℕ → List ℕ → List ℕ → Stepped → Arrays → Type 0
Leaves d k before after r a = Traced d k before after r a.returns a.counters a.waits a.totals
