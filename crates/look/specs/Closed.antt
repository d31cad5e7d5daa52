-- When all that an address leads to is marked, and when its word faults: what a look at one address tells.
-- Both carry the walk's code; a reader of the check believes the walk's `Exact` and not these.
use Rattle.std.specs.Prelude.{ℕ, ◌+◌, ◌*◌, ◌/◌, ◌%◌, ◌^◌, ◌≤◌, ◌<◌, ◌≡◌, Bool, true, false, not, List, length, get_or, eqb}
use Rattle.std.specs.Int.Bits.{bit_or}
use Rattle.instruction.specs.Bits.{◌gives◌else◌}
use Rattle.sequence.specs.Bounds.{word_limit}
use Rattle.flow.specs.declared.Move.{Move}
use Rattle.flow.specs.declared.Move.TheVariants.{Other, Compare, Jump, Enter, Leave, Loop}
use Rattle.flow.specs.Masks.{bare_of, next_of, jump_of, to_of}
use Rattle.flow.specs.Move.{move_at}
use Rattle.flow.specs.Walk.{deepest}

-- the bits x are set at an address below n
abbrev pub HoldsAt : ℕ → List ℕ → ℕ → ℕ → Type 0
HoldsAt n ms i x = i < n → bit_or (get_or ms i 0) x ≡ get_or ms i 0

-- the depths of a RETURN; any other word has none
abbrev pub back_in : Move → ℕ → ℕ
back_in Other m = 0
back_in Compare m = 0
back_in (Jump t) m = 0
back_in (Enter t) m = 0
back_in Leave m = bare_of m
back_in (Loop t) m = 0

-- all that address a leads to is marked, and its depths are known where it is a RETURN
pub record ClosedAt (lim : ℕ) (ws : List ℕ) (r : ℕ) (ms : List ℕ) (a : ℕ) : Type 0 where
  pub met : bit_or r (back_in (move_at ws a) (get_or ms a 0)) ≡ r
  pub next : HoldsAt (length ws) ms (a + 1) (next_of (move_at ws a) (get_or ms a 0) r)
  pub jump : HoldsAt (length ws) ms (to_of (move_at ws a)) (jump_of lim (move_at ws a) (get_or ms a 0))

-- a test tells whether something holds
pub data Tells (P : Type 0) : Bool → Type 0 where
  holds : P → Tells P true
  fails : (P → ⊥) → Tells P false

-- marks for every word, room for hints, and depths that have their bits
pub record MarksFit (ws ms : List ℕ) (len lim : ℕ) : Type 0 where
  pub marks : length ws ≤ length ms
  pub room : len ≤ word_limit
  pub limit : lim ≤ deepest

-- 31 or 32 where the mark of a word has the depth at which it faults, else 0
abbrev pub fault_in : ℕ → Move → ℕ → ℕ
fault_in lim Other m = 0
fault_in lim Compare m = 0
fault_in lim (Jump t) m = 0
fault_in lim (Enter t) m = not (eqb (m / 2 ^ (2 * lim) % 4) 0) gives 31 else 0
fault_in lim Leave m = not (eqb (m % 4) 0) gives 32 else 0
fault_in lim (Loop t) m = 0

-- address a is closed, and its mark has no fault
pub record CleanAt (lim : ℕ) (ws : List ℕ) (r : ℕ) (ms : List ℕ) (a : ℕ) : Type 0 where
  pub closed : ClosedAt lim ws r ms a
  pub good : fault_in lim (move_at ws a) (get_or ms a 0) ≡ 0
