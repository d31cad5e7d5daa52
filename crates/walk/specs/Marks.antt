-- What the marks say after the walk: a reader of the check believes these.
-- What its functions ask and promise on the way stands in Loops.antt.
use Rattle.std.specs.Prelude.{ℕ, ◌≤◌, ◌<◌, ◌≡◌, Bool, List, length, get_or}
use Rattle.flow.specs.Walk.{On, place, Reached}

-- below the words' length a bit is set exactly where its place is reached
pub record Exact (lim : ℕ) (ws ms : List ℕ) : Type 0 where
  pub sound : (a d : ℕ) (c : Bool) → a < length ws → On (place d c) (get_or ms a 0) → Reached lim ws a d c
  pub whole : (a d : ℕ) (c : Bool) → a < length ws → Reached lim ws a d c → On (place d c) (get_or ms a 0)

-- the walk: exact marks for the words, in a buffer as long as before, and the tail as it was
pub record Marked (lim : ℕ) (ws ms ns : List ℕ) : Type 0 where
  pub long : length ns ≡ length ms
  pub exact : Exact lim ws ns
  pub tail : (a : ℕ) → length ws ≤ a → get_or ns a 0 ≡ get_or ms a 0
