-- The trace: a list of words that is written into a lent buffer, whose tail stays.
-- "each group into the part of the lent trace that starts after the last dispatched word"
use Rattle.std.specs.Prelude.{ℕ, ◌+◌, ◌^◌, ◌≤◌, ◌≡◌, List, length, take, drop}
use Rattle.buffer.specs.Put.{put}
use Rattle.sequence.specs.Bounds.{group_size}
use Rattle.dispatch.specs.Engines.{waits_over, totals_over, Counted}

-- n words of a sequence, from an address on
abbrev pub part : ℕ → ℕ → List ℕ → List ℕ
part from n words = take n (drop from words)

-- words are dispatched: they stand in the trace after the first k, and the engines have counted them
pub record Dispatched (out : List ℕ) (k : ℕ) (tr ws ts tr' ws' ts' : List ℕ) : Type 0 where
  pub trace : tr' ≡ put tr k out
  pub waits : ws' ≡ waits_over ws out
  pub totals : ts' ≡ totals_over ts out

-- the engines have counted words
pub record CountedAll (out : List ℕ) (ws ts ws' ts' : List ℕ) : Type 0 where
  pub waits : ws' ≡ waits_over ws out
  pub totals : ts' ≡ totals_over ts out

-- ---- what the dispatcher asks: no more words than a group has, room for them, and counts that cannot overflow

pub record CanCount (group : List ℕ) (ws ts : List ℕ) : Type 0 where
  pub size : length group ≤ group_size
  pub counts : Counted (2 ^ 30) ws ts

pub record CanDispatch (group : List ℕ) (room len : ℕ) (ws ts : List ℕ) : Type 0 where
  pub count : CanCount group ws ts
  pub fits : len + length group ≤ room
