-- Labels packed into numbers, two for each, and a table that may find them: slots by a hash, and below each a tree by their bits.
-- It carries the code, and needs no belief.
use Rattle.std.specs.Prelude.{ℕ, zero, suc, ◌+◌, ◌*◌, ◌/◌, ◌%◌, ◌≤◌, ◌<◌, ◌≡◌, Bool, true, ◌&&◌, List, [], ◌∷◌, eqb, leb, length, get_or, take, drop}
use Rattle.instruction.specs.Bits.{pick}
use Rattle.label.specs.Label.{is_label}
use Rattle.label.specs.First.{IsDouble}
use Rattle.label.specs.declared.Key.{Key}

-- ---- a label's numbers

-- bytes in each
abbrev pub half : ℕ
half = 8

-- bytes as a number, the first lowest
abbrev pub value_of : List ℕ → ℕ
value_of [] = 0
value_of (b ∷ bs) = b + 256 * value_of bs

abbrev pub key_of : List ℕ → Key
key_of name = record { lo = value_of (take half name); hi = value_of (drop half name) }

-- ---- the numbers of many

-- three for each: those of the label, and what it means
abbrev pub key_at : List ℕ → ℕ → Key
key_at keys j = record { lo = get_or keys (3 * j) 0; hi = get_or keys (3 * j + 1) 0 }

abbrev pub means_at : List ℕ → ℕ → ℕ
means_at keys j = get_or keys (3 * j + 2) 0

abbrev pub count : List ℕ → ℕ
count keys = length keys / 3

abbrev pub same_key : Key → Key → Bool
same_key a b = eqb a.lo b.lo && eqb a.hi b.hi

-- numbers that hold labels
pub record Holds (labels : List (List ℕ)) (keys : List ℕ) : Type 0 where
  pub many : count keys ≡ length labels
  pub each : (j : ℕ) → j < length labels → key_at keys j ≡ key_of (get_or labels j [])
  pub shaped : (j : ℕ) → j < length labels → is_label (get_or labels j []) ≡ true

-- ---- the table

-- what stands in a slot that no label has
abbrev pub empty : ℕ
empty = 4294967294

-- slots that a hash leads to
abbrev pub first_slots : ℕ
first_slots = 65536

-- steps down a tree
abbrev pub steps : ℕ
steps = 129

abbrev pub slot_of : Key → ℕ
slot_of k = (k.lo % 4294967291 * 2654435769 / 65536 + k.hi % 4294967279 * 2246822519 / 65536) % 65536

-- whether a way down ends: no label stands there, or this one
abbrev pub ends : List ℕ → Key → ℕ → Bool
ends keys k at = pick (leb (count keys) at) true (same_key (key_at keys at) k)

-- the slot below a label, by a bit
abbrev pub below : ℕ → ℕ → ℕ
below at bits = first_slots + 2 * at + bits % 2

-- at most so many steps down from a slot, by a bit of one number and the other in turn
unfoldable pub place_from : ℕ → List ℕ → List ℕ → Key → ℕ → ℕ → ℕ → ℕ
place_from zero keys table k bits others slot = slot
place_from (suc left) keys table k bits others slot =
    pick (ends keys k (get_or table slot empty)) slot (place_from left keys table k others (bits / 2) (below (get_or table slot empty) bits))

abbrev pub place_of : List ℕ → List ℕ → Key → ℕ
place_of keys table k = place_from steps keys table k k.lo k.hi (slot_of k)

-- a place where the label stands, else their number
abbrev pub hit : List ℕ → Key → ℕ → ℕ
hit keys k at = pick (leb (count keys) at) (count keys) (pick (same_key (key_at keys at) k) at (count keys))

abbrev pub seek_of : List ℕ → List ℕ → Key → ℕ
seek_of keys table k = hit keys k (get_or table (place_of keys table k) empty)

-- ---- the look

-- each label is found, no later than it stands
abbrev pub Looked : List ℕ → List ℕ → Type 0
Looked keys table = (j : ℕ) → j < count keys → seek_of keys table (key_at keys j) ≤ j

-- a double that is met before the one so far
abbrev pub sooner_of : ℕ → ℕ → ℕ → ℕ
sooner_of double at j = pick (leb j at) double (pick (leb double j) double j)

-- a table that is to be used, and the first label that stood before
pub record Seen (keys table : List ℕ) (double : ℕ) : Type 0 where
  pub looked : Looked keys table
  pub first : IsDouble (key_at keys) (count keys) double
