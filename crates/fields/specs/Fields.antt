-- Fields that are all numbers. Document 02, CR 1: "a number not plain decimal below 2^64".
-- The listing's reader and the block's ask for just so many of them.
use Rattle.std.specs.Prelude.{ℕ, ◌≡◌, Bool, true, ◌&&◌, List, [], ◌∷◌, map, eqb, length}
use Rattle.buffer.specs.Put.{put}
use Rattle.text.specs.Number.{value, is_number}

-- "a number not plain decimal below 2^64" is none of them
abbrev pub all_numbers : List (List ℕ) → Bool
all_numbers [] = true
all_numbers (f ∷ fs) = is_number f && all_numbers fs

-- so many fields and no more, each a number: told, and then laid from the front
pub record NumbersRead (count : ℕ) (fs : List (List ℕ)) (before after : List ℕ) (r : Bool) : Type 0 where
  pub test : r ≡ (eqb (length fs) count && all_numbers fs)
  pub values : r ≡ true → after ≡ put before 0 (map value fs)
