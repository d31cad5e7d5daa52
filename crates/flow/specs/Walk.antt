-- The walk, H8: the places that are reached, and the faults of flow. "A place is (address, depth 0 to 16, condition held or not)."
-- The depth limit is a parameter; check hands in document 01's constant.
use Rattle.std.specs.Prelude.{ℕ, ◌+◌, ◌*◌, ◌/◌, ◌%◌, ◌^◌, ◌<◌, ◌≡◌, Bool, true, false, List, length}
use Rattle.instruction.specs.declared.WordAddress.{WordAddress}
use Rattle.flow.specs.Move.{move_at}
use Rattle.flow.specs.declared.Move.{Move}
use Rattle.flow.specs.declared.Move.TheVariants.{Other, Compare, Jump, Enter, Leave, Loop}

-- GOTO, CALL and RETURN, which use a condition and clear it
pub data UsesCondition : Move → Type 0 where
  goto : {t : WordAddress} → UsesCondition (Jump t)
  call : {t : WordAddress} → UsesCondition (Enter t)
  ret : UsesCondition Leave

pub data Reached (limit : ℕ) (words : List ℕ) : ℕ → ℕ → Bool → Type 0 where
  -- "(0, 0, no) is reached."
  start : Reached limit words 0 0 false
  -- "CMP reaches the next address with a condition held."
  compare : {a d : ℕ} {c : Bool} → Reached limit words a d c → a < length words → move_at words a ≡ Compare → Reached limit words (a + 1) d true
  -- "GOTO reaches its target"
  jump : {a d : ℕ} {c : Bool} {t : WordAddress} → Reached limit words a d c → a < length words → move_at words a ≡ Jump t → Reached limit words t.0 d false
  -- "CALL its target one deeper"
  enter : {a d : ℕ} {c : Bool} {t : WordAddress} → Reached limit words a d c → a < length words → move_at words a ≡ Enter t → d < limit → Reached limit words t.0 (d + 1) false
  -- "RETURN at depth d > 0 reaches, at d-1, the address after every CALL reached at depth d-1"
  leave : {a d : ℕ} {c : Bool} {b : ℕ} {h : Bool} {t : WordAddress} → Reached limit words a (d + 1) c → a < length words → move_at words a ≡ Leave
      → Reached limit words b d h → b < length words → move_at words b ≡ Enter t → Reached limit words (b + 1) d false
  -- "all three without a condition, and if one was held also the next address, same depth, without it"
  passed : {a d : ℕ} → Reached limit words a d true → a < length words → UsesCondition (move_at words a) → Reached limit words (a + 1) d false
  -- "REPEAT reaches target and next; .. these keep the condition."
  loop : {a d : ℕ} {c : Bool} {t : WordAddress} → Reached limit words a d c → a < length words → move_at words a ≡ Loop t → Reached limit words t.0 d c
  looped : {a d : ℕ} {c : Bool} {t : WordAddress} → Reached limit words a d c → a < length words → move_at words a ≡ Loop t → Reached limit words (a + 1) d c
  -- "other words the next"
  other : {a d : ℕ} {c : Bool} → Reached limit words a d c → a < length words → move_at words a ≡ Other → Reached limit words (a + 1) d c

-- the faults, each with its number and its address
pub data Fault (limit : ℕ) (words : List ℕ) : ℕ → ℕ → Type 0 where
  -- "Reaching address n is fault 30."
  past : {d : ℕ} {c : Bool} → Reached limit words (length words) d c → Fault limit words 30 (length words)
  -- "or fault 31 at depth 16"
  full : {a : ℕ} {c : Bool} {t : WordAddress} → Reached limit words a limit c → a < length words → move_at words a ≡ Enter t → Fault limit words 31 a
  -- "or fault 32 at depth 0"
  empty : {a : ℕ} {c : Bool} → Reached limit words a 0 c → a < length words → move_at words a ≡ Leave → Fault limit words 32 a

-- a mark of 64 bits has room for depths 0 to 31
abbrev pub deepest : ℕ
deepest = 31

-- bit k of a mark is set
abbrev pub On : ℕ → ℕ → Type 0
On k mark = mark / 2 ^ k % 2 ≡ 1

-- "Bit 2d + c of mark a says that (a, d, c) is reached, c being 1 for held."
abbrev pub place : ℕ → Bool → ℕ
place d false = 2 * d
place d true = 2 * d + 1
