-- What the functions of the walk ask and promise: it carries the loops, and needs no belief.
-- Marks grow by what is reached; a last look finds that nothing is missing; `Settled` is what the walk promises.
use Rattle.std.specs.Prelude.{ℕ, ◌+◌, ◌-◌, ◌*◌, ◌^◌, ◌≤◌, ◌<◌, ◌≡◌, Bool, List, [], ◌∷◌, length, get_or, set}
use Rattle.std.specs.Int.Bits.{bit_or}
use Rattle.sequence.specs.Bounds.{word_limit}
use Rattle.flow.specs.declared.Move.{Move}
use Rattle.flow.specs.declared.Move.TheVariants.{Leave}
use Rattle.flow.specs.Move.{move_at}
use Rattle.flow.specs.Walk.{deepest, On, place, Reached}
use Rattle.look.specs.Closed.{HoldsAt, back_in, ClosedAt, MarksFit, fault_in, CleanAt}
use Rattle.walk.specs.Marks.{Marked}
use Rattle.walk.specs.declared.Trail.{Trail}

-- each set bit is reached
abbrev pub Sound : ℕ → List ℕ → List ℕ → Type 0
Sound lim ws ms = (a d : ℕ) (c : Bool) → a < length ws → On (place d c) (get_or ms a 0) → Reached lim ws a d c

-- each depth of a mask is one at which a RETURN is reached
abbrev pub Backs : ℕ → List ℕ → ℕ → Type 0
Backs lim ws r = (d : ℕ) → On (2 * d) r → (a : ℕ) × (c : Bool) × (a < length ws) × (move_at ws a ≡ Leave) × Reached lim ws a d c

-- a mask of depths has none of the bits between them
abbrev pub Depths : ℕ → Type 0
Depths r = (d : ℕ) → On (2 * d + 1) r → ⊥

-- what is left to set
unfoldable pub left : List ℕ → ℕ
left [] = 0
left (x ∷ xs) = (2 ^ 64 - x) + left xs

-- bits left to set in the marks and in the depths of RETURN
abbrev pub rest : List ℕ → ℕ → ℕ
rest ms r = left ms + (2 ^ 64 - r)

-- what falls with each visit: the bits left, and the hints held
abbrev pub load : List ℕ → ℕ → ℕ → ℕ
load ms r len = rest ms r * (word_limit + 1) + len

-- bits x put at an address: the marks after, and the mark there where a bit was set
pub data Placed (n : ℕ) (ms : List ℕ) (i x : ℕ) : List ℕ → ℕ → Type 0 where
  same : HoldsAt n ms i x → Placed n ms i x ms 0
  more : i < n → get_or ms i 0 < bit_or (get_or ms i 0) x → get_or ms i 0 < 2 ^ 64 → Placed n ms i x (set ms i (bit_or (get_or ms i 0) x)) (bit_or (get_or ms i 0) x)

-- the marks ns and the depths q of RETURN grew out of ms and r, by what is reached if those are
pub record Grew (lim : ℕ) (ws : List ℕ) (r : ℕ) (ms : List ℕ) (q : ℕ) (ns : List ℕ) : Type 0 where
  pub long : length ns ≡ length ms
  pub less : rest ns q ≤ rest ms r
  pub kept : (a k : ℕ) → On k (get_or ms a 0) → On k (get_or ns a 0)
  pub tail : (a : ℕ) → length ws ≤ a → get_or ns a 0 ≡ get_or ms a 0
  pub sound : Backs lim ws r → Sound lim ws ms → Sound lim ws ns
  pub backs : Backs lim ws r → Sound lim ws ms → Backs lim ws q
  pub depths : Depths r → Depths q

-- a visit of address a set a bit, or a was closed
pub data Turned (lim : ℕ) (ws : List ℕ) (r : ℕ) (ms : List ℕ) (q : ℕ) (ns : List ℕ) (a : ℕ) : Type 0 where
  moved : rest ns q < rest ms r → Turned lim ws r ms q ns a
  still : ClosedAt lim ws r ms a → Turned lim ws r ms q ns a

-- r has the depths at which a RETURN below n is marked
pub record ReturnsIn (ws ms : List ℕ) (n r : ℕ) : Type 0 where
  pub from : (d : ℕ) → On (2 * d) r → (a : ℕ) × (c : Bool) × (a < n) × (move_at ws a ≡ Leave) × On (place d c) (get_or ms a 0)
  pub whole : (a d : ℕ) (c : Bool) → d ≤ deepest → a < n → move_at ws a ≡ Leave → On (place d c) (get_or ms a 0) → On (2 * d) r

pub record Cleared (n : ℕ) (ms ns : List ℕ) : Type 0 where
  pub clear : (a : ℕ) → a < n → get_or ns a 0 ≡ 0
  pub tail : (a : ℕ) → n ≤ a → get_or ns a 0 ≡ get_or ms a 0

-- ---- what the functions ask and promise

-- no more hints and CALLs than there is room for
pub record Room (s : Trail) : Type 0 where
  pub hints : s.hints ≤ word_limit
  pub calls : s.calls ≤ word_limit

-- the depths of a RETURN are added to those known; that pays for the hints
pub record NoteDone (o : Move) (s t : Trail) : Type 0 where
  pub room : Room t
  pub back : t.back ≡ bit_or s.back (back_in o s.mark)
  pub rose : (t.back ≡ s.back → ⊥) → 2 ^ 64 - t.back < 2 ^ 64 - s.back
  pub fell : (2 ^ 64 - t.back) * (word_limit + 1) + t.hints ≤ (2 ^ 64 - s.back) * (word_limit + 1) + s.hints

pub record LeapDone (n : ℕ) (ms : List ℕ) (len i x : ℕ) (ns : List ℕ) (top : ℕ) : Type 0 where
  pub room : top ≤ word_limit
  pub put : (v : ℕ) × Placed n ms i x ns v
  pub fell : left ns * (word_limit + 1) + top ≤ left ms * (word_limit + 1) + len

-- each bit of a mark at hand is a bit of the mark of its address
abbrev pub Part : List ℕ → ℕ → ℕ → Type 0
Part ms a m = (k : ℕ) → On k m → On k (get_or ms a 0)

-- an address of a word, and a mark at hand that is part of its own
pub record AtHand (ws ms : List ℕ) (s : Trail) : Type 0 where
  pub below : s.at < length ws
  pub part : Part ms s.at s.mark

pub record CanVisit (ws ms : List ℕ) (lim : ℕ) (s : Trail) : Type 0 where
  pub marks : length ws ≤ length ms
  pub room : Room s
  pub limit : lim ≤ deepest
  pub hand : AtHand ws ms s

-- a bit was set at a word's address, of which a mark at hand is part
abbrev pub Ahead : List ℕ → ℕ → List ℕ → ℕ → List ℕ → ℕ → ℕ → Type 0
Ahead ws r ms q ns a m = (rest ns q < rest ms r) × (a < length ws) × Part ns a m

-- a visit of address a with mark m: the depths q and marks ns after it, with v put at the next address and w at the target t
pub record Visits (lim : ℕ) (ws : List ℕ) (r : ℕ) (ms : List ℕ) (a m q : ℕ) (ns : List ℕ) (v t w : ℕ) : Type 0 where
  pub grew : Grew lim ws r ms q ns
  pub turned : m ≡ get_or ms a 0 → Turned lim ws r ms q ns a
  pub next : (v ≡ 0 → ⊥) → Ahead ws r ms q ns (a + 1) v
  pub jump : (w ≡ 0 → ⊥) → Ahead ws r ms q ns t w

pub record VisitDone (lim : ℕ) (ws ms : List ℕ) (s : Trail) (ns : List ℕ) (t : Trail) : Type 0 where
  pub room : Room t
  pub grew : Grew lim ws s.back ms t.back ns
  pub turned : s.mark ≡ get_or ms s.at 0 → Turned lim ws s.back ms t.back ns s.at
  pub ahead : (t.mark ≡ 0 → ⊥) → Ahead ws s.back ms t.back ns t.at t.mark
  pub fell : load ns t.back t.hints ≤ load ms s.back s.hints

-- on where a bit was set, or to one of the hints, or to none
pub data TurnIs (n : ℕ) (ms : List ℕ) (s : Trail) : Trail → Type 0 where
  onward : (s.mark ≡ 0 → ⊥) → TurnIs n ms s s
  hint : {t : Trail} → Room t → t.back ≡ s.back → t.hints < s.hints → t.mark ≡ get_or ms t.at 0 → TurnIs n ms s t
  ended : {t : Trail} → Room t → t.back ≡ s.back → t.at ≡ n → TurnIs n ms s t

pub record FollowDone (lim : ℕ) (ws ms : List ℕ) (s : Trail) (ns : List ℕ) (t : Trail) : Type 0 where
  pub room : Room t
  pub grew : Grew lim ws s.back ms t.back ns
  pub turned : s.mark ≡ get_or ms s.at 0 → Turned lim ws s.back ms t.back ns s.at

-- at the start of following, or after a visit of the address it started from
pub data Since (lim : ℕ) (ws ms : List ℕ) (s : Trail) : List ℕ → Trail → Type 0 where
  fresh : Since lim ws ms s ms s
  since : {ns : List ℕ} {t : Trail} → FollowDone lim ws ms s ns t → Since lim ws ms s ns t

-- the first address that is not clean, or the words' end
pub record UncleanIs (lim : ℕ) (ws : List ℕ) (r : ℕ) (ms : List ℕ) (f : ℕ) : Type 0 where
  pub low : f ≤ length ws
  pub clean : (k : ℕ) → k < f → CleanAt lim ws r ms k
  pub here : f < length ws → CleanAt lim ws r ms f → ⊥

-- the first address below k at which a mark has a fault, or the words' end
pub record FirstFault (lim : ℕ) (ws ms : List ℕ) (k f : ℕ) : Type 0 where
  pub low : f ≤ length ws
  pub none : (b : ℕ) → b < k → b < f → fault_in lim (move_at ws b) (get_or ms b 0) ≡ 0
  pub here : f < length ws → (f < k) × (fault_in lim (move_at ws f) (get_or ms f 0) ≡ 0 → ⊥)

-- the first address that is not closed; or the words' end, with the first fault
pub data OpenIs (lim : ℕ) (ws : List ℕ) (r : ℕ) (ms : List ℕ) : ℕ → ℕ → Type 0 where
  closed : {f : ℕ} → ((k : ℕ) → k < length ws → ClosedAt lim ws r ms k) → FirstFault lim ws ms (length ws) f → OpenIs lim ws r ms (length ws) f
  first : {a f : ℕ} → a < length ws → (ClosedAt lim ws r ms a → ⊥) → OpenIs lim ws r ms a f

-- marks to start from: sound, and the start among them
pub record CanSettle (lim : ℕ) (ws ms : List ℕ) : Type 0 where
  pub fits : MarksFit ws ms 0 lim
  pub some : 0 < length ws
  pub sound : Sound lim ws ms
  pub start : On 0 (get_or ms 0 0)

-- and what was seen on the way
pub record Settled (lim : ℕ) (ws ms ns : List ℕ) (r f : ℕ) : Type 0 where
  pub marked : Marked lim ws ms ns
  pub returns : ReturnsIn ws ns (length ws) r
  pub depths : Depths r
  pub fault : FirstFault lim ws ns (length ws) f
