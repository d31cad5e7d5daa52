-- Laws of lists that are written place by place, and of lists whose numbers are all small.
-- Assumes nothing.
use Prim.Native.Nat.{ℕ, zero, suc, ◌+◌, ◌≤◌, ◌<◌}
use mathlib.Core.Path.{◌≡◌, refl}
use mathlib.Core.List.{List, [], ◌∷◌, ◌++◌, append-nil}
use native.Mathlib.Omega.{arith}
use lib.ListN.{length, get_or, set, take, drop, length-map, drop_of_length-le}
use lib.Seq.{take_all}
use Rattle.buffer.proofs.Laws.{fill_next, fill_at}
use Rattle.dispatch.specs.Engines.{AllLe, plus_one}

-- ---- one more in each place

plus_length : (d : List ℕ) → length (plus_one d) ≡ length d
plus_length d = length-map d (λ (x : ℕ). x + 1)

plus_at : (l : List ℕ) (i : ℕ) → i < length l → get_or (plus_one l) i 0 ≡ get_or l i 0 + 1
plus_at [] i h = absurd (omega arith)
plus_at (x ∷ l) zero h = refl
plus_at (x ∷ l) (suc i) h = plus_at l i (omega arith)

pub plus_read : (d : List ℕ) (i : ℕ) → i < length d → get_or (take i (plus_one d) ++ drop i d) i 0 ≡ get_or d i 0
plus_read d i h = fill_at (plus_one d) d i (omega (arith, plus_length d)) h

pub plus_next : (d : List ℕ) (i : ℕ) → i < length d
    → set (take i (plus_one d) ++ drop i d) i (get_or (take i (plus_one d) ++ drop i d) i 0 + 1) ≡ take (i + 1) (plus_one d) ++ drop (i + 1) d
plus_next d i h = rw (plus_read d i h, ← plus_at d i h) (fill_next (plus_one d) d i (omega (arith, plus_length d)) h)

pub plus_end : (d : List ℕ) (i : ℕ) → length d ≡ i → take i (plus_one d) ++ drop i d ≡ plus_one d
plus_end d i h =
    let m : length d ≤ i = omega arith in
    rw (take_all i (plus_one d) (omega (arith, plus_length d)), drop_of_length-le d m) (append-nil (plus_one d))

-- ---- lists of small numbers

pub all_get : (b : ℕ) (l : List ℕ) (i : ℕ) → AllLe b l → get_or l i 0 ≤ b
all_get b [] i h = omega arith
all_get b (x ∷ l) zero h = h.0
all_get b (x ∷ l) (suc i) h = all_get b l i h.1

pub all_set : (b : ℕ) (l : List ℕ) (i v : ℕ) → v ≤ b → AllLe b l → AllLe b (set l i v)
all_set b [] i v hv h = tt
all_set b (x ∷ l) zero v hv h = (hv, h.1)
all_set b (x ∷ l) (suc i) v hv h = (h.0, all_set b l i v hv h.1)

pub all_more : (b b' : ℕ) (l : List ℕ) → b ≤ b' → AllLe b l → AllLe b' l
all_more b b' [] k h = tt
all_more b b' (x ∷ l) k h = (omega arith, all_more b b' l k h.1)

pub all_plus : (b : ℕ) (l : List ℕ) → AllLe b l → AllLe (b + 1) (plus_one l)
all_plus b [] h = tt
all_plus b (x ∷ l) h = (omega arith, all_plus b l h.1)
