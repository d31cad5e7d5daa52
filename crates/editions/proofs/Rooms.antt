-- Laws of room: what is asked for piece by piece fits just where all of it does.
-- Assumes nothing.
use Prim.Native.Nat.{ℕ, ◌+◌, ◌-◌, ◌≤◌, ◌<◌}
use mathlib.Core.Path.{◌≡◌, ap}
use native.Mathlib.Omega.{arith}
use Rattle.editions.specs.Told.{room_behind, taken, RoomFor, Takes}
use Rattle.editions.specs.declared.Room.{Room}

abbrev room : ℕ → Room
room n = record { left = n }

pub behind_short : (all head : ℕ) → all < head → room 0 ≡ room_behind all head
behind_short all head l = ap room (omega arith)

pub behind_more : (all head : ℕ) → head ≤ all → room (all - head + 1) ≡ room_behind all head
behind_more all head l = ap room (omega arith)

pub taken_short : (more : ℕ) (r : Room) → r.left ≤ more → room 0 ≡ taken more r
taken_short more r l = ap room (omega arith)

-- all of it fits, or it does not
pub room_fits : (all size : ℕ) {r : Room} → RoomFor all size r → (r.left ≡ 0 → ⊥) → size ≤ all
room_fits all size h n = omega (arith, h, n)

pub room_short : (all size : ℕ) {r : Room} → RoomFor all size r → r.left ≡ 0 → all < size
room_short all size h e = omega (arith, h, e)

-- the room that a header leaves
pub head_room : (all head : ℕ) {r : Room} → r ≡ room_behind all head → RoomFor all head r
head_room all head e = ap (λ (x : Room). x.left) e

-- ---- a room with more in it

pub takes_none : (given : Room) → Takes given 0 given
takes_none given all before h = omega (arith, h)

pub takes_more : (given : Room) (size more : ℕ) {r s : Room} → Takes given size r → s ≡ taken more r → Takes given (size + more) s
takes_more given size more t e all before h = omega (arith, t all before h, ap (λ (x : Room). x.left) e)
