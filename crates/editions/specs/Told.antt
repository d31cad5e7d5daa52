-- What the functions tell of a line, edition by edition: it carries the code, and needs no belief.
use Rattle.std.specs.Prelude.{ℕ, ◌+◌, ◌-◌, ◌^◌, ◌≤◌, eqb, ◌≡◌, Bool, true, false, not, ◌||◌, ◌&&◌, List, [], ◌∷◌, length, get_or, take, drop}
use Rattle.instruction.specs.Bits.{pick, ◌gives◌else◌}
use Rattle.text.specs.Cut.{tab, cut, Row, place_of}
use Rattle.fields.specs.Fields.{all_numbers}
use Rattle.label.specs.Label.{is_label}
use Rattle.listing_reader.specs.ReadBack.{address_in}
use Rattle.editions.specs.Editions.{jumps_one, target_one, fields_number_one, is_label_line, label_in, is_known_two, jumps_two, target_two, is_shaped_two}
use Rattle.editions.specs.declared.Kind.{Kind}
use Rattle.editions.specs.declared.LineOne.{LineOne}
use Rattle.editions.specs.declared.LineTwo.{LineTwo}
use Rattle.editions.specs.declared.Room.{Room}

-- ---- the last field

abbrev pub final : List (List ℕ) → List ℕ
final [] = []
final (f ∷ []) = f
final (f ∷ g ∷ fs) = final (g ∷ fs)

-- where it starts
abbrev pub final_from : List ℕ → ℕ
final_from line = length line - length (final (cut tab line))

-- ---- edition 1

-- the target of a line that does not jump is none that there is
abbrev pub nowhere : ℕ
nowhere = 2 ^ 64 - 1

abbrev pub aim_one : List (List ℕ) → ℕ
aim_one fs = pick (jumps_one fs) (target_one fs) nowhere

-- what is wrong with a line, or its target and where its name starts
pub record TellsOne (n a : ℕ) (fs : List (List ℕ)) (r : LineOne) : Type 0 where
  pub number : r.number ≡ fields_number_one n a true fs
  pub target : r.number ≡ 0 → r.target ≡ aim_one fs
  pub from : r.number ≡ 0 → r.from ≡ length (address_in fs) + 1

-- whether a line with a name has a target, and where the name starts
pub record GlancesOne (fs : List (List ℕ)) (r : LineOne) : Type 0 where
  pub from : 2 ≤ length fs → r.from ≡ length (address_in fs) + 1
  pub plain : 2 ≤ length fs → eqb r.target nowhere ≡ not (jumps_one fs)

-- ---- edition 2

-- whether a line is a label line, and where its first field ends
pub record KindOf (line : List ℕ) (r : Kind) : Type 0 where
  pub label : r.label ≡ is_label_line (cut tab line)
  pub end : r.end ≡ place_of tab 0 line

-- one field, a label
abbrev pub last_label : List (List ℕ) → Bool
last_label fs = eqb (length fs) 1 && is_label (get_or fs 0 [])

-- engine select, write flag and a label
abbrev pub has_target : List (List ℕ) → Bool
has_target fs = eqb (length fs) 3 && (all_numbers (take 2 fs) && is_label (get_or fs 2 []))

-- where a label starts that stands to the end of a line, if a test holds; else 0
pub record Finds (test : Bool) (label line : List ℕ) (r : ℕ) : Type 0 where
  pub none : r ≡ 0 → test ≡ false
  pub some : (r ≡ 0 → ⊥) → test ≡ true
  pub inside : r ≤ length line
  pub is : (r ≡ 0 → ⊥) → drop r line ≡ label

abbrev pub found_two : Bool → ℕ → LineTwo
found_two label from = record { number = pick (eqb from 0) 61 0; label = label; jump = not label; from = from }

abbrev pub plain_two : ℕ → LineTwo
plain_two number = record { number = number; label = false; jump = false; from = 0 }

-- what is wrong with the shape of a line
abbrev pub shape_two : Bool → List (List ℕ) → ℕ
shape_two ended fs = not (is_shaped_two ended fs) gives 61 else not (is_label_line fs || is_known_two fs) gives 63 else 0

-- that, and whether it is a label line or a jump, and then where its label starts
pub record TellsTwo (ended : Bool) (line : List ℕ) (r : LineTwo) : Type 0 where
  pub number : r.number ≡ shape_two ended (cut tab line)
  pub label : r.label ≡ is_label_line (cut tab line)
  pub jump : r.jump ≡ jumps_two (cut tab line)
  pub inside : r.from ≤ length line
  pub name : r.number ≡ 0 → r.label ≡ true → drop r.from line ≡ label_in (cut tab line)
  pub target : r.number ≡ 0 → r.jump ≡ true → drop r.from line ≡ target_two (cut tab line)

-- whether a line is a label line or a jump, and then where its last field starts
pub record GlancesTwo (line : List ℕ) (r : LineTwo) : Type 0 where
  pub label : r.label ≡ is_label_line (cut tab line)
  pub jump : r.jump ≡ jumps_two (cut tab line)
  pub from : r.jump ≡ true → r.from ≡ final_from line

abbrev pub TellsRow : Row → LineTwo → Type 0
TellsRow row r = TellsTwo row.ended row.bytes r

-- ---- room

-- one more than what is left behind so many bytes, and 0 where they do not fit
abbrev pub room_behind : ℕ → ℕ → Room
room_behind all size = record { left = all + 1 - size }

-- with so much more in it
abbrev pub taken : ℕ → Room → Room
taken more room = record { left = room.left - more }

-- what is told of a room once so much of it is asked for
abbrev pub RoomFor : ℕ → ℕ → Room → Type 0
RoomFor all size r = r.left ≡ all + 1 - size

-- a room with so much more in it
abbrev pub Takes : Room → ℕ → Room → Type 0
Takes room size r = (all before : ℕ) → RoomFor all before room → RoomFor all (before + size) r
