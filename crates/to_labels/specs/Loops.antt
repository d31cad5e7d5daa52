-- What the functions of the move ask and promise, line by line and over all lines: it carries the code, and needs no belief.
use Rattle.std.specs.Prelude.{ℕ, zero, suc, ◌+◌, ◌-◌, ◌*◌, ◌/◌, ◌^◌, ◌≤◌, ◌<◌, ◌≡◌, Bool, true, List, [], ◌∷◌, ◌++◌, eqb, leb, length, get_or, set, take, drop}
use Rattle.instruction.specs.Bits.{pick}
use Rattle.instruction.specs.Form.{filled}
use Rattle.buffer.specs.Put.{Fits}
use Rattle.text.specs.Cut.{tab, line_feed, cut, Row, fields_in, row_at, rows_in, place_of, has}
use Rattle.text.specs.Line.{letters, decimal}
use Rattle.listing.specs.Listing.{head_of}
use Rattle.listing_reader.specs.ReadBack.{address_in}
use Rattle.editions.specs.Editions.{line_of, fields_number_one, number_one}
use Rattle.editions.specs.Moves.{refused_at, judged_one, targets_in, label_line, fields_named, labelled_from}
use Rattle.editions.specs.Told.{nowhere, aim_one, final_from, RoomFor, Takes}
use Rattle.editions.specs.declared.LineOne.{LineOne}
use Rattle.editions.specs.declared.Room.{Room}
use Rattle.text.specs.declared.Refused.{Refused}
use Rattle.to_labels.specs.declared.Parts.{Parts}

-- ---- a line

-- what is wrong with a line, or its target and where its name starts
pub record TellsRow (n a : ℕ) (row : Row) (r : LineOne) : Type 0 where
  pub number : r.number ≡ number_one n a row
  pub target : r.number ≡ 0 → r.target ≡ aim_one (fields_in row)
  pub from : r.number ≡ 0 → r.from ≡ length (address_in (fields_in row)) + 1

-- a line of edition 2
abbrev pub named_line : List ℕ → List ℕ
named_line line = line_of (fields_named (cut tab line))

-- the same by where things start: what stands from the name on, and an `L` before the last field of a jump
abbrev pub named_text : List ℕ → Bool → ℕ → List ℕ
named_text line plain from =
    pick plain (drop from line ++ (line_feed ∷ [])) (take (final_from line - from) (drop from line) ++ (letters "L" ++ (drop (final_from line) line ++ (line_feed ∷ []))))

abbrev pub is_plain : LineOne → Bool
is_plain told = eqb told.target nowhere

-- a line with which nothing is wrong, as it was told
pub record Named (line : List ℕ) (told : LineOne) : Type 0 where
  pub text : named_line line ≡ named_text line (is_plain told) told.from
  pub some : 0 < told.from
  pub inside : told.from ≤ length line
  pub order : (told.target ≡ nowhere → ⊥) → told.from ≤ final_from line
  pub target : (told.target ≡ nowhere → ⊥) → final_from line < length line

-- the label line of an address that is a target
abbrev pub label_text : Bool → ℕ → List ℕ
label_text on a = pick on (label_line a) []

-- the line from a place of a text on
abbrev pub line_at : List ℕ → ℕ → List ℕ
line_at text at = (row_at text at (place_of line_feed at text)).bytes

-- it can be moved, as that of an address a of n
pub record Movable (text : List ℕ) (at : ℕ) : Type 0 where
  pub here : at < length text
  pub n : ℕ
  pub a : ℕ
  pub well : fields_number_one n a true (cut tab (line_at text at)) ≡ 0

-- ---- a line by its parts

-- from its name to its end, and an `L` before its target where that is not its end
abbrev pub parts_text : List ℕ → Parts → List ℕ
parts_text text p =
    take (p.last - p.from) (drop p.from text)
    ++ pick (eqb p.last p.end) (line_feed ∷ []) (letters "L" ++ (take (p.end - p.last) (drop p.last text) ++ (line_feed ∷ [])))

-- one after the other, and inside the text
pub record InText (text : List ℕ) (p : Parts) : Type 0 where
  pub order : p.from ≤ p.last
  pub upto : p.last ≤ p.end
  pub inside : p.end ≤ length text

-- the parts of the line from a place on
pub record PartsOf (text : List ℕ) (at : ℕ) (p : Parts) : Type 0 where
  pub ends : p.end ≡ place_of line_feed at text
  pub lies : InText text p
  pub says : named_line (row_at text at p.end).bytes ≡ parts_text text p

-- how long the target of a line is, as it was told
abbrev pub target_size : LineOne → ℕ
target_size told = pick (is_plain told) 0 (length (decimal told.target))

-- its parts, from a place to its end
abbrev pub parts_by : ℕ → ℕ → LineOne → Parts
parts_by at end told = record { from = at + told.from; last = end - target_size told; end = end }

-- there is room for its address and its target
pub record PartsFit (at end : ℕ) (told : LineOne) : Type 0 where
  pub name : at + told.from ≤ end
  pub target : target_size told ≤ end

-- ---- notes of words

-- where the line of address a starts
abbrev pub place_at : List ℕ → ℕ → ℕ → ℕ
place_at text from zero = from
place_at text from (suc a) = place_of line_feed (place_at text from a) text + 1

-- three numbers for each word
abbrev pub note_count : List ℕ → ℕ
note_count notes = length notes / 3

abbrev pub parts_in : List ℕ → ℕ → Parts
parts_in notes a = record { from = get_or notes (3 * a) 0; last = get_or notes (3 * a + 1) 0; end = get_or notes (3 * a + 2) 0 }

abbrev pub kept_note : List ℕ → ℕ → Parts → List ℕ
kept_note notes a p = pick (leb (note_count notes) a) notes (set (set (set notes (3 * a) p.from) (3 * a + 1) p.last) (3 * a + 2) p.end)

-- the note of a word, if there is one, is so
abbrev pub Noted : List ℕ → List ℕ → ℕ → ℕ → Type 0
Noted text notes at a = a < note_count notes → PartsOf text at (parts_in notes a)

-- those of the first n
abbrev pub Notes : List ℕ → ℕ → List ℕ → ℕ → Type 0
Notes text from notes n = (a : ℕ) → a < n → Noted text notes (place_at text from a) a

-- ---- how long the text is

abbrev pub named_size : List Row → ℕ
named_size [] = 0
named_size (row ∷ rows) = length (named_line row.bytes) + named_size rows

-- the label lines of n addresses, from one on
abbrev pub labels_size : List ℕ → ℕ → ℕ → ℕ
labels_size targets a zero = 0
labels_size targets a (suc n) = length (label_text (has a targets) a) + labels_size targets (a + 1) n

-- ---- marks

-- one for each of so many addresses, from a base on
abbrev pub mark_count : ℕ
mark_count = 65536

-- of these addresses just the targets are marked
abbrev pub Marked : List ℕ → ℕ → List ℕ → Type 0
Marked targets base marks = (b : ℕ) → b < length marks → filled (get_or marks b 0) ≡ has (base + b) targets

-- one target more; one that has no mark changes nothing
abbrev pub marked_of : ℕ → ℕ → List ℕ → List ℕ
marked_of base target marks = pick (leb base target) (set marks (target - base) 1) marks

-- ---- all lines

-- how many there are; no more than bytes
pub record LineCount (rows : List Row) (n : ℕ) : Type 0 where
  pub count : n ≡ length rows
  pub few : n < 2 ^ 63

-- what the judge is handed: how many lines there are, and marks that are clear
pub record Ready (n : ℕ) (rows : List Row) (marks : List ℕ) : Type 0 where
  pub lines : LineCount rows n
  pub size : length marks ≡ mark_count
  pub clear : Marked [] 0 marks

-- the first bad line
pub record BadLine (n : ℕ) (text : List ℕ) (from : ℕ) (r : Refused) : Type 0 where
  pub told : refused_at r.number r.line ≡ judged_one n 0 (rows_in (drop from text))
  pub some : r.number ≡ 0 → ⊥

-- or the room that the lines of words leave, with every target marked and a note of each word
pub record GoodLines (n : ℕ) (text : List ℕ) (from : ℕ) (given : Room) (marks notes : List ℕ) (left : Room) : Type 0 where
  pub told : refused_at 0 0 ≡ judged_one n 0 (rows_in (drop from text))
  pub room : Takes given (named_size (rows_in (drop from text))) left
  pub size : length marks ≡ mark_count
  pub marked : Marked (targets_in (rows_in (drop from text))) 0 marks
  pub noted : Notes text from notes n

-- nothing is wrong with any line
pub record Well (n : ℕ) (rows : List Row) : Type 0 where
  pub lines : LineCount rows n
  pub well : (judged_one n 0 rows).number ≡ 0

-- a base to mark the targets from
pub record Based (n : ℕ) (rows : List Row) (base : ℕ) (marks : List ℕ) : Type 0 where
  pub all : Well n rows
  pub size : length marks ≡ mark_count
  pub low : base < n

-- the targets are marked from a base on
pub record Known (n : ℕ) (rows : List Row) (base : ℕ) (marks : List ℕ) : Type 0 where
  pub all : Well n rows
  pub size : length marks ≡ mark_count
  pub marked : Marked (targets_in rows) base marks

-- and an address has one of the marks
pub record Near (n : ℕ) (rows : List Row) (a : ℕ) (marks : List ℕ) (base : ℕ) : Type 0 where
  pub known : Known n rows base marks
  pub low : base ≤ a
  pub high : a < base + mark_count

-- the room that the label lines leave, with the marks from the first address on again
pub record LabelsRoom (n : ℕ) (rows : List Row) (given : Room) (marks : List ℕ) (r : Room) : Type 0 where
  pub room : Takes given (labels_size (targets_in rows) 0 n) r
  pub known : Known n rows 0 marks

-- the lines of edition 2
abbrev pub labelled_lines : List Row → List ℕ
labelled_lines rows = labelled_from (targets_in rows) 0 rows

-- what is known of all lines, with room for them
pub record Layable (n : ℕ) (text : List ℕ) (from : ℕ) (marks notes out : List ℕ) (start : ℕ) : Type 0 where
  pub known : Known n (rows_in (drop from text)) 0 marks
  pub noted : Notes text from notes n
  pub fits : Fits (labelled_lines (rows_in (drop from text))) out start

-- ---- the whole text

-- all lines are judged: what is known of them, and the room that the header and they leave
pub record Passed (n : ℕ) (text : List ℕ) (from : ℕ) (marks notes out : List ℕ) (room : Room) : Type 0 where
  pub known : Known n (rows_in (drop from text)) 0 marks
  pub noted : Notes text from notes n
  pub head : from ≡ length (head_of 2)
  pub left : RoomFor (length out) (from + named_size (rows_in (drop from text))) room

abbrev pub labelled_text : List Row → List ℕ
labelled_text rows = head_of 2 ++ labelled_lines rows
