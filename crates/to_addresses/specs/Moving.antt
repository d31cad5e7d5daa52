-- What the functions of the move ask and promise, line by line and over all lines: it carries the code, and needs no belief.
use Rattle.std.specs.Prelude.{ℕ, zero, suc, ◌+◌, ◌-◌, ◌*◌, ◌/◌, ◌^◌, ◌≤◌, ◌<◌, ◌≡◌, Bool, true, false, not, List, [], ◌∷◌, ◌++◌, eqb, ltb, leb, length, get_or, set, take, drop, Some}
use Rattle.instruction.specs.Bits.{pick, ◌gives◌else◌}
use Rattle.instruction.specs.Form.{filled}
use Rattle.buffer.specs.Put.{Fits, Put}
use Rattle.text.specs.Line.{decimal}
use Rattle.text.specs.Cut.{tab, line_feed, place_of, Row, row_at, rows_in, fields_in}
use Rattle.label.specs.Label.{is_label}
use Rattle.label.specs.First.{first_name, IsDouble}
use Rattle.label.specs.Key.{key_of, key_at, means_at, count, Holds, Looked}
use Rattle.label.specs.declared.Key.{Key}
use Rattle.editions.specs.Editions.{is_label_line, label_in, line_of, word_number, defines}
use Rattle.listing.specs.Listing.{head_of}
use Rattle.editions.specs.Moves.{refused_at, Moves, Definition, defined_from, labels_of, meaning_in, judged_two, fields_placed, addressed_from}
use Rattle.editions.specs.Told.{shape_two, taken, Takes}
use Rattle.editions.specs.declared.Moved.{Moved}
use Rattle.editions.specs.declared.Room.{Room}
use Rattle.to_addresses.specs.declared.Defining.{Defining}
use Rattle.to_addresses.specs.declared.Found.{Found}
use Rattle.text.specs.declared.Refused.{Refused}
use Rattle.to_addresses.specs.declared.Known.{Known}
use Rattle.to_addresses.specs.declared.Laid.{Laid}
use Rattle.to_addresses.specs.declared.Passed.{Passed}
use Rattle.to_addresses.specs.declared.Weighed.{Weighed}

-- ---- the lines of a text

-- from a place on
abbrev pub rows_from : List ℕ → ℕ → List Row
rows_from text from = rows_in (drop from text)

-- the first of them
abbrev pub row_here : List ℕ → ℕ → Row
row_here text at = row_at text at (place_of line_feed at text)

-- what they define
abbrev pub defined_in : List ℕ → ℕ → List Definition
defined_in text from = defined_from 0 (rows_from text from)

-- how many are no label lines
abbrev pub word_count : List Row → ℕ
word_count [] = 0
word_count (row ∷ rows) = pick (is_label_line (fields_in row)) 0 1 + word_count rows

-- no label
abbrev pub nothing : Definition
nothing = record { called = []; means = 0 }

-- ---- passing lines

abbrev pub start : Passed
start = record { labels = 0; words = 0 }

-- past a line that defines a label, past a word, past a label line that defines none
abbrev pub passed_by : Bool → Bool → Passed → Passed
passed_by true word past = record { labels = past.labels + 1; words = past.words }
passed_by false true past = record { labels = past.labels; words = past.words + 1 }
passed_by false false past = past

pub record Few (past : Passed) : Type 0 where
  pub labels : past.labels + 1 < 2 ^ 64
  pub words : past.words + 1 < 2 ^ 64

-- what is told of a line
abbrev pub defines_in : Defining → Bool
defines_in line = not (eqb line.from 0)

-- the label from a place of the text to a line's end
abbrev pub label_to : List ℕ → ℕ → ℕ → List ℕ
label_to text from end = take (end - from) (drop from text)

-- a label that can be read
pub record Labelled (text : List ℕ) (from end : ℕ) : Type 0 where
  pub order : from ≤ end
  pub inside : end ≤ length text
  pub shaped : is_label (label_to text from end) ≡ true

pub record DefinesAt (text : List ℕ) (at end : ℕ) (r : Defining) : Type 0 where
  pub defining : defines_in r ≡ defines (row_at text at end)
  pub word : defines_in r ≡ false → r.word ≡ not (is_label_line (fields_in (row_at text at end)))
  pub label : defines_in r ≡ true → label_to text r.from end ≡ label_in (fields_in (row_at text at end))
  pub labelled : defines_in r ≡ true → Labelled text r.from end

-- ---- where a walk over the lines is

-- what is left of the lines is what is left of the labels and of the words
pub record Along (text : List ℕ) (from at : ℕ) (past : Passed) : Type 0 where
  pub order : past.labels + past.words + from ≤ at
  pub left : drop past.labels (defined_in text from) ≡ defined_from past.words (rows_from text at)
  pub labels : past.labels + length (defined_from past.words (rows_from text at)) ≡ length (defined_in text from)
  pub words : past.words + word_count (rows_from text at) ≡ word_count (rows_from text from)

-- ---- what is kept of labels

abbrev pub kept_label : List ℕ → ℕ → Key → ℕ → List ℕ
kept_label keys j k a = pick (leb (count keys) j) keys (set (set (set keys (3 * j) k.lo) (3 * j + 1) k.hi) (3 * j + 2) a)

abbrev pub collected_row : List ℕ → ℕ → Defining → Passed → List ℕ → List ℕ
collected_row text end line past keys = pick (defines_in line) (kept_label keys past.labels (key_of (label_to text line.from end)) past.words) keys

-- the first n, as far as there is room
abbrev pub Kept : List ℕ → List Definition → ℕ → Type 0
Kept keys ds n = (j : ℕ) → j < n → j < count keys → (key_at keys j ≡ key_of (get_or ds j nothing).called) × (means_at keys j ≡ (get_or ds j nothing).means)

pub record Collected (text : List ℕ) (from : ℕ) (keys : List ℕ) (r : Passed) : Type 0 where
  pub labels : r.labels ≡ length (defined_in text from)
  pub words : r.words ≡ word_count (rows_from text from)
  pub kept : Kept keys (defined_in text from) r.labels

-- ---- looking for a label

-- where it is defined first, and what it means
pub record Sought (ds : List Definition) (name : List ℕ) (r : Found) : Type 0 where
  pub first : r.first ≡ first_name (labels_of ds) name
  pub means : r.means ≡ meaning_in ds name

-- what is known of a text's labels is so
pub record Knows (text keys table : List ℕ) (k : Known) : Type 0 where
  pub labels : k.labels ≡ length (defined_in text k.from)
  pub words : k.words ≡ word_count (rows_from text k.from)
  pub holds : (d : ℕ) → k.double ≡ Some d → Holds (labels_of (defined_in text k.from)) keys
  pub means : (d : ℕ) → k.double ≡ Some d → (j : ℕ) → j < count keys → means_at keys j ≡ (get_or (defined_in text k.from) j nothing).means
  pub looked : (d : ℕ) → k.double ≡ Some d → Looked keys table
  pub double : (d : ℕ) → k.double ≡ Some d → IsDouble (λ i. get_or (labels_of (defined_in text k.from)) i []) (length (defined_in text k.from)) d

-- ---- judging a line

-- label j is this one, and none before it stood before
pub record Twice (text : List ℕ) (k : Known) (j : ℕ) (name : List ℕ) : Type 0 where
  pub known : (d : ℕ) → k.double ≡ Some d → IsDouble (λ i. get_or (labels_of (defined_in text k.from)) i []) (length (defined_in text k.from)) d
  pub single : (d : ℕ) → k.double ≡ Some d → j ≤ d
  pub few : j < length (defined_in text k.from)
  pub is : (get_or (defined_in text k.from) j nothing).called ≡ name

-- a line from a place to its end, where all lines before are good
pub record Stands (text keys table : List ℕ) (k : Known) (at end : ℕ) (past : Passed) : Type 0 where
  pub knows : Knows text keys table k
  pub along : Along text k.from at past
  pub single : (d : ℕ) → k.double ≡ Some d → past.labels ≤ d
  pub here : at < length text
  pub ends : end ≡ place_of line_feed at text

-- 65 and 66, by the labels and words before
abbrev pub label_number_at : List (List ℕ) → ℕ → Passed → List ℕ → ℕ
label_number_at labels words past label = ltb (first_name labels label) past.labels gives 65 else leb words past.words gives 66 else 0

-- all numbers of a line
abbrev pub number_at : List (List ℕ) → ℕ → Passed → Row → ℕ
number_at labels words past row =
    filled (shape_two row.ended (fields_in row)) gives shape_two row.ended (fields_in row)
    else pick (is_label_line (fields_in row)) (label_number_at labels words past (label_in (fields_in row))) (word_number labels (fields_in row))

-- what a line moves to
abbrev pub moved_line : List Definition → ℕ → Row → List ℕ
moved_line ds a row = pick (is_label_line (fields_in row)) [] (line_of (fields_placed ds a (fields_in row)))

abbrev pub weighed_jump : Room → Passed → ℕ → ℕ → Known → Found → Weighed
weighed_jump room past at stop k found =
    pick (leb k.labels found.first) (record { number = 67; label = false; room = room; stop = 0; means = 0 })
    (record { number = 0; label = false; stop = stop; means = found.means; room = taken (stop - at) (taken (length (decimal found.means)) (taken (length (decimal past.words) + 2) room)) })

-- ---- what is noted of a word

-- its line: what stands from a place to where it stops, and the address that its label means where that is not its end
abbrev pub text_by : List ℕ → ℕ → ℕ → ℕ → ℕ → ℕ → List ℕ
text_by text a start stop means next =
    (decimal a ++ (tab ∷ [])) ++ (take (stop - start) (drop start text) ++ pick (eqb (stop + 1) next) (line_feed ∷ []) (decimal means ++ (line_feed ∷ [])))

-- four numbers for each word
abbrev pub note_count : List ℕ → ℕ
note_count notes = length notes / 4

abbrev pub start_in : List ℕ → ℕ → ℕ
start_in notes a = get_or notes (4 * a) 0

abbrev pub stop_in : List ℕ → ℕ → ℕ
stop_in notes a = get_or notes (4 * a + 1) 0

abbrev pub means_in : List ℕ → ℕ → ℕ
means_in notes a = get_or notes (4 * a + 2) 0

abbrev pub next_in : List ℕ → ℕ → ℕ
next_in notes a = get_or notes (4 * a + 3) 0

abbrev pub note_line : List ℕ → List ℕ → ℕ → List ℕ
note_line text notes a = text_by text a (start_in notes a) (stop_in notes a) (means_in notes a) (next_in notes a)

-- the place behind the words before one
abbrev pub behind_in : ℕ → List ℕ → ℕ → ℕ
behind_in from notes zero = from
behind_in from notes (suc a) = next_in notes a

abbrev pub kept_note : List ℕ → ℕ → ℕ → Weighed → ℕ → List ℕ
kept_note notes a at told next =
    pick told.label notes
    (pick (leb (note_count notes) a) notes (set (set (set (set notes (4 * a) at) (4 * a + 1) told.stop) (4 * a + 2) told.means) (4 * a + 3) next))

-- a word's note is so
pub record Note (text : List ℕ) (from : ℕ) (start stop means next behind a : ℕ) : Type 0 where
  pub order : start ≤ stop
  pub inside : stop ≤ length text
  pub few : a < next
  pub moves : addressed_from (defined_in text from) a (rows_from text behind) ≡ text_by text a start stop means next ++ addressed_from (defined_in text from) (a + 1) (rows_from text next)
  pub labels : List (List ℕ)
  pub line : ℕ
  pub same : judged_two (labels_of (defined_in text from)) labels line (rows_from text next) ≡ judged_two (labels_of (defined_in text from)) [] 2 (rows_from text from)

abbrev pub NoteIn : List ℕ → ℕ → List ℕ → ℕ → Type 0
NoteIn text from notes a = Note text from (start_in notes a) (stop_in notes a) (means_in notes a) (next_in notes a) (behind_in from notes a) a

-- the first n, as far as there is room
abbrev pub Notes : List ℕ → ℕ → List ℕ → ℕ → Type 0
Notes text from notes n = (a : ℕ) → a < n → a < note_count notes → NoteIn text from notes a

-- ---- a line weighed, and all of them

pub record WordIs (text : List ℕ) (k : Known) (at end : ℕ) (past : Passed) (r : Weighed) : Type 0 where
  pub order : at ≤ r.stop
  pub inside : r.stop ≤ end
  pub says : line_of (fields_placed (defined_in text k.from) past.words (fields_in (row_at text at end))) ≡ text_by text past.words at r.stop r.means (end + 1)

pub record Weighs (text : List ℕ) (k : Known) (at end : ℕ) (past : Passed) (room : Room) (r : Weighed) : Type 0 where
  pub number : r.number ≡ number_at (labels_of (defined_in text k.from)) k.words past (row_at text at end)
  pub label : r.label ≡ is_label_line (fields_in (row_at text at end))
  pub left : r.number ≡ 0 → Takes room (length (moved_line (defined_in text k.from) past.words (row_at text at end))) r.room
  pub word : r.number ≡ 0 → is_label_line (fields_in (row_at text at end)) ≡ false → WordIs text k at end past r

-- the first bad line
pub record BadLine (text : List ℕ) (from : ℕ) (r : Refused) : Type 0 where
  pub told : refused_at r.number r.line ≡ judged_two (labels_of (defined_in text from)) [] 2 (rows_from text from)
  pub some : r.number ≡ 0 → ⊥

-- or the room that what they move to leaves
pub record GoodLines (text : List ℕ) (from : ℕ) (room : Room) (notes : List ℕ) (left : Room) : Type 0 where
  pub told : refused_at 0 0 ≡ judged_two (labels_of (defined_in text from)) [] 2 (rows_from text from)
  pub takes : Takes room (length (addressed_from (defined_in text from) 0 (rows_from text from))) left
  pub kept : Notes text from notes (word_count (rows_from text from))

-- ---- writing

-- a line that has its shape, with room for what it moves to
pub record Layable (text keys table : List ℕ) (k : Known) (out : List ℕ) (laid : Laid) : Type 0 where
  pub knows : Knows text keys table k
  pub here : laid.at < length text
  pub shape : shape_two (row_here text laid.at).ended (fields_in (row_here text laid.at)) ≡ 0
  pub few : laid.words + 1 < 2 ^ 64
  pub fits : Fits (moved_line (defined_in text k.from) laid.words (row_here text laid.at)) out laid.place

pub record LaysRow (text : List ℕ) (from : ℕ) (before : List ℕ) (laid : Laid) (after : List ℕ) (r : Laid) : Type 0 where
  pub puts : Put (moved_line (defined_in text from) laid.words (row_here text laid.at)) before laid.place after r.place
  pub counts : r.words ≡ pick (is_label_line (fields_in (row_here text laid.at))) laid.words (laid.words + 1)
  pub behind : r.at ≡ place_of line_feed laid.at text + 1

-- a word by its note
pub record Noted (text notes out : List ℕ) (laid : Laid) : Type 0 where
  pub kept : laid.words < note_count notes
  pub order : start_in notes laid.words ≤ stop_in notes laid.words
  pub inside : stop_in notes laid.words ≤ length text
  pub fits : Fits (note_line text notes laid.words) out laid.place

pub record LaysNoted (text notes before : List ℕ) (laid : Laid) (after : List ℕ) (r : Laid) : Type 0 where
  pub puts : Put (note_line text notes laid.words) before laid.place after r.place
  pub counts : r.words ≡ laid.words + 1
  pub behind : r.at ≡ next_in notes laid.words

-- lines from a place on that are all good, with room for what they move to
pub record LayableFrom (text keys table : List ℕ) (k : Known) (out : List ℕ) (start : Laid) : Type 0 where
  pub knows : Knows text keys table k
  pub few : start.words ≤ start.at
  pub labels : List (List ℕ)
  pub line : ℕ
  pub good : (judged_two (labels_of (defined_in text k.from)) labels line (rows_from text start.at)).number ≡ 0
  pub fits : Fits (addressed_from (defined_in text k.from) start.words (rows_from text start.at)) out start.place

-- all lines
pub record LayableAll (text keys table : List ℕ) (k : Known) (notes out : List ℕ) (start : ℕ) : Type 0 where
  pub knows : Knows text keys table k
  pub noted : Notes text k.from notes k.words
  pub good : (judged_two (labels_of (defined_in text k.from)) [] 2 (rows_from text k.from)).number ≡ 0
  pub fits : Fits (addressed_from (defined_in text k.from) 0 (rows_from text k.from)) out start

-- ---- all of it

-- what was collected, as far as there was room
pub record Parts (text : List ℕ) (from : ℕ) (keys : List ℕ) (end : Passed) : Type 0 where
  pub head : from ≡ length (head_of 1)
  pub collected : Collected text from keys end

-- lines from a place on, judged and then written whole or not at all
abbrev pub Finishes : List ℕ → ℕ → List ℕ → List ℕ → Moved → Type 0
Finishes text from before after r =
    Moves (judged_two (labels_of (defined_in text from)) [] 2 (rows_from text from)) (head_of 1 ++ addressed_from (defined_in text from) 0 (rows_from text from)) before after r
