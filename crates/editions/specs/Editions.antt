-- The two editions of a listing, line by line. Document 02, CR 7: "Listing edition 2, header number 2, drops the address field, gives REPEAT,
-- GOTO and CALL a label as target, and has lines `label`, tab, name before the word meant. PREFETCH keeps its number."
use Rattle.std.specs.Prelude.{ℕ, Bool, false, not, ◌||◌, ◌&&◌, List, [], ◌∷◌, ◌++◌, ltb, eqb, leb, length, get_or, take, drop}
use Rattle.instruction.specs.Bits.{pick, ◌gives◌else◌}
use Rattle.instruction.specs.Form.{filled}
use Rattle.instruction.specs.Table.{code_of}
use Rattle.instruction.specs.declared.WordAddress.{WordAddress}
use Rattle.instruction.specs.declared.Body.TheVariants.{Repeat, Goto, Call}
use Rattle.text.specs.Cut.{tab, line_feed, Row, fields_in, joined, same_text}
use Rattle.text.specs.Line.{letters}
use Rattle.text.specs.Number.{value}
use Rattle.fields.specs.Fields.{all_numbers}
use Rattle.names.specs.Names.{name_count, row_named}
use Rattle.listing_reader.specs.ReadBack.{name_in, numbers_in, shape_number, field_count}
use Rattle.label.specs.Label.{is_label, among}

-- ---- what both have

-- "REPEAT, GOTO and CALL", by the row of the table
abbrev pub jumps : ℕ → Bool
jumps row = let none : WordAddress = record { 0 = 0 } in eqb row (code_of (Repeat none)) || eqb row (code_of (Goto none)) || eqb row (code_of (Call none))

-- behind a name: engine select, write flag, and the target of a jump
abbrev pub target_of : List (List ℕ) → List ℕ
target_of ns = get_or ns 2 []

-- the same with another target
abbrev pub aimed : List ℕ → List (List ℕ) → List (List ℕ)
aimed target ns = take 2 ns ++ (target ∷ [])

-- a line: fields parted by tabs, and its line feed
abbrev pub line_of : List (List ℕ) → List ℕ
line_of fs = joined tab fs ++ (line_feed ∷ [])

-- ---- edition 1: address, name, and the fields that are shown of it

abbrev pub jumps_one : List (List ℕ) → Bool
jumps_one fs = jumps (row_named (name_in fs))

abbrev pub target_one : List (List ℕ) → ℕ
target_one fs = value (target_of (numbers_in fs))

-- "60 to 63 on the first bad line" as document 02, CR 1, has them; "from 1 to 2 only 21 target past the last word", of n
abbrev pub fields_number_one : ℕ → ℕ → Bool → List (List ℕ) → ℕ
fields_number_one n a ended fs =
    filled (shape_number a ended fs) gives shape_number a ended fs
    else (jumps_one fs && leb n (target_one fs)) gives 21
    else 0

-- a line that counts as the one of address a
unfoldable pub number_one : ℕ → ℕ → Row → ℕ
number_one n a row = fields_number_one n a row.ended (fields_in row)

-- ---- edition 2: name and fields, or `label` and a label

abbrev pub name_two : List (List ℕ) → List ℕ
name_two fs = get_or fs 0 []

abbrev pub fields_two : List (List ℕ) → List (List ℕ)
fields_two fs = drop 1 fs

-- "lines `label`, tab, name": told by the first field
abbrev pub is_label_line : List (List ℕ) → Bool
is_label_line fs = same_text (name_two fs) (letters "label")

-- the label that a label line defines
abbrev pub label_in : List (List ℕ) → List ℕ
label_in fs = get_or fs 1 []

abbrev pub is_known_two : List (List ℕ) → Bool
is_known_two fs = ltb (row_named (name_two fs)) name_count

abbrev pub jumps_two : List (List ℕ) → Bool
jumps_two fs = jumps (row_named (name_two fs))

abbrev pub target_two : List (List ℕ) → List ℕ
target_two fs = target_of (fields_two fs)

-- the fields that edition 1 has behind the name, "a label as target" of a jump
abbrev pub has_fields_two : ℕ → List (List ℕ) → Bool
has_fields_two row ns = eqb (length ns) (field_count row) && pick (jumps row) (all_numbers (take 2 ns) && is_label (target_of ns)) (all_numbers ns)

-- "a malformed label line or jump field is 61"; of an unknown name only the line feed is judged
abbrev pub is_shaped_two : Bool → List (List ℕ) → Bool
is_shaped_two ended fs =
    ended && pick (is_label_line fs) (eqb (length fs) 2 && is_label (label_in fs)) (not (is_known_two fs) || has_fields_two (row_named (name_two fs)) (fields_two fs))

-- "A label counts as defined when any well-shaped label line of the text defines it"
abbrev pub defines : Row → Bool
defines row = is_label_line (fields_in row) && is_shaped_two row.ended (fields_in row)

-- `"a word" for 66 is any later line that is no label line`
abbrev pub have_word : List Row → Bool
have_word [] = false
have_word (row ∷ rows) = not (is_label_line (fields_in row)) || have_word rows

-- "65 label defined twice (at the second), 66 label without a word": a label line, by the labels before it and the lines behind it
abbrev pub label_number : List (List ℕ) → List Row → List ℕ → ℕ
label_number before rows label = among label before gives 65 else not (have_word rows) gives 66 else 0

-- "67 label not defined": any other line, by the labels of the text
abbrev pub word_number : List (List ℕ) → List (List ℕ) → ℕ
word_number labels fs = (jumps_two fs && not (among (target_two fs) labels)) gives 67 else 0

abbrev pub fields_number_two : List (List ℕ) → List (List ℕ) → List Row → Bool → List (List ℕ) → ℕ
fields_number_two labels before rows ended fs =
    not (is_shaped_two ended fs) gives 61
    else not (is_label_line fs || is_known_two fs) gives 63
    else pick (is_label_line fs) (label_number before rows (label_in fs)) (word_number labels fs)

unfoldable pub number_two : List (List ℕ) → List (List ℕ) → List Row → Row → ℕ
number_two labels before rows row = fields_number_two labels before rows row.ended (fields_in row)
