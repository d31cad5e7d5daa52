-- A listing read back. Document 02, CR 1: "Please read the listing of document 01, decimals without leading zeros."
-- Line by line: what is wrong with it, or the word that the writer writes for it; names and fields are those that the listing shows.
use Rattle.std.specs.Prelude.{ℕ, suc, ◌+◌, ◌-◌, ◌≡◌, Bool, true, not, ◌||◌, ◌&&◌, List, [], ◌∷◌, ◌++◌, map, ltb, eqb, leb, length, get_or, take, drop}
use Rattle.instruction.specs.Bits.{pick, ◌gives◌else◌}
use Rattle.instruction.specs.Form.{filled}
use Rattle.instruction.specs.Table.{body_of}
use Rattle.instruction.specs.declared.Instruction.{Instruction}
use Rattle.instruction.specs.declared.Rules.{Rules}
use Rattle.buffer.specs.Put.{put}
use Rattle.text.specs.Cut.{Row, rows_in, fields_in, same_text}
use Rattle.text.specs.Number.{value, is_number}
use Rattle.fields.specs.Fields.{all_numbers}
use Rattle.names.specs.Names.{name_count, row_named}
use Rattle.listing.specs.Listing.{entries_of, head_of}
use Rattle.writer.specs.Writing.{not_written, written_of}
use Rattle.writer.specs.declared.Written.{Written}
use Rattle.listing_reader.specs.declared.ReadBack.{ReadBack}
use Rattle.listing_reader.specs.declared.line.Shape.{Shape}

-- ---- a line

-- "address, name, engine select, write flag, and the table's fields"
abbrev pub address_in : List (List ℕ) → List ℕ
address_in fs = get_or fs 0 []

abbrev pub name_in : List (List ℕ) → List ℕ
name_in fs = get_or fs 1 []

abbrev pub numbers_in : List (List ℕ) → List (List ℕ)
numbers_in fs = drop 2 fs

-- "unknown name or `BAD`" is what no instruction is called
abbrev pub is_known : List (List ℕ) → Bool
is_known fs = ltb (row_named (name_in fs)) name_count

-- an instruction by its name's row of the table, with engine select, write flag and the table's fields
abbrev pub instruction_of : ℕ → List ℕ → Instruction
instruction_of row vs = record { engine = get_or vs 0 0; write = get_or vs 1 0; body = body_of row (drop 2 vs) }

-- how many fields the listing shows behind a name
abbrev pub field_count : ℕ → ℕ
field_count row = length (entries_of (instruction_of row [])) - 1

-- what a line asks the writer for
abbrev pub wish_in : List (List ℕ) → Instruction
wish_in fs = instruction_of (row_named (name_in fs)) (map value (numbers_in fs))

-- "the fields its name has": as many as the listing shows behind the name
abbrev pub has_fields : ℕ → List (List ℕ) → Bool
has_fields row ns = eqb (suc (length ns)) (length (entries_of (instruction_of row (map value ns)))) && all_numbers ns

-- "61 line feed missing, a number not plain decimal below 2^64, or not the fields its name has (for an unknown name or `BAD` only
-- line feed and address are judged)"; a line without a second field has no name
abbrev pub is_shaped : Bool → List (List ℕ) → Bool
is_shaped ended fs =
    ended && (is_number (address_in fs) && (leb 2 (length fs) && (not (is_known fs) || has_fields (row_named (name_in fs)) (numbers_in fs))))

-- "61 .., 62 address not counting up from 0, 63 unknown name or `BAD`"
abbrev pub shape_number : ℕ → Bool → List (List ℕ) → ℕ
shape_number a ended fs =
    not (is_shaped ended fs) gives 61
    else not (eqb (value (address_in fs)) a) gives 62
    else not (is_known fs) gives 63
    else 0

-- "then the writer's own numbers"
abbrev pub fields_read : Rules → ℕ → Bool → List (List ℕ) → Written
fields_read rules a ended fs = pick (filled (shape_number a ended fs)) (not_written (shape_number a ended fs)) (written_of rules (wish_in fs))

-- a line that counts as the one of address a
unfoldable pub line_read : Rules → ℕ → Row → Written
line_read rules a row = fields_read rules a row.ended (fields_in row)

-- "64 no room"; "on a line in this order"
unfoldable pub line_number : Rules → ℕ → ℕ → Row → ℕ
line_number rules room a row = filled (line_read rules a row).number gives (line_read rules a row).number else leb room a gives 64 else 0

-- the word of a line with which nothing is wrong
unfoldable pub word_in : Rules → Row → ℕ
word_in rules row = (written_of rules (wish_in (fields_in row))).word

-- ---- a text

-- "Each refusal tells its line, from 1"; the header is line 1, and after a refusal there are no words
abbrev pub refused_at : ℕ → ℕ → ReadBack
refused_at number line = record { number = number; line = line; count = 0 }

-- "the first bad line wins": lines from an address on
unfoldable pub told_of : Rules → ℕ → ℕ → List Row → ReadBack
told_of rules room a [] = record { number = 0; line = 0; count = a }
told_of rules room a (row ∷ rows) = pick (eqb (line_number rules room a row) 0) (told_of rules room (a + 1) rows) (refused_at (line_number rules room a row) (a + 2))

-- "60 header, its line feed included": a text of an edition
abbrev pub is_edition : ℕ → List ℕ → Bool
is_edition edition text = same_text (take (length (head_of edition)) text) (head_of edition)

-- the lines behind the header of an edition
abbrev pub rows_behind : ℕ → List ℕ → List Row
rows_behind edition text = rows_in (drop (length (head_of edition)) text)

abbrev pub is_headed : List ℕ → Bool
is_headed text = is_edition 1 text

abbrev pub body_rows : List ℕ → List Row
body_rows text = rows_behind 1 text

-- 60 is told of line 1, and else what the lines tell
unfoldable pub read_back : Rules → ℕ → List ℕ → ReadBack
read_back rules room text = pick (is_headed text) (told_of rules room 0 (body_rows text)) (refused_at 60 1)

abbrev pub words_in : Rules → List ℕ → List ℕ
words_in rules text = map (word_in rules) (body_rows text)

-- what `read_listing` answers, and what it leaves in the buffer: "The words go to a lent buffer, untouched after a refusal."
pub record ReadsBack (rules : Rules) (text before after : List ℕ) (r : ReadBack) : Type 0 where
  pub answer : r ≡ read_back rules (length before) text
  pub words : after ≡ pick (eqb r.number 0) (words_in rules text ++ drop (length (words_in rules text)) before) before

-- ---- what the functions tell

-- what is wrong with a line that has a known name and these fields behind it
abbrev pub known_number : ℕ → ℕ → ℕ → List (List ℕ) → ℕ
known_number row address a ns = not (has_fields row ns) gives 61 else not (eqb address a) gives 62 else 0

-- and, where nothing is, what its fields say
pub record KnownShape (row address a : ℕ) (ns : List (List ℕ)) (before after : List ℕ) (r : ℕ) : Type 0 where
  pub number : r ≡ known_number row address a ns
  pub values : r ≡ 0 → after ≡ put before 0 (map value ns)

-- what is told of a line before the writer is asked: what is wrong with it, or the row of its name, where its name starts, and what its fields say
pub record Shaped (a : ℕ) (fs : List (List ℕ)) (before after : List ℕ) (r : Shape) : Type 0 where
  pub number : r.number ≡ shape_number a true fs
  pub row : r.number ≡ 0 → r.row ≡ row_named (name_in fs)
  pub from : r.number ≡ 0 → r.from ≡ length (address_in fs) + 1
  pub values : r.number ≡ 0 → after ≡ put before 0 (map value (numbers_in fs))
