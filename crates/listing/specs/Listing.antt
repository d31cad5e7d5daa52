-- The listing of raw words. Document 01, "The listing program".
-- "It reads raw words .., eight bytes each, most significant first, at most 2,048."
use Rattle.std.specs.Prelude.{ℕ, zero, suc, ◌+◌, ◌-◌, ◌*◌, ◌/◌, ◌%◌, ◌<◌, ◌≡◌, Bool, not, ◌||◌, List, [], ◌∷◌, ◌++◌, map, ltb, eqb, leb, length, get_or, drop}
use Rattle.instruction.specs.Bits.{pick}
use Rattle.instruction.specs.Table.{code_of, is_noop, is_ignored, values_of}
use Rattle.instruction.specs.Form.{tells_bit}
use Rattle.instruction.specs.declared.Refusal.{Refusal}
use Rattle.instruction.specs.declared.Rules.{Rules}
use Rattle.instruction.specs.declared.Instruction.{Instruction}
use Rattle.instruction.specs.declared.Body.{Body}
use Rattle.instruction.specs.declared.Body.TheVariants.{Wait, Sync}
use Rattle.instruction.specs.Word.{word_bytes, byte_span}
use Rattle.reader.specs.Reading.{Reading, reading_of}
use Rattle.std.specs.declared.result.Result.TheVariants.{Ok, Err}
use Rattle.names.specs.Names.{name_of}
use Rattle.text.specs.Line.{Entry, name, number, Line, line_text, text_of}

-- ---- words

-- "most significant first": the number that k bytes make, from a place on
abbrev pub big_endian : List ℕ → ℕ → ℕ → ℕ
big_endian bytes from zero = 0
big_endian bytes from (suc k) = big_endian bytes from k * byte_span + get_or bytes (from + k) 0

abbrev pub word_at : List ℕ → ℕ → ℕ
word_at bytes a = big_endian bytes (a * word_bytes) word_bytes

-- n words, from an address on
abbrev pub words_from : List ℕ → ℕ → ℕ → List ℕ
words_from bytes a zero = []
words_from bytes a (suc n) = word_at bytes a ∷ words_from bytes (a + 1) n

-- ---- lines

-- "the table's fields left to right .. (WAIT, SYNC, RETURN, LOAD_CMP show none ..)"
abbrev pub shows_none : Body → Bool
shows_none b = eqb (code_of b) (code_of Wait) || eqb (code_of b) (code_of Sync) || is_ignored (code_of b)

abbrev pub shown_of : Body → List ℕ
shown_of b = pick (shows_none b) [] (values_of b)

-- "address, name, engine select, write flag, and the table's fields"; "NOOP only address and name"
abbrev pub entries_of : Instruction → List Entry
entries_of i = name (name_of i.body) ∷ pick (is_noop i.body) [] (number i.engine ∷ number i.write ∷ map number (shown_of i.body))

-- "number"; for a bit that is not named "the `BAD` line prints 11 and then the finer number and the bit"
abbrev pub bad_numbers : Refusal → List ℕ
bad_numbers r = pick (tells_bit r.number) (11 ∷ r.number ∷ r.bit ∷ []) (r.number ∷ [])

-- "A word that fails form prints address, `BAD`, number."
abbrev pub entries_in : Reading → List Entry
entries_in (Ok i) = entries_of i
entries_in (Err r) = name "BAD" ∷ map number (bad_numbers r)

abbrev pub line_of : Rules → ℕ → ℕ → Line
line_of rules a word = record { first = number a; rest = entries_in (reading_of rules word) }

-- the lines of words, from an address on
abbrev pub word_lines : Rules → ℕ → List ℕ → List Line
word_lines rules a [] = []
word_lines rules a (w ∷ ws) = line_of rules a w ∷ word_lines rules (a + 1) ws

-- the lines of n words of an input, from an address on
abbrev pub lines_from : Rules → List ℕ → ℕ → ℕ → List Line
lines_from rules bytes a n = word_lines rules a (words_from bytes a n)

-- ---- the listing

-- "at most 2,048"
abbrev pub listed_words : ℕ
listed_words = 2048

-- "`aps2-listing`, tab, `1`", the number being that of the edition
abbrev pub header_of : ℕ → Line
header_of edition = record { first = name "aps2-listing"; rest = number edition ∷ [] }

abbrev pub head_of : ℕ → List ℕ
head_of edition = line_text (header_of edition).first (header_of edition).rest

abbrev pub header : Line
header = header_of 1

abbrev pub header_text : List ℕ
header_text = head_of 1

-- words as they are listed, however many
abbrev pub listed : Rules → List ℕ → List ℕ
listed rules words = text_of (header ∷ word_lines rules 0 words)

-- "`refused`, tab, `8`"
abbrev pub refused : ℕ → Line
refused n = record { first = name "refused"; rest = number n ∷ [] }

-- "A byte count not divisible by 8 prints only .. 8; more than 2,048 words only .. 9; 8 first. An empty input prints the header line."
abbrev pub lines_of : Rules → List ℕ → List Line
lines_of rules bytes =
    pick (not (eqb (length bytes % word_bytes) 0)) (refused 8 ∷ [])
    (pick (ltb listed_words (length bytes / word_bytes)) (refused 9 ∷ [])
    (header ∷ lines_from rules bytes 0 (length bytes / word_bytes)))

unfoldable pub listing_of : Rules → List ℕ → List ℕ
listing_of rules bytes = text_of (lines_of rules bytes)

-- what `list` and `line` answer, and what they leave in the buffer: the text where it fits, and else what was there
pub record Listed (text before after : List ℕ) (r : ℕ) : Type 0 where
  pub size : r ≡ length text
  pub out : after ≡ pick (leb (length text) (length before)) (text ++ drop (length text) before) before

-- ---- an input that is too long to be kept

-- bytes that are enough to tell the listing
abbrev pub heard_size : ℕ
heard_size = word_bytes * (listed_words + 2)

-- how many bytes to hand over of so many: those of a long input only tell whether they are whole words, and that they are too many
abbrev pub heard_of : ℕ → ℕ
heard_of total = pick (ltb total heard_size) total (heard_size - word_bytes + total % word_bytes)

-- bytes in place of an input have its listing
abbrev pub HeardSame : Type 0
HeardSame =
    (rules : Rules) (input bytes : List ℕ) → length bytes ≡ heard_of (length input) → (length input < heard_size → bytes ≡ input)
    → listing_of rules bytes ≡ listing_of rules input

-- ---- what the functions ask

-- no line is longer
abbrev pub line_size : ℕ
line_size = 84

-- the longest listing: the header and a line for each word
abbrev pub page_size : ℕ
page_size = line_size * (listed_words + 1)
