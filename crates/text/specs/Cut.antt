-- A text in bytes, cut at a byte: at line feeds into lines, at tabs into fields.
-- A line knows whether its line feed is there; nothing stands behind the last line feed of a text that is whole.
use Rattle.std.specs.Prelude.{ℕ, ◌+◌, ◌-◌, Bool, true, false, ◌||◌, ◌&&◌, List, [], ◌∷◌, ◌++◌, ltb, eqb, length, take, drop}
use Rattle.instruction.specs.Bits.{pick}

abbrev pub tab : ℕ
tab = 9

abbrev pub line_feed : ℕ
line_feed = 10

-- ---- cutting

-- a byte in front of the first of some pieces
abbrev pub onto : ℕ → List (List ℕ) → List (List ℕ)
onto b [] = (b ∷ []) ∷ []
onto b (p ∷ ps) = (b ∷ p) ∷ ps

-- the pieces between a byte: one more than there are of it
abbrev pub cut : ℕ → List ℕ → List (List ℕ)
cut x [] = [] ∷ []
cut x (b ∷ bs) = pick (eqb b x) ([] ∷ cut x bs) (onto b (cut x bs))

-- pieces with a byte between them
abbrev pub joined : ℕ → List (List ℕ) → List ℕ
joined x [] = []
joined x (p ∷ []) = p
joined x (p ∷ q ∷ ps) = p ++ (x ∷ joined x (q ∷ ps))

-- ---- lines and fields

-- a line that was written: what stands before its line feed, and whether that is there
pub record Row : Type 0 where
  pub bytes : List ℕ
  pub ended : Bool

-- the pieces between line feeds are lines with theirs, but for the last, which has none; where it is empty, it is no line
abbrev pub rows_of : List (List ℕ) → List Row
rows_of [] = []
rows_of ([] ∷ []) = []
rows_of ((b ∷ bs) ∷ []) = record { bytes = b ∷ bs; ended = false } ∷ []
rows_of (p ∷ q ∷ ps) = record { bytes = p; ended = true } ∷ rows_of (q ∷ ps)

abbrev pub rows_in : List ℕ → List Row
rows_in text = rows_of (cut line_feed text)

-- "tab fields"
abbrev pub fields_in : Row → List (List ℕ)
fields_in row = cut tab row.bytes

-- ---- alike

abbrev pub same_text : List ℕ → List ℕ → Bool
same_text [] [] = true
same_text [] (y ∷ ys) = false
same_text (x ∷ xs) [] = false
same_text (x ∷ xs) (y ∷ ys) = eqb x y && same_text xs ys

-- whether a number is one of a list's
abbrev pub has : ℕ → List ℕ → Bool
has x [] = false
has x (b ∷ bs) = eqb b x || has x bs

-- ---- what the functions tell

-- whether a text starts with another
abbrev pub starts_with : List ℕ → List ℕ → Bool
starts_with [] bs = true
starts_with (x ∷ xs) [] = false
starts_with (x ∷ xs) (b ∷ bs) = eqb b x && starts_with xs bs

-- what stands before the first of a byte, all where there is none
abbrev pub before : ℕ → List ℕ → List ℕ
before x [] = []
before x (b ∷ bs) = pick (eqb b x) [] (b ∷ before x bs)

-- the line from a place to its end
abbrev pub row_at : List ℕ → ℕ → ℕ → Row
row_at text at end = record { bytes = take (end - at) (drop at text); ended = ltb end (length text) }

-- the fields of a line behind the place where one has ended
abbrev pub fields_after : ℕ → List ℕ → List (List ℕ)
fields_after end line = pick (ltb end (length line)) (cut tab (drop (end + 1) line)) []

-- where the first of a byte stands from a place on; the text's end where there is none
abbrev pub place_of : ℕ → ℕ → List ℕ → ℕ
place_of x from text = from + length (before x (drop from text))

-- ---- what the functions ask

-- how many bytes are passed over at a time where a byte is looked for, and how many of them are looked at in one go
abbrev pub stride : ℕ
stride = 8

abbrev pub half : ℕ
half = 4
