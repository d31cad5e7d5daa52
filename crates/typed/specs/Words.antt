-- Words as they come in, byte by byte: as hexadecimal text, or raw, eight bytes each, most significant first; and numbers of a byte in decimal.
-- Text: words of sixteen digits, parted by white space; # to the end of a line is a comment. Decimal: each number has a comma behind it.
use Rattle.std.specs.Prelude.{ℕ, zero, suc, ◌+◌, ◌*◌, ◌-◌, ◌/◌, ◌%◌, ◌^◌, ◌≤◌, ◌<◌, ◌≡◌, Bool, false, not, ◌&&◌, ◌||◌, List, [], ◌∷◌, ◌++◌, ltb, leb, eqb, length, Option, Some, None, is_some}
use Rattle.instruction.specs.Bits.{pick}
use Rattle.instruction.specs.Word.{word_bytes, byte_span}
use Rattle.buffer.specs.Put.{put}
use Rattle.text.specs.Cut.{line_feed}
use Rattle.text.specs.Number.{between, is_digit}
use Rattle.typed.specs.declared.Spelling.{Spelling}
use Rattle.typed.specs.declared.Spelling.TheVariants.{Hex, Raw, Decimal}
use Rattle.typed.specs.declared.Place.{Place}
use Rattle.typed.specs.declared.Taken.{Taken}
use Rattle.typed.specs.declared.Trouble.{Trouble}
use Rattle.typed.specs.declared.Trouble.TheVariants.{NoDigit, FewDigits, ManyDigits, ManyWords, NotWhole}

-- ---- letters

-- "#"
abbrev pub hash : ℕ
hash = 35

-- ","
abbrev pub comma : ℕ
comma = 44

-- a space, or tab, line feed, vertical tab, form feed, carriage return
abbrev pub is_white : ℕ → Bool
is_white b = eqb b 32 || between 9 13 b

-- what a hexadecimal digit is worth; nothing where it is none
abbrev pub hex_digit : ℕ → Option ℕ
hex_digit b = pick (is_digit b) (Some (b - 48)) (pick (between 97 102 b) (Some (b - 87)) (pick (between 65 70 b) (Some (b - 55)) None))

-- ---- where in the text

-- one more, as far as can be counted
abbrev pub later : ℕ → ℕ
later x = pick (ltb x (2 ^ 64 - 1)) (x + 1) x

abbrev pub past : ℕ → Place → Place
past b p = pick (eqb b line_feed) (record { line = later p.line; column = 1 }) (record { line = p.line; column = later p.column })

-- ---- what is known after some bytes

abbrev pub start : Taken
start = record { count = 0; value = 0; digits = 0; place = record { line = 1; column = 1 }; comment = false; trouble = None }

-- something is wrong, and there it stays
abbrev pub troubled : Trouble → Taken → Taken
troubled k s = record { count = s.count; value = s.value; digits = s.digits; place = s.place; comment = s.comment; trouble = Some k }

abbrev pub skipped : Place → Bool → ℕ → Taken → Taken
skipped p comment digits s = record { count = s.count; value = s.value; digits = digits; place = p; comment = comment; trouble = None }

-- one digit more, of so many that it can be, behind what there is room for; a new word starts from 0
abbrev pub grown : ℕ → ℕ → ℕ → Taken → ℕ
grown span base d s = pick (eqb s.digits 0) 0 s.value % span * base + d

abbrev pub hex_grown : ℕ → Taken → ℕ
hex_grown d s = grown (2 ^ 60) 16 d s

abbrev pub raw_grown : ℕ → Taken → ℕ
raw_grown d s = grown (2 ^ 56) byte_span d s

abbrev pub decimal_grown : ℕ → Taken → ℕ
decimal_grown b s = grown byte_span 10 (b - 48) s

-- a digit more, of a word that goes on or is whole
abbrev pub onward : ℕ → ℕ → ℕ → Place → Taken
onward count value digits p = record { count = count; value = value; digits = digits; place = p; comment = false; trouble = None }

abbrev pub word_digits : ℕ
word_digits = 16

-- a word has begun and is not whole
abbrev pub is_part : Taken → Bool
is_part s = not (eqb s.digits 0) && ltb s.digits word_digits

-- ---- one byte of text

-- a word of fewer digits is none
abbrev pub parted_by : ℕ → Taken → Taken
parted_by b s = pick (is_part s) (troubled FewDigits s) (skipped (past b s.place) (eqb b hash) 0 s)

-- nor is one of more; and there is room for so many
abbrev pub digit_on : ℕ → ℕ → ℕ → Taken → Taken
digit_on room b d s =
    pick (leb word_digits s.digits) (troubled ManyDigits s)
    (pick (ltb (s.digits + 1) word_digits) (onward s.count (hex_grown d s) (s.digits + 1) (past b s.place))
    (pick (leb room s.count) (troubled ManyWords s)
    (onward (s.count + 1) (hex_grown d s) word_digits (past b s.place))))

-- by what it is worth
abbrev pub worth_on : ℕ → ℕ → Option ℕ → Taken → Taken
worth_on room b None s = troubled NoDigit s
worth_on room b (Some d) s = digit_on room b d s

abbrev pub text_on : ℕ → ℕ → Taken → Taken
text_on room b s =
    pick s.comment (skipped (past b s.place) (not (eqb b line_feed)) s.digits s)
    (pick (is_white b || eqb b hash) (parted_by b s)
    (worth_on room b (hex_digit b) s))

-- ---- one raw byte

abbrev pub raw_on : ℕ → ℕ → Taken → Taken
raw_on room b s =
    pick (ltb s.digits (word_bytes - 1)) (onward s.count (raw_grown b s) (s.digits + 1) s.place)
    (pick (leb room s.count) (troubled ManyWords s) (onward (s.count + 1) (raw_grown b s) 0 s.place))

-- ---- one byte of decimal numbers

-- a number of no digits is none; and there is room for so many
abbrev pub closed_on : ℕ → ℕ → Taken → Taken
closed_on room b s =
    pick (eqb s.digits 0) (troubled FewDigits s)
    (pick (leb room s.count) (troubled ManyWords s) (onward (s.count + 1) s.value 0 (past b s.place)))

-- nor is one a number that no byte has
abbrev pub decimal_digit_on : ℕ → Taken → Taken
decimal_digit_on b s = pick (leb byte_span (decimal_grown b s)) (troubled ManyDigits s) (onward s.count (decimal_grown b s) 1 (past b s.place))

abbrev pub decimal_on : ℕ → ℕ → Taken → Taken
decimal_on room b s = pick (eqb b comma) (closed_on room b s) (pick (is_digit b) (decimal_digit_on b s) (troubled NoDigit s))

-- ---- bytes

abbrev pub spelled_on : Spelling → ℕ → ℕ → Taken → Taken
spelled_on Hex room b s = text_on room b s
spelled_on Raw room b s = raw_on room b s
spelled_on Decimal room b s = decimal_on room b s

-- after trouble nothing is read any more
abbrev pub byte_on : Spelling → ℕ → ℕ → Taken → Taken
byte_on spelling room b s = pick (is_some s.trouble) s (spelled_on spelling room b s)

-- the word that a byte made whole
abbrev pub new_word : Taken → Taken → List ℕ
new_word s t = pick (ltb s.count t.count) (t.value ∷ []) []

abbrev pub taken_of : Spelling → ℕ → Taken → List ℕ → Taken
taken_of spelling room s [] = s
taken_of spelling room s (b ∷ bs) = taken_of spelling room (byte_on spelling room b s) bs

abbrev pub words_of : Spelling → ℕ → Taken → List ℕ → List ℕ
words_of spelling room s [] = []
words_of spelling room s (b ∷ bs) = new_word s (byte_on spelling room b s) ++ words_of spelling room (byte_on spelling room b s) bs

-- a digit is one of so many, and there is room for it
pub record CanGrow (span base d : ℕ) : Type 0 where
  pub digit : d < base
  pub some : 0 < span
  pub room : span * base ≤ 2 ^ 64

-- what one byte does
pub record TakesOne (spelling : Spelling) (s : Taken) (b : ℕ) (before after : List ℕ) (r : Taken) : Type 0 where
  pub state : r ≡ byte_on spelling (length before) b s
  pub words : after ≡ put before s.count (new_word s r)

-- what `take` answers, and what it leaves in the words
pub record Takes (spelling : Spelling) (s : Taken) (text before after : List ℕ) (r : Taken) : Type 0 where
  pub state : r ≡ taken_of spelling (length before) s text
  pub words : after ≡ put before s.count (words_of spelling (length before) s text)

-- ---- at the end

-- what is wrong when nothing more comes: a word may be left in part
abbrev pub end_trouble : Spelling → Taken → Option Trouble
end_trouble Hex s = pick (is_part s) (Some FewDigits) None
end_trouble Raw s = pick (not (eqb s.digits 0)) (Some NotWhole) None
end_trouble Decimal s = pick (not (eqb s.digits 0)) (Some NotWhole) None

abbrev pub trouble_of : Spelling → Taken → Option Trouble
trouble_of spelling s = pick (is_some s.trouble) s.trouble (end_trouble spelling s)

-- ---- a word as raw bytes

-- the byte that stands so many places before the last
abbrev pub byte_at : ℕ → ℕ → ℕ
byte_at w k = w / 2 ^ (8 * k) % byte_span

-- most significant first
abbrev pub raw_bytes : ℕ → List ℕ
raw_bytes w = byte_at w 7 ∷ byte_at w 6 ∷ byte_at w 5 ∷ byte_at w 4 ∷ byte_at w 3 ∷ byte_at w 2 ∷ byte_at w 1 ∷ byte_at w 0 ∷ []

-- ---- words as text

-- a digit, in lower case
abbrev pub hex_letter : ℕ → ℕ
hex_letter d = pick (ltb d 10) (48 + d) (87 + d)

-- the last digits of a word, most significant first
abbrev pub last_digits : ℕ → ℕ → List ℕ
last_digits zero w = []
last_digits (suc k) w = hex_letter (w / 16 ^ k % 16) ∷ last_digits k w

-- a word to a line
abbrev pub hex_text : List ℕ → List ℕ
hex_text [] = []
hex_text (w ∷ ws) = last_digits word_digits w ++ (line_feed ∷ hex_text ws)

abbrev pub AreWords : List ℕ → Type 0
AreWords [] = Unit {0}
AreWords (w ∷ ws) = (w < 2 ^ 64) × AreWords ws

-- words that are written as text read back as they were
pub record ReadBack (room : ℕ) (ws text : List ℕ) : Type 0 where
  pub words : words_of Hex room start text ≡ ws
  pub well : trouble_of Hex (taken_of Hex room start text) ≡ None

abbrev pub HexReadsBack : Type 0
HexReadsBack = (room : ℕ) (ws : List ℕ) → AreWords ws → length ws ≤ room → ReadBack room ws (hex_text ws)
