-- Labels of a listing. Document 02, CR 7: "any labels of 1 to 16 letters or digits".
-- Letters and digits are ASCII, and case matters.
use Rattle.std.specs.Prelude.{ℕ, Bool, true, false, ◌||◌, ◌&&◌, List, [], ◌∷◌, leb, length}
use Rattle.text.specs.Cut.{same_text}
use Rattle.text.specs.Number.{between, is_digit}

-- "1 to 16"
abbrev pub label_size : ℕ
label_size = 16

-- "A" to "Z", "a" to "z"
abbrev pub is_letter : ℕ → Bool
is_letter b = between 65 90 b || between 97 122 b

-- "letters or digits"
abbrev pub is_label_byte : ℕ → Bool
is_label_byte b = is_digit b || is_letter b

abbrev pub all_label_bytes : List ℕ → Bool
all_label_bytes [] = true
all_label_bytes (b ∷ bs) = is_label_byte b && all_label_bytes bs

abbrev pub is_label : List ℕ → Bool
is_label bs = leb 1 (length bs) && (leb (length bs) label_size && all_label_bytes bs)

-- whether a name is one of these
abbrev pub among : List ℕ → List (List ℕ) → Bool
among name [] = false
among name (x ∷ xs) = same_text x name || among name xs
