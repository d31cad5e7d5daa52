-- What check says of a word where it stands: "then each word in address order (form, 20, 21, 22)".
-- A word that is refused keeps its reader's refusal, whole.
use Rattle.std.specs.Prelude.{ℕ, zero, suc, ◌+◌, ◌-◌, ◌≡◌, Bool, false, not, ◌||◌, ◌&&◌, List, [], ◌∷◌, eqb, length, get_or, drop}
use Rattle.instruction.specs.Bits.{◌gives◌else◌}
use Rattle.instruction.specs.Form.{numbered}
use Rattle.instruction.specs.Word.{spelled_by}
use Rattle.instruction.specs.declared.Instruction.{Instruction}
use Rattle.instruction.specs.declared.Refusal.{Refusal}
use Rattle.instruction.specs.declared.Rules.{Rules}
use Rattle.reader.specs.Reading.{Reading, reading_of}
use Rattle.std.specs.declared.result.Result.TheVariants.{Ok, Err}
use Rattle.sequence.specs.Bounds.{group_size}
use Rattle.sequence.specs.Placing.{is_engine, placing_of}

-- "Engine words are op codes 0, 1 and 10": by its op code, whatever else is wrong with it
unfoldable pub is_engine_word : ℕ → Bool
is_engine_word word = is_engine (spelled_by word).body

-- the write flag, bit 56
unfoldable pub is_high : ℕ → Bool
is_high word = not (eqb (spelled_by word).write 0)

-- "upward from it, an engine word with the flag high comes within seven words and only low engine words lie between": within k words of those above
unfoldable pub closes : ℕ → List ℕ → Bool
closes zero above = false
closes (suc k) [] = false
closes (suc k) (word ∷ above) = is_engine_word word && (is_high word || closes k above)

-- "22": a low word that does not pass
unfoldable pub left_open : Instruction → List ℕ → Bool
left_open i above = is_engine i.body && eqb i.write 0 && not (closes (group_size - 1) above)

-- 20, 21, 22, and 0 where none is given
unfoldable pub stands_refused : ℕ → ℕ → List ℕ → Instruction → ℕ
stands_refused wave n above i =
    not (eqb (placing_of wave n i.body) 0) gives placing_of wave n i.body
    else left_open i above gives 22
    else 0

-- form first
abbrev pub refused_as : ℕ → ℕ → List ℕ → Reading → Refusal
refused_as wave n above (Err r) = r
refused_as wave n above (Ok i) = numbered (stands_refused wave n above i)

-- the refusal of the word at an address; number 0 passes
unfoldable pub word_refusal : Rules → ℕ → List ℕ → ℕ → Refusal
word_refusal rules wave words a = refused_as wave (length words) (drop (a + 1) words) (reading_of rules (get_or words a 0))

abbrev pub Passes : Rules → ℕ → List ℕ → ℕ → Type 0
Passes rules wave words a = (word_refusal rules wave words a).number ≡ 0
