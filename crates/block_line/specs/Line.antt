-- A line of a block text. Document 02, CR 5: "`play` address count, `hold` address count (T/A), `repeat` N with N from 1 to 65,536, and `end`".
-- What it says, and its number where it stands, so many repeats being open before it.
use Rattle.std.specs.Prelude.{ℕ, suc, ◌-◌, not, List, [], ◌∷◌, map, eqb, leb, length, get_or}
use Rattle.instruction.specs.Bits.{pick, ◌gives◌else◌}
use Rattle.instruction.specs.declared.WaveformFields.{WaveformFields}
use Rattle.text.specs.Cut.{Row, fields_in, same_text}
use Rattle.text.specs.Line.{letters}
use Rattle.text.specs.Number.{value, between}
use Rattle.fields.specs.Fields.{all_numbers}
use Rattle.nest.specs.Block.{repeat_limit, nest_limit, pulse_number}
use Rattle.nest.specs.declared.Line.{Line}
use Rattle.nest.specs.declared.Line.TheVariants.{Pulse, Repeat, End, Unshaped}

-- ---- what it says

-- "address count", played or held (T/A)
abbrev pub pulse_of : ℕ → List ℕ → WaveformFields
pulse_of ta vs = record { op = 0; ta = ta; count = record { 0 = get_or vs 1 0 }; address = record { 0 = get_or vs 0 0 } }

-- a line where there are just so many numbers
abbrev pub having : ℕ → List ℕ → Line → Line
having count vs line = pick (eqb (length vs) count) line Unshaped

abbrev pub line_named : List ℕ → List ℕ → Line
line_named name vs =
    pick (same_text name (letters "play")) (having 2 vs (Pulse (pulse_of 0 vs)))
    (pick (same_text name (letters "hold")) (having 2 vs (Pulse (pulse_of 1 vs)))
    (pick (same_text name (letters "repeat")) (having 1 vs (Repeat (get_or vs 0 0)))
    (pick (same_text name (letters "end")) (having 0 vs End)
    Unshaped)))

-- a name, and the numbers behind it
abbrev pub line_in : List (List ℕ) → Line
line_in [] = Unshaped
line_in (name ∷ ns) = pick (all_numbers ns) (line_named name (map value ns)) Unshaped

-- "numbers and line feeds as in 61"
unfoldable pub line_of : Row → Line
line_of row = pick row.ended (line_in (fields_in row)) Unshaped

-- ---- its number

-- "50 line shape ..., 51 N outside its range, 52 `end` without `repeat` .., 53 nest deeper than 16, then the writer's numbers and 20"
unfoldable pub line_number : ℕ → ℕ → Line → ℕ
line_number wave level Unshaped = 50
line_number wave level (Repeat n) = not (between 1 repeat_limit n) gives 51 else leb nest_limit level gives 53 else 0
line_number wave level End = eqb level 0 gives 52 else 0
line_number wave level (Pulse f) = pulse_number wave f

-- how many repeats are open behind it
unfoldable pub level_after : Line → ℕ → ℕ
level_after (Pulse f) level = level
level_after (Repeat n) level = suc level
level_after End level = level - 1
level_after Unshaped level = level
