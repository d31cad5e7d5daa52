-- Lines that are taken from a text one after the other: it carries the code, and needs no belief.
-- A line of one of the four shapes is read once, and the next one starts behind it; behind another none is read.
use Rattle.std.specs.Prelude.{ℕ, ◌+◌, List, [], ◌∷◌, ◌++◌, map, length, drop, Option, Some, None}
use Rattle.instruction.specs.Bits.{pick}
use Rattle.text.specs.Cut.{tab, line_feed, rows_in, row_at, place_of, starts_with}
use Rattle.text.specs.Line.{letters}
use Rattle.nest.specs.declared.Line.{Line}
use Rattle.nest.specs.declared.Line.TheVariants.{Pulse, Repeat, End, Unshaped}
use Rattle.block_line.specs.Line.{line_of}
use Rattle.block_line.specs.declared.Taken.{Taken}

-- the lines from a byte on
abbrev pub lines_from : List ℕ → ℕ → List Line
lines_from text at = map line_of (rows_in (drop at text))

-- the first of them
abbrev pub line_at : List ℕ → ℕ → Line
line_at text at = line_of (row_at text at (place_of line_feed at text))

-- where the next one starts: behind the line feed, or at the text's end
abbrev pub next_after : Line → ℕ → ℕ → ℕ
next_after (Pulse f) feed end = feed + 1
next_after (Repeat n) feed end = feed + 1
next_after End feed end = feed + 1
next_after Unshaped feed end = end

abbrev pub taken : Line → ℕ → Taken
taken line next = record { line = line; next = next }

abbrev pub taken_at : List ℕ → ℕ → Taken
taken_at text at = taken (line_at text at) (next_after (line_at text at) (place_of line_feed at text) (length text))

-- ---- names

-- a name and the byte behind it
abbrev pub play_name : List ℕ
play_name = letters "play" ++ (tab ∷ [])

abbrev pub hold_name : List ℕ
hold_name = letters "hold" ++ (tab ∷ [])

abbrev pub repeat_name : List ℕ
repeat_name = letters "repeat" ++ (tab ∷ [])

abbrev pub end_name : List ℕ
end_name = letters "end" ++ (line_feed ∷ [])

-- T/A, where a text starts with those of a play or of a hold
abbrev pub held_in : List ℕ → Option ℕ
held_in bs = pick (starts_with play_name bs) (Some 0) (pick (starts_with hold_name bs) (Some 1) None)
