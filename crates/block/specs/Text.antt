-- A block text judged and translated. Document 02, CR 5: "then the first bad line with its number ..; last, with line 0, 54 .., 55".
-- What the words are stands in nest; here is which texts have any.
use Rattle.std.specs.Prelude.{ℕ, ◌+◌, ◌≡◌, List, [], ◌∷◌, ◌++◌, map, ltb, eqb, length, drop}
use Rattle.instruction.specs.Bits.{pick, ◌gives◌else◌}
use Rattle.sequence.specs.Bounds.{word_limit, wave_limit}
use Rattle.text.specs.Cut.{rows_in}
use Rattle.nest.specs.Block.{Block, block_in}
use Rattle.nest.specs.Layout.{size_of, words_of}
use Rattle.nest.specs.declared.Line.{Line}
use Rattle.block_line.specs.Line.{line_of, line_number, level_after}
use Rattle.text.specs.Told.{Told, accepted, refused_at, number_in}

-- ---- the text

abbrev pub lines_in : List ℕ → List Line
lines_in text = map line_of (rows_in text)

-- what block a text is
abbrev pub block_of : List ℕ → Block
block_of text = block_in (lines_in text) 0

-- ---- what is told of it

-- "the first bad line with its number": lines from a line on, so many repeats being open;
-- "A `repeat` never closed is 52 at the line after the last."
unfoldable pub judged : ℕ → ℕ → ℕ → List Line → Told
judged wave at level [] = pick (eqb level 0) (accepted 0) (refused_at 52 at)
judged wave at level (line ∷ lines) =
    pick (eqb (line_number wave level line) 0) (judged wave (at + 1) (level_after line level) lines) (refused_at (line_number wave level line) at)

-- "54 more than 65,536 words, 55 no room"
unfoldable pub room_refused : ℕ → ℕ → ℕ
room_refused room size = ltb word_limit size gives 54 else ltb room size gives 55 else 0

unfoldable pub fitted : ℕ → ℕ → Told
fitted room size = pick (eqb (room_refused room size) 0) (accepted size) (refused_at (room_refused room size) 0)

-- "Refusals: 3 first", then the lines, then what all of it comes to
unfoldable pub translation : ℕ → ℕ → List ℕ → Told
translation wave room text =
    pick (ltb wave_limit wave) (refused_at 3 0)
    (pick (eqb (number_in (judged wave 1 0 (lines_in text))) 0) (fitted room (size_of (block_of text))) (judged wave 1 0 (lines_in text)))

-- what `block` answers, and what it leaves in the buffer: "A refusal leaves the lent words untouched."
pub record Translates (wave : ℕ) (text before after : List ℕ) (r : Told) : Type 0 where
  pub answer : r ≡ translation wave (length before) text
  pub words : after ≡ pick (eqb (number_in r) 0) (words_of (block_of text) ++ drop (size_of (block_of text)) before) before
