-- What the functions of the translator ask and promise, over the lines that are left: it carries the code, and needs no belief.
-- A block is laid from a line on; what was laid and what is left come to the same at every line.
use Rattle.std.specs.Prelude.{ℕ, suc, ◌+◌, ◌≤◌, ◌≡◌, Bool, true, false, List, [], ◌∷◌, length, get_or}
use Rattle.nest.specs.Block.{Block, block_in, nest_limit}
use Rattle.nest.specs.Fair.{Fair}
use Rattle.nest.specs.Layout.{size_of, sum_of, raised, passed, sizes_of, starts_from, Sheet, sheet, laid}
use Rattle.nest.specs.declared.Line.{Line}
use Rattle.nest.specs.declared.Line.TheVariants.{Pulse, Repeat, End, Unshaped}
use Rattle.block_line.specs.Line.{level_after}
use Rattle.block_line.specs.Taking.{lines_from}
use Rattle.block.specs.Text.{lines_in, block_of, judged}
use Rattle.text.specs.Told.{Told, number_in}

-- ---- lines

-- what the judge lets through has a shape
abbrev pub AllShaped : List Line → Type 0
AllShaped [] = Unit {0}
AllShaped (line ∷ lines) = (line ≡ Unshaped → ⊥) × AllShaped lines

abbrev pub is_end : Line → Bool
is_end (Pulse f) = false
is_end (Repeat n) = false
is_end End = true
is_end Unshaped = false

-- ---- counting

-- the words of a line at its level: an end brings its RETURN
abbrev pub words_for : Line → ℕ
words_for (Pulse f) = 1
words_for (Repeat n) = 3
words_for End = 1
words_for Unshaped = 0

abbrev pub counted : List Line → ℕ → List ℕ → List ℕ
counted [] level sizes = sizes
counted (line ∷ lines) level sizes = counted lines (level_after line level) (raised sizes level (words_for line))

pub record Judges (wave : ℕ) (text before after : List ℕ) (r : Told) : Type 0 where
  pub answer : r ≡ judged wave 1 0 (lines_from text 0)
  pub sizes : (number_in r) ≡ 0 → after ≡ counted (lines_from text 0) 0 before
  pub few : (number_in r) ≡ 0 → sum_of after ≤ length text + 2

-- ---- laying

-- the rest of a block at a level can be laid: it is fair, and each level has room for it
pub record CanLay (b : Block) (level : ℕ) (heads words : List ℕ) : Type 0 where
  pub wave : ℕ
  pub fair : Fair wave level b
  pub levels : length heads ≡ suc nest_limit
  pub deep : level ≤ nest_limit
  pub room : (j : ℕ) → get_or (passed b level heads) j 0 ≤ length words

-- from some lines and a sheet to later ones: what will be there at the end is the same
pub record Onward (lines : List Line) (level : ℕ) (s : Sheet) (lines' : List Line) (s' : Sheet) : Type 0 where
  pub outer : (out : ℕ) → block_in lines' (suc out) ≡ block_in lines (suc out)
  pub fair : (wave : ℕ) → Fair wave level (block_in lines 0) → Fair wave level (block_in lines' 0)
  pub same : laid (block_in lines' 0) level s' ≡ laid (block_in lines 0) level s

pub record ItemAsks (text : List ℕ) (line : Line) (next level : ℕ) (heads words : List ℕ) : Type 0 where
  pub far : next ≤ length text
  pub goes : is_end line ≡ false
  pub shaped : AllShaped (lines_from text next)
  pub can : CanLay (block_in (line ∷ lines_from text next) 0) level heads words

pub record Moved (text : List ℕ) (line : Line) (next level : ℕ) (heads words : List ℕ) (at' : ℕ) (heads' words' : List ℕ) : Type 0 where
  pub later : next ≤ at'
  pub far : at' ≤ length text
  pub shaped : AllShaped (lines_from text at')
  pub onward : Onward (line ∷ lines_from text next) level (sheet heads words) (lines_from text at') (sheet heads' words')

pub record BlockAsks (text : List ℕ) (at level : ℕ) (heads words : List ℕ) : Type 0 where
  pub far : at ≤ length text
  pub shaped : AllShaped (lines_from text at)
  pub can : CanLay (block_in (lines_from text at) 0) level heads words

-- a block was laid: what follows its end is what the blocks around it go on with
pub record Laid (text : List ℕ) (at level : ℕ) (heads words : List ℕ) (at' : ℕ) (heads' words' : List ℕ) : Type 0 where
  pub later : at ≤ at'
  pub far : at' ≤ length text
  pub shaped : AllShaped (lines_from text at')
  pub outer : (out : ℕ) → block_in (lines_from text at') out ≡ block_in (lines_from text at) (suc out)
  pub wrote : sheet heads' words' ≡ laid (block_in (lines_from text at) 0) level (sheet heads words)

-- the whole can be laid
pub record CanStart (text heads words : List ℕ) : Type 0 where
  pub wave : ℕ
  pub shaped : AllShaped (lines_in text)
  pub fair : Fair wave 0 (block_of text)
  pub places : heads ≡ starts_from 0 (sizes_of (block_of text))
  pub room : size_of (block_of text) ≤ length words
