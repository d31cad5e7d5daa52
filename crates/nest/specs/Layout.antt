-- The words of a block. "SYNC first; the items in line; ..; a GOTO to itself as the park; the bodies behind it."
-- They lie level by level: behind the park the bodies of the main line's repeats, in reading order, then those of the repeats in them, and so on.
use Rattle.std.specs.Prelude.{ℕ, suc, ◌+◌, ◌-◌, List, [], ◌∷◌, map, length, get_or, set, replicate}
use Rattle.std.proofs.lemmas.List.Edits.{sets}
use Rattle.instruction.specs.Word.{word_of}
use Rattle.instruction.specs.declared.Instruction.{Instruction}
use Rattle.instruction.specs.declared.Body.TheVariants.{Waveform, LoadRepeat, Repeat, Goto, Call, Return, Sync}
use Rattle.nest.specs.Block.{Block, done, pulse, repeat, nest_limit, high, low}

-- ---- sizes

-- "one for each play or hold and four for each repeat"
abbrev pub words_in : Block → ℕ
words_in done = 0
words_in (pulse f b) = 1 + words_in b
words_in (repeat n c b) = 4 + words_in c + words_in b

-- "two words of its own"
abbrev pub size_of : Block → ℕ
size_of b = 2 + words_in b

-- the words in a block's own line: all but the bodies
abbrev pub own : Block → ℕ
own done = 0
own (pulse f b) = 1 + own b
own (repeat n c b) = 3 + own b

-- the address of the park, behind SYNC and the main line
abbrev pub park_of : Block → ℕ
park_of b = 1 + own b

-- ---- levels

-- one number of a list more by k
abbrev pub raised : List ℕ → ℕ → ℕ → List ℕ
raised l i k = set l i (get_or l i 0 + k)

-- the next place of each level, once a block that stands at a level has its words
abbrev pub passed : Block → ℕ → List ℕ → List ℕ
passed done level heads = heads
passed (pulse f b) level heads = passed b level (raised heads level 1)
passed (repeat n c b) level heads = passed b level (raised (passed c (suc level) (raised heads level 3)) (suc level) 1)

-- how many words each level has: the main line has SYNC and the park of its own
abbrev pub sizes_of : Block → List ℕ
sizes_of b = passed b 0 (2 ∷ replicate nest_limit 0)

-- all of them
abbrev pub sum_of : List ℕ → ℕ
sum_of [] = 0
sum_of (size ∷ sizes) = size + sum_of sizes

-- one level behind the other
abbrev pub starts_from : ℕ → List ℕ → List ℕ
starts_from place [] = []
starts_from place (size ∷ sizes) = place ∷ starts_from (place + size) sizes

-- ---- laying

-- the next place of each level, and the words
pub record Sheet : Type 0 where
  pub heads : List ℕ
  pub words : List ℕ

abbrev pub sheet : List ℕ → List ℕ → Sheet
sheet heads words = record { heads = heads; words = words }

abbrev pub head_of : ℕ → Sheet → ℕ
head_of level s = get_or s.heads level 0

-- instructions go to the next places of a level
abbrev pub put : ℕ → List Instruction → Sheet → Sheet
put level is s = sheet (raised s.heads level (length is)) (sets s.words (head_of level s) (map word_of is))

-- "LOAD_REPEAT N - 1, a CALL of its body, a REPEAT onto that CALL", from a place on
abbrev pub opening : ℕ → ℕ → ℕ → List Instruction
opening n place body =
    low (LoadRepeat (record { 0 = n - 1 }))
    ∷ low (Call (record { 0 = body }))
    ∷ low (Repeat (record { 0 = place + 1 }))
    ∷ []

-- "the RETURN that ends the body"
abbrev pub closing : List Instruction
closing = low (Return (record { 0 = 0 })) ∷ []

-- a block that stands at a level, in reading order
abbrev pub laid : Block → ℕ → Sheet → Sheet
laid done level s = s
laid (pulse f b) level s = laid b level (put level (high (Waveform f) ∷ []) s)
laid (repeat n c b) level s = laid b level (put (suc level) closing (laid c (suc level) (put level (opening n (head_of level s) (head_of (suc level) s)) s)))

-- ---- the whole

-- "a GOTO to itself"
abbrev pub parked : Sheet → Sheet
parked s = put 0 (low (Goto (record { 0 = head_of 0 s })) ∷ []) s

-- a block's words in a buffer, from its front
abbrev pub laid_in : Block → List ℕ → Sheet
laid_in b buffer = parked (laid b 0 (put 0 (high Sync ∷ []) (sheet (starts_from 0 (sizes_of b)) buffer)))

-- "Where bodies lie is ours to fix: one definition"
unfoldable pub words_of : Block → List ℕ
words_of b = (laid_in b (replicate (size_of b) 0)).words
