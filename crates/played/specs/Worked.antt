-- A block that is worked out: the example of the README, as a text and as its words.
-- Two nested repeats, so that each level of the layout shows.
use Rattle.std.specs.Prelude.{ℕ, ◌≡◌, List, [], ◌∷◌, map, length}
use Prim.Native.String.{String}
use Rattle.text.specs.Line.{name, number, Line, text_of}
use Rattle.nest.specs.Layout.{park_of, words_of}
use Rattle.text.specs.Told.{accepted}
use Rattle.block.specs.Text.{block_of, translation}
use Rattle.played.specs.Played.{dispatched_by, steps_to}

abbrev line : String → List ℕ → Line
line s ns = record { first = name s; rest = map (λ (n : ℕ). number n) ns }

-- three trains, each two echoes between two pulses
abbrev pub echo_train : List ℕ
echo_train =
    text_of
    (line "repeat" (3 ∷ [])
    ∷ line "play" (0 ∷ 4 ∷ [])
    ∷ line "repeat" (2 ∷ [])
    ∷ line "hold" (4 ∷ 20 ∷ [])
    ∷ line "play" (5 ∷ 4 ∷ [])
    ∷ line "hold" (4 ∷ 20 ∷ [])
    ∷ line "end" []
    ∷ line "play" (0 ∷ 4 ∷ [])
    ∷ line "end" []
    ∷ [])

abbrev pub echo_words : List ℕ
echo_words =
    -- SYNC, the main line, the park
    0x9100800000000000 ∷ 0x3000000000000002 ∷ 0x7000000000000005 ∷ 0x4000000000000002 ∷ 0x6000000000000004
    -- the body of its repeat
    ∷ 0x0100000004000000 ∷ 0x3000000000000001 ∷ 0x700000000000000b ∷ 0x4000000000000007 ∷ 0x0100000004000000 ∷ 0x8000000000000000
    -- and of the repeat in that
    ∷ 0x0100200014000004 ∷ 0x0100000004000005 ∷ 0x0100200014000004 ∷ 0x8000000000000000
    ∷ []

-- accepted for a waveform memory of 9 quad-samples in a buffer of 15 words, with these words; 25 words are dispatched in 56 steps, up to the park at 4
abbrev pub WorkedBlock : Type 0
WorkedBlock =
    (translation 9 15 echo_train ≡ accepted 15)
    × (words_of (block_of echo_train) ≡ echo_words)
    × (length (dispatched_by (block_of echo_train)) ≡ 25)
    × (steps_to (block_of echo_train) ≡ 56)
    × (park_of (block_of echo_train) ≡ 4)
