-- The bounds of document 01, each named once, and the input numbers that they give.
-- "Input refusals: 1 no words; 2 more than 65,536; 3 W too large; 4 marks shorter than the words (check only); 5 budget too large (run only); tested in that order."
use Rattle.std.specs.Prelude.{ℕ, ltb, eqb}
use Rattle.instruction.specs.Bits.{◌gives◌else◌}

-- "Words: n from 1 to 65,536."
abbrev pub word_limit : ℕ
word_limit = 65536

-- "Waveform memory: W quad-samples, 0 to 16,777,216."
abbrev pub wave_limit : ℕ
wave_limit = 16777216

-- "Stack: at most 16 entries" (H1)
abbrev pub stack_depth : ℕ
stack_depth = 16

-- "Budget: 0 to 1,000,000 steps."
abbrev pub budget_limit : ℕ
budget_limit = 1000000

-- "A group: at most 8 words."
abbrev pub group_size : ℕ
group_size = 8

-- 1, 2, 3, and 0 where none is given
unfoldable pub lengths_refused : ℕ → ℕ → ℕ
lengths_refused n wave =
    eqb n 0 gives 1
    else ltb word_limit n gives 2
    else ltb wave_limit wave gives 3
    else 0
