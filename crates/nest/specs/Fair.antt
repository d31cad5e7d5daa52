-- A block that the judge lets through, as the functions that lay it need it: it carries the code, and needs no belief.
-- That what is judged good is fair is a law of the judge.
use Rattle.std.specs.Prelude.{ℕ, suc, ◌≤◌, ◌<◌, ◌≡◌}
use Rattle.nest.specs.Block.{Block, done, pulse, repeat, pulse_number, repeat_limit, nest_limit}

-- a block that stands at a level, and has nothing that is refused
abbrev pub Fair : ℕ → ℕ → Block → Type 0
Fair wave level done = Unit {0}
Fair wave level (pulse f b) = (pulse_number wave f ≡ 0) × (f.op ≡ 0) × Fair wave level b
Fair wave level (repeat n c b) = (1 ≤ n) × (n ≤ repeat_limit) × (level < nest_limit) × Fair wave (suc level) c × Fair wave level b
