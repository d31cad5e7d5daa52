-- How long a trace the command has room for: a bound of its own, and none of document 01's.
use Rattle.std.specs.Prelude.{ℕ, ◌*◌}
use Rattle.sequence.specs.Bounds.{word_limit}

-- "room enough for most"
abbrev pub most_room : ℕ
most_room = 8 * word_limit
