-- How long a text the command has room for: a bound of its own, and none of the documents'.
use Rattle.std.specs.Prelude.{ℕ, ◌+◌, ◌*◌}
use Rattle.sequence.specs.Bounds.{word_limit}

-- the lines of a sequence, 34 bytes each without their addresses, a label of 23 bytes for each, and the header
abbrev pub text_room : ℕ
text_room = 57 * word_limit + 16

-- the lines of a sequence, 40 bytes each, and the header
abbrev pub listing_room : ℕ
listing_room = 40 * word_limit + 16
