-- How long a text is that was read.
use Rattle.std.specs.Prelude.{ℕ, length}
use Rattle.files.specs.declared.whole.Kept.{Kept}
use Rattle.files.specs.declared.whole.Kept.TheVariants.{Whole, Part}

-- whole, or the part that there is room for
abbrev pub kept_length : Kept → ℕ
kept_length (Whole text) = length text.now
kept_length (Part text) = length text.now
