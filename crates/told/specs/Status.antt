-- The exit status of a program.
-- "0 accepted .., 1 refused .., 2 no answer"
use Rattle.std.specs.Prelude.{ℕ}
use Rattle.told.specs.declared.Status.{Status}
use Rattle.told.specs.declared.Status.TheVariants.{Accepted, Refused, NoAnswer}

abbrev pub status_number : Status → ℕ
status_number Accepted = 0
status_number Refused = 1
status_number NoAnswer = 2
