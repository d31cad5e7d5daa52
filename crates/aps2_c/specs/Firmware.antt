-- The firmware as C names it.
-- "`uint64_t firmware`, 0 current, anything else older".
use Rattle.std.specs.Prelude.{ℕ, eqb}
use Rattle.instruction.specs.Bits.{pick}
use Rattle.instruction.specs.Rules.{older, current}
use Rattle.instruction.specs.declared.Rules.{Rules}

abbrev pub rules_of : ℕ → Rules
rules_of firmware = pick (eqb firmware 0) current older
