-- What the module is that a word is read for. Document 02, CR 3: "Reading a word shall take the firmware, older or current".
-- Whatever else reading comes to depend on enters `Rules` too.
use Rattle.std.specs.Prelude.{Bool, true, false}
use Rattle.instruction.specs.declared.Firmware.{Firmware}
use Rattle.instruction.specs.declared.Firmware.TheVariants.{Current, Older}
use Rattle.instruction.specs.declared.Rules.{Rules}

-- "firmware 2.5 to 2.33"
abbrev pub is_older : Firmware → Bool
is_older Current = false
is_older Older = true

-- the rules for either
abbrev pub current : Rules
current = record { firmware = Current }

abbrev pub older : Rules
older = record { firmware = Older }
