-- The numbers of a run that halts, neither refused nor faulted.
-- "40 budget spent", "41 .. a trigger", "42 .. a message", "43 .. the trace".
use Rattle.std.specs.Prelude.{◌≡◌, refl, ℕ, eqb, Option, Some, None}
use Rattle.instruction.specs.Bits.{pick}
use Rattle.jumps.specs.declared.Halt.{Halt}
use Rattle.jumps.specs.declared.Halt.TheVariants.{BudgetSpent, TriggerAwaited, MessageAwaited, TraceFull}

abbrev pub halt_number : Halt → ℕ
halt_number BudgetSpent = 40
halt_number TriggerAwaited = 41
halt_number MessageAwaited = 42
halt_number TraceFull = 43

abbrev pub halt_numbered : ℕ → Halt
halt_numbered n =
    pick (eqb n 40) BudgetSpent
    (pick (eqb n 41) TriggerAwaited
    (pick (eqb n 42) MessageAwaited TraceFull))

pub halt_told_apart : (why : Halt) → halt_numbered (halt_number why) ≡ why
halt_told_apart BudgetSpent = refl
halt_told_apart TriggerAwaited = refl
halt_told_apart MessageAwaited = refl
halt_told_apart TraceFull = refl

-- the halt that has a number, if one does
abbrev pub halt_told_by : ℕ → Option Halt
halt_told_by n = pick (eqb (halt_number (halt_numbered n)) n) (Some (halt_numbered n)) None
