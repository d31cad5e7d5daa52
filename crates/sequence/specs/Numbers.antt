-- The numbers of what a sequence is refused for: input, placing, flow.
-- "Each refusal has one number".
use Rattle.std.specs.Prelude.{◌≡◌, refl, ℕ, eqb}
use Rattle.instruction.specs.Bits.{pick}
use Rattle.sequence.specs.declared.BadInput.{BadInput}
use Rattle.sequence.specs.declared.BadInput.TheVariants.{NoWords, TooManyWords, TooMuchWave, ShortMarks, TooMuchBudget}
use Rattle.sequence.specs.declared.Misplaced.{Misplaced}
use Rattle.sequence.specs.declared.Misplaced.TheVariants.{OutOfWave, OutOfWords, BrokenGroup}
use Rattle.sequence.specs.declared.Fault.{Fault}
use Rattle.sequence.specs.declared.Fault.TheVariants.{PastTheEnd, StackFull, StackEmpty}

-- "1 no words; 2 more than 65,536; 3 W too large; 4 marks shorter than the words; 5 budget too large"
abbrev pub input_number : BadInput → ℕ
input_number NoWords = 1
input_number TooManyWords = 2
input_number TooMuchWave = 3
input_number ShortMarks = 4
input_number TooMuchBudget = 5

abbrev pub input_numbered : ℕ → BadInput
input_numbered n =
    pick (eqb n 1) NoWords
    (pick (eqb n 2) TooManyWords
    (pick (eqb n 3) TooMuchWave
    (pick (eqb n 4) ShortMarks TooMuchBudget)))

pub input_told_apart : (bad : BadInput) → input_numbered (input_number bad) ≡ bad
input_told_apart NoWords = refl
input_told_apart TooManyWords = refl
input_told_apart TooMuchWave = refl
input_told_apart ShortMarks = refl
input_told_apart TooMuchBudget = refl

-- "20 waveform ..; 21 .. address ≥ n; 22 .." a group that is not sent
abbrev pub place_number : Misplaced → ℕ
place_number OutOfWave = 20
place_number OutOfWords = 21
place_number BrokenGroup = 22

abbrev pub place_numbered : ℕ → Misplaced
place_numbered n =
    pick (eqb n 20) OutOfWave
    (pick (eqb n 21) OutOfWords BrokenGroup)

pub place_told_apart : (bad : Misplaced) → place_numbered (place_number bad) ≡ bad
place_told_apart OutOfWave = refl
place_told_apart OutOfWords = refl
place_told_apart BrokenGroup = refl

-- "30 reaching address n; 31 CALL taken with 16 on the stack; 32 RETURN taken with none"
abbrev pub fault_number : Fault → ℕ
fault_number PastTheEnd = 30
fault_number StackFull = 31
fault_number StackEmpty = 32

abbrev pub fault_numbered : ℕ → Fault
fault_numbered n =
    pick (eqb n 30) PastTheEnd
    (pick (eqb n 31) StackFull StackEmpty)

pub fault_told_apart : (bad : Fault) → fault_numbered (fault_number bad) ≡ bad
fault_told_apart PastTheEnd = refl
fault_told_apart StackFull = refl
fault_told_apart StackEmpty = refl
