-- A number that a person types: digits, and at most so much.
use Rattle.std.specs.Prelude.{ℕ, ◌+◌, Bool, false, List, [], ◌∷◌, ltb, Result, Ok, Err}
use Rattle.instruction.specs.Bits.{pick}
use Rattle.text.specs.Number.{all_digits, value_from}
use Rattle.typed.specs.declared.AmountError.{AmountError}
use Rattle.typed.specs.declared.AmountError.TheVariants.{NoNumber, TooLarge}

abbrev pub some_digits : List ℕ → Bool
some_digits [] = false
some_digits (b ∷ bs) = all_digits (b ∷ bs)

-- how a number is judged: none may be above the most
abbrev pub at_most : ℕ → ℕ → Result ℕ AmountError
at_most most v = pick (ltb most v) (Err TooLarge) (Ok v)

-- digits and nothing else are a number
abbrev pub amount_of : ℕ → List ℕ → Result ℕ AmountError
amount_of most text = pick (some_digits text) (at_most most (value_from 0 text)) (Err NoNumber)

-- of what is above the most, only that it is
abbrev pub capped : ℕ → ℕ → ℕ
capped most v = pick (ltb most v) (most + 1) v
