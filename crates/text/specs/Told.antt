-- What is told of a text that is judged: how much it comes to, or the number of a refusal and its line.
use Rattle.std.specs.Prelude.{ℕ, Result, Ok, Err}
use Rattle.text.specs.declared.Refused.{Refused}

abbrev pub Told : Type 0
Told = Result ℕ Refused

abbrev pub accepted : ℕ → Told
accepted count = Ok count

abbrev pub refused_at : ℕ → ℕ → Told
refused_at number line = Err (record { number = number; line = line })

-- 0 where nothing is wrong
abbrev pub number_in : Told → ℕ
number_in (Ok count) = 0
number_in (Err e) = e.number

abbrev pub line_in : Told → ℕ
line_in (Ok count) = 0
line_in (Err e) = e.line

-- after a refusal there is nothing
abbrev pub count_in : Told → ℕ
count_in (Ok count) = count
count_in (Err e) = 0
