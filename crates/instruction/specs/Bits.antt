-- Bits of a word, and fields of bits, as document 01 counts them: a field goes from its high bit down to its low one, both counted in.
-- All of it is arithmetic on numbers, so that it computes.
use Rattle.std.specs.Prelude.{ℕ, suc, ◌+◌, ◌-◌, ◌*◌, ◌/◌, ◌%◌, ◌^◌, Bool, true, false, ◌&&◌, List, [], ◌∷◌, map, ltb, eqb, leb}
use Rattle.instruction.specs.declared.Field.{Field}

infixr 5 ◌gives◌else◌
-- the first where the test holds, and else the second
abbrev pub pick : {A : Type 0} → Bool → A → A → A
pick true a b = a
pick false a b = b

-- the number given where a test holds, and else what comes after it: the first wins
abbrev pub ◌gives◌else◌ : Bool → ℕ → ℕ → ℕ
test gives number else after = pick test number after

-- bit k of a word is set
abbrev pub is_set : ℕ → ℕ → Bool
is_set k word = eqb (word / 2 ^ k % 2) 1

infix 60 ◌to◌
-- the field of bits hi to lo
abbrev pub ◌to◌ : ℕ → ℕ → Field
hi to lo = record { low = lo; width = suc hi - lo }

-- bit k is one of the field's
abbrev pub is_in : ℕ → Field → Bool
is_in k f = leb f.low k && ltb k (f.low + f.width)

-- how many numbers a field can hold
abbrev pub span : Field → ℕ
span f = 2 ^ f.width

-- the number that a field of a word holds
abbrev pub held : ℕ → Field → ℕ
held word f = word / 2 ^ f.low % span f

-- a number laid into a field
abbrev pub laid : Field → ℕ → ℕ
laid f v = v % span f * 2 ^ f.low

-- a number is not too wide for a field
abbrev pub fits : Field → ℕ → Bool
fits f v = ltb v (span f)

-- the numbers that fields of a word hold, left to right
abbrev pub held_in : ℕ → List Field → List ℕ
held_in word fs = map (held word) fs

-- numbers laid into fields, left to right, each added to what is there
abbrev pub laid_onto : ℕ → List Field → List ℕ → ℕ
laid_onto sum [] vs = sum
laid_onto sum (f ∷ fs) [] = sum
laid_onto sum (f ∷ fs) (v ∷ vs) = laid_onto (sum + laid f v) fs vs

-- so far so good, and no number is too wide for its field
abbrev pub fit_after : Bool → List Field → List ℕ → Bool
fit_after good [] vs = good
fit_after good (f ∷ fs) [] = good
fit_after good (f ∷ fs) (v ∷ vs) = fit_after (good && fits f v) fs vs

-- no number is too wide for its field
abbrev pub all_fit : List Field → List ℕ → Bool
all_fit fs vs = fit_after true fs vs
