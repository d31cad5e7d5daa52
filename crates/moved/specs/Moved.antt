-- Listings that are moved, document 02, CR 7: "There and back from edition 1 gives the same bytes; from edition 2 it gives the same words,
-- with our label names." Each statement is about the contracts of `to_labels` and `to_addresses` as their sources have them.
use Rattle.std.specs.Prelude.{◌≡◌, true, List, [], ◌∷◌, ℕ, ◌+◌, ◌^◌, ◌≤◌, ◌<◌, length, get_or, take}
use Rattle.instruction.specs.Table.{code_of, values_of}
use Rattle.instruction.specs.declared.Instruction.{Instruction}
use Rattle.instruction.specs.declared.Rules.{Rules}
use Rattle.reader.specs.Reading.{Reading, reading_of}
use Rattle.std.specs.declared.result.Result.TheVariants.{Ok, Err}
use Rattle.listing.specs.Listing.{listed}
use Rattle.listing_reader.specs.ReadBack.{rows_behind, ReadsBack}
use Rattle.listing_reader.specs.declared.ReadBack.{ReadBack}
use Rattle.editions.specs.Editions.{jumps}
use Rattle.editions.specs.Moves.{refused_at, moved, told_of, labelled, ToLabels, ToAddresses}
use Rattle.editions.specs.declared.Moved.{Moved}

-- ---- there and back

-- `L` and at most 15 digits are a label; a text with more lines than that is longer than 10^15 bytes
abbrev pub named_lines : ℕ
named_lines = 10 ^ 15

-- "There and back from edition 1 gives the same bytes": what was moved to labels, where there is room for it
abbrev pub ThereAndBack : Type 0
ThereAndBack =
    (text out labels back addresses : List ℕ) (r s : Moved) → length (rows_behind 1 text) ≤ named_lines
    → ToLabels text out labels r → r.number ≡ 0
    → ToAddresses (take r.size labels) back addresses s → length text ≤ length back
    → (s ≡ moved (length text)) × (take s.size addresses ≡ text)

-- "from edition 2 it gives the same words, with our label names": the text that came of it moves to labels where there is room,
-- and what it then is moves to the same text again
abbrev pub BackAndThere : Type 0
BackAndThere =
    (text out addresses there labels back again : List ℕ) (r s t : Moved) → length (rows_behind 2 text) ≤ named_lines
    → ToAddresses text out addresses r → r.number ≡ 0
    → ToLabels (take r.size addresses) there labels s → (s.number ≡ 64 → ⊥)
    → ToAddresses (take s.size labels) back again t → r.size ≤ length back
    → (s.number ≡ 0) × ((t ≡ r) × (take t.size again ≡ take r.size addresses))

-- where a text of edition 1 reads back as words, what it moves to means the same words: so does the text that this moves back to
abbrev pub LabelsKeepWords : Type 0
LabelsKeepWords =
    (rules : Rules) (text out labels back addresses before words words' : List ℕ) (r s : Moved) (w w' : ReadBack) → length (rows_behind 1 text) ≤ named_lines
    → ToLabels text out labels r → r.number ≡ 0
    → ToAddresses (take r.size labels) back addresses s → length text ≤ length back
    → ReadsBack rules text before words w → ReadsBack rules (take s.size addresses) before words' w'
    → (w' ≡ w) × (words' ≡ words)

-- ---- a listing always moves

-- a REPEAT, GOTO or CALL among n words has one of them as its target
abbrev pub Aims : Rules → ℕ → ℕ → Type 0
Aims rules n word = (i : Instruction) → reading_of rules word ≡ Ok i → jumps (code_of i.body) ≡ true → get_or (values_of i.body) 0 0 < n

abbrev pub AllAim : Rules → ℕ → List ℕ → Type 0
AllAim rules n [] = Unit {0}
AllAim rules n (w ∷ ws) = Aims rules n w × AllAim rules n ws

-- "never refused, but for 63 at a `BAD` line": the first word that fails form, from address a on
abbrev pub bad_reading : Reading → ℕ → Moved → Moved
bad_reading (Ok i) a after = after
bad_reading (Err r) a after = refused_at 63 (a + 2)

abbrev pub bad_line : Rules → ℕ → List ℕ → Moved
bad_line rules a [] = moved 0
bad_line rules a (w ∷ ws) = bad_reading (reading_of rules w) a (bad_line rules (a + 1) ws)

-- what `list` prints for words whose targets are words; no memory has 2^64 places
abbrev pub ListingMoves : Type 0
ListingMoves =
    (rules : Rules) (words before after : List ℕ) (r : Moved) → AllAim rules (length words) words → length words < 2 ^ 64
    → ToLabels (listed rules words) before after r
    → r ≡ told_of (length before) (bad_line rules 0 words) (labelled (listed rules words))

-- ---- one answer

-- what is told, and the buffer
abbrev pub OneToLabels : Type 0
OneToLabels = (text before after after' : List ℕ) (r r' : Moved) → ToLabels text before after r → ToLabels text before after' r' → (r ≡ r') × (after ≡ after')

abbrev pub OneToAddresses : Type 0
OneToAddresses =
    (text before after after' : List ℕ) (r r' : Moved) → ToAddresses text before after r → ToAddresses text before after' r' → (r ≡ r') × (after ≡ after')
