-- What C gets of a run, in 55 numbers, of a check, and of texts that are read or moved.
-- The numbers of a run's state stand one place further than where it is held: 1 address, .., 53 the last stack counter.
use Rattle.std.specs.Prelude.{◌≡◌, List, [], ◌∷◌, ◌++◌, ℕ}
use Rattle.instruction.specs.declared.Rules.{Rules}
use Rattle.jumps.specs.State.{Did}
use Rattle.state_c.specs.Numbers.{numbers_of}
use Rattle.rehearsal.specs.Run.{Rehearsed}
use Rattle.rehearsal.specs.declared.Answer.{Answer}
use Rattle.verdict.specs.Check.{CheckIs}
use Rattle.verdict.specs.Flow.{verdict}
use Rattle.listing_reader.specs.ReadBack.{ReadsBack}
use Rattle.text.specs.Told.{Told, number_in, line_in, count_in}
use Rattle.block.specs.Text.{Translates}
use Rattle.editions.specs.Moves.{Moves}
use Rattle.editions.specs.declared.Moved.{Moved}

-- "0 end .. 54 bit", and between them the numbers of the state
abbrev pub flat_of : Answer → List ℕ
flat_of a = (a.end.number ∷ []) ++ (numbers_of a.state ++ (a.end.bit ∷ []))

abbrev pub answer_from : Did → Answer
answer_from d = record { end = d.end; state = d.state }

-- what `aps2_run` answers, and what it leaves in the answer and in the trace
pub record Ran (d : Did) (before after given : List ℕ) (r : ℕ) : Type 0 where
  pub number : r ≡ d.end.number
  pub answer : given ≡ flat_of (answer_from d)
  pub trace : Rehearsed d before after (answer_from d)

-- what `aps2_check` answers, and what it leaves in the marks and in the place: the bit stands behind it
pub record Checked (rules : Rules) (wave : ℕ) (words before after given : List ℕ) (r : ℕ) : Type 0 where
  pub at : ℕ
  pub bit : ℕ
  pub place : given ≡ at ∷ bit ∷ []
  pub verdict : CheckIs rules wave words before (verdict (record { number = r; bit = bit }) at) after

-- what `aps2_read_listing` answers, and what it leaves in the words and tells: line, and how many words
pub record ListingRead (rules : Rules) (text before after given : List ℕ) (r : ℕ) : Type 0 where
  pub line : ℕ
  pub count : ℕ
  pub told : given ≡ line ∷ count ∷ []
  pub reads : ReadsBack rules text before after (record { number = r; line = line; count = count })

-- what `aps2_block` answers, and what it leaves in the words and tells: line, and how many words
pub record BlockWritten (wave : ℕ) (text before after given : List ℕ) (r : ℕ) : Type 0 where
  pub answer : Told
  pub number : r ≡ number_in answer
  pub told : given ≡ line_in answer ∷ count_in answer ∷ []
  pub translates : Translates wave text before after answer

-- what `aps2_to_labels` and `aps2_to_addresses` answer, and what they leave in the buffer and tell: line, and how many bytes
pub record TextMoved (judged : Moved) (text before after given : List ℕ) (r : ℕ) : Type 0 where
  pub line : ℕ
  pub size : ℕ
  pub told : given ≡ line ∷ size ∷ []
  pub moves : Moves judged text before after (record { number = r; line = line; size = size })
