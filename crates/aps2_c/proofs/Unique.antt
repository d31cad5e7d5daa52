-- What C gets is one answer: `one-answer-aps2-..`, for each function of the interface. Two answers, with all that is lent, that meet its contract are equal.
-- Assumes nothing.
use mathlib.Core.Path.{◌≡◌, sym, ap, ◌∙◌}
use mathlib.Core.List.{List, [], ◌∷◌}
use Prim.Native.Nat.{ℕ}
use Rattle.instruction.specs.declared.Rules.{Rules}
use Rattle.reader.specs.Reading.{Reading}
use Rattle.writer.specs.declared.Written.{Written}
use Rattle.jumps.specs.State.{Did}
use Rattle.verdict.specs.declared.Verdict.{Verdict}
use Rattle.verdict.proofs.Unique.{one_answer_check}
use Rattle.listing.specs.Listing.{Listed}
use Rattle.aps2_c.specs.Fields.{Read, Wrote}
use Rattle.listing_reader.specs.declared.ReadBack.{ReadBack}
use Rattle.listing_reader.proofs.Unique.{one_answer_read_listing}
use Rattle.text.specs.Told.{Told as ToldOf, number_in, line_in, count_in}
use Rattle.block.proofs.Unique.{one_answer_block}
use Rattle.editions.specs.Moves.{lines_judged, labelled, labels_judged, addressed}
use Rattle.editions.specs.declared.Moved.{Moved}
use Rattle.editions.proofs.Unique.{one_move}
use Rattle.aps2_c.specs.Calls.{Told, CallMade}
use Rattle.aps2_c.specs.Answer.{Ran, Checked, ListingRead, BlockWritten, TextMoved}

pub one_answer_aps2_read : (reading : Reading) {r r' : ℕ} {fields fields' bit bit' : List ℕ} → Read reading r fields bit → Read reading r' fields' bit'
    → (r ≡ r') × (fields ≡ fields') × (bit ≡ bit')
one_answer_aps2_read reading p q = (p.number ∙ sym q.number, p.fields ∙ sym q.fields, p.bit ∙ sym q.bit)

pub one_answer_aps2_write : (written : Written) {r r' : ℕ} {word word' : List ℕ} → Wrote written r word → Wrote written r' word' → (r ≡ r') × (word ≡ word')
one_answer_aps2_write written p q = (p.number ∙ sym q.number, p.word ∙ sym q.word)

pub one_answer_aps2_run : (d : Did) (before : List ℕ) {r r' : ℕ} {after after' answer answer' : List ℕ} → Ran d before after answer r → Ran d before after' answer' r'
    → (r ≡ r') × (answer ≡ answer') × (after ≡ after')
one_answer_aps2_run d before p q = (p.number ∙ sym q.number, p.answer ∙ sym q.answer, p.trace.trace ∙ sym q.trace.trace)

pub one_answer_aps2_check : (rules : Rules) (wave : ℕ) (words before : List ℕ) {r r' : ℕ} {after after' place place' : List ℕ} → Checked rules wave words before after place r → Checked rules wave words before after' place' r'
    → (r ≡ r') × (place ≡ place') × (after ≡ after')
one_answer_aps2_check rules wave words before p q =
    let o = one_answer_check rules wave words before p.verdict q.verdict in (
      ap (λ (v : Verdict). v.refusal.number) o.0,
      p.place ∙ ap (λ (v : Verdict). v.place.0 ∷ v.refusal.bit ∷ []) o.0 ∙ sym q.place,
      o.1,
    )

pub one_answer_aps2_listing : (text before : List ℕ) {r r' : ℕ} {after after' : List ℕ} → Listed text before after r → Listed text before after' r' → (r ≡ r') × (after ≡ after')
one_answer_aps2_listing text before p q = (p.size ∙ sym q.size, p.out ∙ sym q.out)

pub one_answer_aps2_read_listing : (rules : Rules) (text before : List ℕ) {r r' : ℕ} {after after' told told' : List ℕ} → ListingRead rules text before after told r → ListingRead rules text before after' told' r'
    → (r ≡ r') × (told ≡ told') × (after ≡ after')
one_answer_aps2_read_listing rules text before p q =
    let o = one_answer_read_listing rules text before p.reads q.reads in (
      ap (λ (t : ReadBack). t.number) o.0,
      p.told ∙ ap (λ (t : ReadBack). t.line ∷ t.count ∷ []) o.0 ∙ sym q.told,
      o.1,
    )

pub one_answer_aps2_block : (wave : ℕ) (text before : List ℕ) {r r' : ℕ} {after after' told told' : List ℕ} → BlockWritten wave text before after told r → BlockWritten wave text before after' told' r'
    → (r ≡ r') × (told ≡ told') × (after ≡ after')
one_answer_aps2_block wave text before p q =
    let o = one_answer_block wave text before p.translates q.translates in (
      p.number ∙ ap number_in o.0 ∙ sym q.number,
      p.told ∙ ap (λ (t : ToldOf). line_in t ∷ count_in t ∷ []) o.0 ∙ sym q.told,
      o.1,
    )

-- a move, from either edition to the other
one_text : (judged : Moved) (text before : List ℕ) {r r' : ℕ} {after after' told told' : List ℕ} → TextMoved judged text before after told r → TextMoved judged text before after' told' r'
    → (r ≡ r') × (told ≡ told') × (after ≡ after')
one_text judged text before p q =
    let o = one_move judged text before p.moves q.moves in (
      ap (λ (m : Moved). m.number) o.0,
      p.told ∙ ap (λ (m : Moved). m.line ∷ m.size ∷ []) o.0 ∙ sym q.told,
      o.1,
    )

pub one_answer_aps2_to_labels : (text before : List ℕ) {r r' : ℕ} {after after' told told' : List ℕ}
    → TextMoved (lines_judged text) (labelled text) before after told r → TextMoved (lines_judged text) (labelled text) before after' told' r' → (r ≡ r') × (told ≡ told') × (after ≡ after')
one_answer_aps2_to_labels text before p q = one_text (lines_judged text) (labelled text) before p q

pub one_answer_aps2_to_addresses : (text before : List ℕ) {r r' : ℕ} {after after' told told' : List ℕ}
    → TextMoved (labels_judged text) (addressed text) before after told r → TextMoved (labels_judged text) (addressed text) before after' told' r' → (r ≡ r') × (told ≡ told') × (after ≡ after')
one_answer_aps2_to_addresses text before p q = one_text (labels_judged text) (addressed text) before p q

-- `aps2_step` and `aps2_go_on`, for every state in numbers, also one that no run could leave
pub one_answer_aps2_call : (t : Told) (l before : List ℕ) {r r' : ℕ} {after after' numbers numbers' bit bit' : List ℕ}
    → CallMade t l before after numbers bit r → CallMade t l before after' numbers' bit' r' → (r ≡ r') × (bit ≡ bit') × (numbers ≡ numbers') × (after ≡ after')
one_answer_aps2_call t l before p q = (p.number ∙ sym q.number, p.told ∙ sym q.told, p.numbers ∙ sym q.numbers, p.trace ∙ sym q.trace)
