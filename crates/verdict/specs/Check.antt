-- The whole check: "input (place 0); then each word in address order (form, 20, 21, 22); then flow, reporting the lowest faulty address."
-- The verdict, and what the marks then hold; proofs/Unique.antt shows that there is one of each.
use Rattle.std.specs.Prelude.{ℕ, ◌<◌, ◌≡◌, not, List, ltb, eqb, length}
use Rattle.instruction.specs.Bits.{◌gives◌else◌}
use Rattle.instruction.specs.Form.{numbered}
use Rattle.instruction.specs.declared.Rules.{Rules}
use Rattle.sequence.specs.Bounds.{stack_depth, lengths_refused}
use Rattle.walk.specs.Marks.{Marked}
use Rattle.verdict.specs.Flow.{verdict, FlowIs}
use Rattle.verdict.specs.Words.{word_refusal, Passes}
use Rattle.verdict.specs.declared.Verdict.{Verdict}

-- 1, 2, 3, then "4 marks shorter than the words (check only)"; 0 where none is given
unfoldable pub check_input_refused : ℕ → ℕ → ℕ → ℕ
check_input_refused n wave room =
    not (eqb (lengths_refused n wave) 0) gives lengths_refused n wave
    else ltb room n gives 4
    else 0

-- "each word in address order": the first that is refused, or 0 at 0
pub data WordsAre (rules : Rules) (wave : ℕ) (words : List ℕ) : Verdict → Type 0 where
  passed : ((a : ℕ) → a < length words → Passes rules wave words a) → WordsAre rules wave words (verdict (numbered 0) 0)
  first : {a : ℕ} → a < length words → ((b : ℕ) → b < a → Passes rules wave words b) → (Passes rules wave words a → ⊥) → WordsAre rules wave words (verdict (word_refusal rules wave words a) a)

-- "Marks are written only once all words pass, also when flow then refuses; longer marks keep their tail."
pub data CheckIs (rules : Rules) (wave : ℕ) (words marks : List ℕ) : Verdict → List ℕ → Type 0 where
  input : (check_input_refused (length words) wave (length marks) ≡ 0 → ⊥) → CheckIs rules wave words marks (verdict (numbered (check_input_refused (length words) wave (length marks))) 0) marks
  word : {v : Verdict} → check_input_refused (length words) wave (length marks) ≡ 0 → WordsAre rules wave words v → (v.refusal.number ≡ 0 → ⊥) → CheckIs rules wave words marks v marks
  flow : {v : Verdict} {ns : List ℕ} → check_input_refused (length words) wave (length marks) ≡ 0 → ((a : ℕ) → a < length words → Passes rules wave words a)
      → Marked stack_depth words marks ns → FlowIs stack_depth words v → CheckIs rules wave words marks v ns
