-- Demand 3, the check: "a sequence is refused for its flow exactly when the walk defined in document 01 comes to a fault, and accepted otherwise.
-- An accepted sequence never faults in a run at the same waveform length". Document 02, CR 3: "for either firmware, the same in check and run".
use Rattle.std.specs.Prelude.{◌≡◌, List, ℕ, ◌≤◌, ◌<◌, length}
use Rattle.instruction.specs.Form.{numbered}
use Rattle.instruction.specs.declared.Rules.{Rules}
use Rattle.sequence.specs.Bounds.{stack_depth, budget_limit}
use Rattle.jumps.specs.State.{Fixed}
use Rattle.rehearsal.specs.Run.{rehearse}
use Rattle.flow.specs.Walk.{Fault}
use Rattle.verdict.specs.Words.{Passes}
use Rattle.verdict.specs.Check.{check_input_refused, CheckIs}
use Rattle.verdict.specs.Flow.{verdict}
use Rattle.verdict.specs.declared.Verdict.{Verdict}

-- ---- refused exactly

-- "Where input, words and groups are in order"
pub record InOrder (rules : Rules) (wave : ℕ) (words marks : List ℕ) : Type 0 where
  pub input : check_input_refused (length words) wave (length marks) ≡ 0
  pub pass : (a : ℕ) → a < length words → Passes rules wave words a

-- the walk comes to this fault, and to none at a lower address
pub record LowestFault (words : List ℕ) (v : Verdict) : Type 0 where
  pub fault : Fault stack_depth words v.refusal.number v.place.0
  pub lowest : (number a : ℕ) → Fault stack_depth words number a → v.place.0 ≤ a

-- "refused for its flow exactly when the walk .. comes to a fault, and accepted otherwise"
pub record Exactly (words : List ℕ) (v : Verdict) : Type 0 where
  pub refused : (number a : ℕ) → Fault stack_depth words number a → v.refusal.number ≡ 0 → ⊥
  pub fault : (v.refusal.number ≡ 0 → ⊥) → LowestFault words v
  pub accepted : ((number a : ℕ) → Fault stack_depth words number a → ⊥) → v ≡ verdict (numbered 0) 0

abbrev pub RefusedExactly : Type 0
RefusedExactly =
    (rules : Rules) (wave : ℕ) (words marks marks' : List ℕ) (v : Verdict)
    → InOrder rules wave words marks → CheckIs rules wave words marks v marks' → Exactly words v

-- "Marks are written only once all words pass"
abbrev pub MarksUntouched : Type 0
MarksUntouched =
    (rules : Rules) (wave : ℕ) (words marks marks' : List ℕ) (v : Verdict)
    → (InOrder rules wave words marks → ⊥) → CheckIs rules wave words marks v marks' → marks' ≡ marks

-- ---- accepted never faults

-- "it spends the budget, or it stops at a trigger, a message or a full trace"
pub data NoFault : ℕ → Type 0 where
  budget_spent : NoFault 40
  trigger_awaited : NoFault 41
  message_awaited : NoFault 42
  trace_full : NoFault 43

-- "whatever messages, triggers, trace room and allowed budget it gets"
abbrev pub AcceptedNeverFaults : Type 0
AcceptedNeverFaults =
    (rules : Rules) (wave : ℕ) (words marks marks' : List ℕ) (v : Verdict) → CheckIs rules wave words marks v marks' → v.refusal.number ≡ 0
    → (e : Fixed) (budget : ℕ) → e.words ≡ words → e.setting.wave.0 ≡ wave → e.setting.rules ≡ rules → budget ≤ budget_limit
    → NoFault (rehearse budget e).end.number
