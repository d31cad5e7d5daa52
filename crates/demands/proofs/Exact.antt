-- `refused_exactly`, and that marks are untouched unless input, words and groups are in order: by the cases of check's contract.
-- Assumes nothing.
use mathlib.Core.Path.{◌≡◌, refl, ap}
use mathlib.Core.List.{List}
use Prim.Native.Nat.{ℕ, ◌<◌}
use native.Mathlib.Omega.{arith}
use lib.ListN.{length}
use Rattle.instruction.specs.declared.Rules.{Rules}
use Rattle.sequence.specs.Bounds.{stack_depth}
use Rattle.flow.specs.Walk.{Fault, past, full, empty}
use Rattle.verdict.specs.Flow.{sound, faulty}
use Rattle.verdict.specs.Words.{Passes}
use Rattle.verdict.specs.Check.{WordsAre, passed, input, word, flow}
use Rattle.verdict.specs.declared.Verdict.{Verdict}
use Rattle.verdict.proofs.Unique.{one_words}
use Rattle.demands.specs.Check.{RefusedExactly, MarksUntouched}

-- a fault has a number
pub fault_number : (lim : ℕ) (words : List ℕ) (number a : ℕ) → Fault lim words number a → number ≡ 0 → ⊥
fault_number lim words number a (past _) z = omega arith
fault_number lim words number a (full _ _ _) z = omega arith
fault_number lim words number a (empty _ _ _) z = omega arith

-- where all words pass, none is refused
none_refused : (rules : Rules) (wave : ℕ) (words : List ℕ) (v : Verdict) → ((a : ℕ) → a < length words → Passes rules wave words a) → WordsAre rules wave words v → v.refusal.number ≡ 0
none_refused rules wave words v all w = ap (λ (x : Verdict). x.refusal.number) (one_words rules wave words w (passed all))

pub refused_exactly : RefusedExactly
refused_exactly rules wave words marks _ _ o (input h) = absurd (h o.input)
refused_exactly rules wave words marks _ v o (word _ w h) = absurd (h (none_refused rules wave words v o.pass w))
refused_exactly rules wave words marks _ _ o (flow _ _ _ (sound none)) =
    record { refused = λ k a f. absurd (none k a f); fault = λ h. absurd (h refl); accepted = λ _. refl }
refused_exactly rules wave words marks _ _ o (flow _ _ _ (faulty {number = k} {a = a} f l)) =
    record { refused = λ _ _ _. fault_number stack_depth words k a f; fault = λ _. record { fault = f; lowest = l }; accepted = λ none. absurd (none k a f) }

pub marks_untouched : MarksUntouched
marks_untouched rules wave words marks _ _ h (input _) = refl
marks_untouched rules wave words marks _ _ h (word _ _ _) = refl
marks_untouched rules wave words marks _ _ h (flow i all _ _) = absurd (h (record { input = i; pass = all }))
