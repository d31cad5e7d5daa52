-- `which_bit`, of check and of a run: each carries the refusal of the word where it stopped, whole; their other numbers tell no bit.
-- Assumes nothing.
use mathlib.Core.Path.{◌≡◌, refl, sym, subst}
use mathlib.Core.Bool.{Bool, true, false, not}
use mathlib.Core.List.{List}
use Prim.Native.Nat.{ℕ, zero, suc, ◌+◌}
use borrow.Author.Tests.{eqb-false}
use lib.Dec.{ltb, eqb}
use lib.ListN.{length, get_or, drop}
use Rattle.instruction.specs.Bits.{pick}
use Rattle.instruction.specs.declared.Rules.{Rules}
use Rattle.reader.specs.Reading.{Reading, reading_of, refusal_of}
use Rattle.std.specs.declared.result.Result.TheVariants.{Ok, Err}
use Rattle.sequence.specs.Bounds.{word_limit, wave_limit, stack_depth, budget_limit, lengths_refused}
use Rattle.sequence.specs.Placing.{placing_of}
use Rattle.flow.specs.Walk.{Fault, past, full, empty}
use Rattle.verdict.specs.Flow.{sound, faulty}
use Rattle.verdict.specs.Words.{left_open, stands_refused, refused_as, word_refusal}
use Rattle.verdict.specs.Check.{check_input_refused, passed, first, input, word, flow}
use Rattle.dispatch.proofs.Counts.{picks}
use Rattle.jumps.specs.State.{Fixed, Did, fresh}
use Rattle.jumps.specs.declared.State.{State}
use Rattle.machine.specs.Step.{step_of}
use Rattle.rehearsal.specs.Run.{onto, run_of, input_refused, rehearse}
use Rattle.demands.specs.Bit.{SaysBit, WhichBitChecked, WhichBitRun}
use Rattle.demands.proofs.Bit.{Quiet, says_none, which_bit}
use Rattle.demands.proofs.Steps.{Outcome, stops, flows, holds, sends, outcome, stops_still, placing_quiet}

-- ---- input

lengths_quiet : (n wave : ℕ) → Quiet (lengths_refused n wave)
unfolding lengths_refused
lengths_quiet n wave = picks Quiet (eqb n 0) (λ _. refl) (λ _. picks Quiet (ltb word_limit n) (λ _. refl) (λ _. picks Quiet (ltb wave_limit wave) (λ _. refl) (λ _. refl)))

check_input_quiet : (n wave room : ℕ) → Quiet (check_input_refused n wave room)
unfolding check_input_refused
check_input_quiet n wave room = picks Quiet (not (eqb (lengths_refused n wave) 0)) (λ _. lengths_quiet n wave) (λ _. picks Quiet (ltb room n) (λ _. refl) (λ _. refl))

run_input_quiet : (n wave budget : ℕ) → Quiet (input_refused n wave budget)
unfolding input_refused
run_input_quiet n wave budget = picks Quiet (not (eqb (lengths_refused n wave) 0)) (λ _. lengths_quiet n wave) (λ _. picks Quiet (ltb budget_limit budget) (λ _. refl) (λ _. refl))

-- ---- check

word_says : (rules : Rules) (wave : ℕ) (words : List ℕ) (a : ℕ) → SaysBit (get_or words a 0) (word_refusal rules wave words a)
unfolding word_refusal stands_refused
word_says rules wave words a = by (reading_of rules w) (which_bit rules w)
  where
    w : ℕ
    w = get_or words a 0

    by : (q : Reading) → SaysBit w (refusal_of q) → SaysBit w (refused_as wave (length words) (drop (a + 1) words) q)
    by (Ok i) x =
        says_none w (stands_refused wave (length words) (drop (a + 1) words) i)
        (picks Quiet (not (eqb (placing_of wave (length words) i.body) 0)) (λ _. placing_quiet wave (length words) i.body)
        (λ _. picks Quiet (left_open i (drop (a + 1) words)) (λ _. refl) (λ _. refl)))
    by (Err r) x = x

fault_quiet : (words : List ℕ) (number a : ℕ) → Fault stack_depth words number a → Quiet number
fault_quiet words number a (past _) = refl
fault_quiet words number a (full _ _ _) = refl
fault_quiet words number a (empty _ _ _) = refl

pub which_bit_checked : WhichBitChecked
which_bit_checked rules wave words marks _ _ (input _) = says_none _ _ (check_input_quiet (length words) wave (length marks))
which_bit_checked rules wave words marks _ _ (word _ (passed _) _) = says_none _ 0 refl
which_bit_checked rules wave words marks _ _ (word _ (first {a = a} _ _ _) _) = word_says rules wave words a
which_bit_checked rules wave words marks _ _ (flow _ _ _ (sound _)) = says_none _ 0 refl
which_bit_checked rules wave words marks _ _ (flow _ _ _ (faulty {number = k} {a = a} f _)) = says_none _ k (fault_quiet words k a f)

-- ---- a run

abbrev word_at : Fixed → State → ℕ
word_at e s = get_or e.words s.core.address.0 0

step_says : (e : Fixed) (s : State) (d : Did) → Outcome e s d → SaysBit (word_at e s) d.end
step_says e s d (stops r h x) = x
step_says e s d (flows c rs cs f) = says_none _ 0 refl
step_says e s d (holds g _) = says_none _ 0 refl
step_says e s d (sends g) = says_none _ 0 refl

run_says : (e : Fixed) (budget : ℕ) (s : State) → SaysBit (word_at e (run_of budget e s).state) (run_of budget e s).end
unfolding run_of
run_says e zero s = says_none _ 40 refl
run_says e (suc budget) s = by (eqb (step_of e s).end.number 0) refl (run_says e budget (step_of e s).state)
  where
    by : (b : Bool) → eqb (step_of e s).end.number 0 ≡ b
        → SaysBit (word_at e (run_of budget e (step_of e s).state).state) (run_of budget e (step_of e s).state).end
        → SaysBit (word_at e (pick b (onto (step_of e s).out (run_of budget e (step_of e s).state)) (step_of e s)).state)
        (pick b (onto (step_of e s).out (run_of budget e (step_of e s).state)) (step_of e s)).end
    by true p ih = ih
    by false p ih = subst (λ (t : State). SaysBit (word_at e t) (step_of e s).end) (sym (stops_still e s (eqb-false _ _ p)).0) (step_says e s (step_of e s) (outcome e s))

pub which_bit_run : WhichBitRun
unfolding rehearse
which_bit_run e budget =
    picks (λ (d : Did). SaysBit (word_at e d.state) d.end) (eqb (input_refused (length e.words) e.setting.wave.0 budget) 0)
    (λ _. run_says e budget fresh)
    (λ _. says_none _ _ (run_input_quiet (length e.words) e.setting.wave.0 budget))
