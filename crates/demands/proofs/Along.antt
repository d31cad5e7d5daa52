-- What holds of the fresh state with nothing dispatched, and is kept by every step, holds at the end of every run (`all_along`).
-- So `sent_is_length` and `unused_are_zero`. Assumes nothing.
use mathlib.Core.Path.{◌≡◌, refl, sym, ap, ◌∙◌, subst}
use mathlib.Core.Bool.{Bool, true, false}
use mathlib.Core.List.{List, [], ◌∷◌, ◌++◌, append-nil, append_assoc}
use Prim.Native.Nat.{ℕ, zero, suc, ◌+◌, ◌-◌, ◌≤◌}
use native.Mathlib.Decide.{ℕ_discrete}
use native.Mathlib.Omega.{arith}
use lib.Dec.{eqb}
use lib.ListN.{length, get_or, set, replicate, length-append, length-set}
use lib.Seq.{get_or-set_other}
use Rattle.instruction.specs.Bits.{pick}
use Rattle.sequence.specs.Bounds.{stack_depth}
use Rattle.jumps.specs.State.{Fixed, Did, fresh}
use Rattle.jumps.specs.declared.State.{State}
use Rattle.machine.specs.Step.{step_of}
use Rattle.machine.specs.Kept.{Good}
use Rattle.machine.proofs.Kept.{kept, fresh_good}
use Rattle.rehearsal.specs.Run.{onto, run_of, input_refused, rehearse}
use Rattle.rehearsal.proofs.Runs.{rehearse_refused, rehearse_runs}
use Rattle.fields.proofs.Gathered.{zero_at}
use Rattle.demands.specs.Run.{SentIsLength, Stack, UnusedAreZero}
use Rattle.demands.proofs.Steps.{Stacked, stays, pushes, pops, Outcome, stops, flows, holds, sends, outcome}

-- P speaks of what was dispatched so far and of the state then
module _ (e : Fixed) (P : List ℕ → State → Type 0)
    (keeps : (out : List ℕ) (s : State) → Good e s → P out s → P (out ++ (step_of e s).out) (step_of e s).state) where
  pub along_run : (n : ℕ) (out : List ℕ) (s : State) → Good e s → P out s → P (out ++ (run_of n e s).out) (run_of n e s).state
  unfolding run_of
  along_run zero out s g p = subst (λ (l : List ℕ). P l s) (sym (append-nil out)) p
  along_run (suc n) out s g p = by (eqb (step_of e s).end.number 0) (along_run n (out ++ (step_of e s).out) (step_of e s).state (kept e s g).good q)
    where
      q : P (out ++ (step_of e s).out) (step_of e s).state
      q = keeps out s g p

      t : Did
      t = run_of n e (step_of e s).state

      by : (b : Bool) → P ((out ++ (step_of e s).out) ++ t.out) t.state
          → P (out ++ (pick b (onto (step_of e s).out t) (step_of e s)).out) (pick b (onto (step_of e s).out t) (step_of e s)).state
      by true r = subst (λ (l : List ℕ). P l t.state) (append_assoc out (step_of e s).out t.out) r
      by false r = q

  pub all_along : P [] fresh → (budget : ℕ) → P (rehearse budget e).out (rehearse budget e).state
  all_along p budget = by (ℕ_discrete (input_refused (length e.words) e.setting.wave.0 budget) 0)
    where
      by : Dec (input_refused (length e.words) e.setting.wave.0 budget ≡ 0) → P (rehearse budget e).out (rehearse budget e).state
      by (yes z) = subst (λ (d : Did). P d.out d.state) (sym (rehearse_runs budget e z)) (along_run budget [] fresh (fresh_good e) p)
      by (no h) = subst (λ (d : Did). P d.out d.state) (sym (rehearse_refused budget e _ refl h)) p

-- ---- the trace length

pub sent_step : (e : Fixed) (out : List ℕ) (s : State) → Good e s → s.core.sent ≡ length out → (step_of e s).state.core.sent ≡ length (out ++ (step_of e s).out)
sent_step e out s g p = (kept e s g).sent ∙ ap (λ (k : ℕ). k + length (step_of e s).out) p ∙ sym (length-append out (step_of e s).out)

pub sent_is_length : SentIsLength
sent_is_length e = all_along e (λ out s. s.core.sent ≡ length out) (sent_step e) refl

-- ---- the stack

zero_set : (l : List ℕ) (k : ℕ) → get_or (set l k 0) k 0 ≡ 0
zero_set [] k = refl
zero_set (x ∷ l) zero = refl
zero_set (x ∷ l) (suc k) = zero_set l k

pushed : (d : ℕ) (l : List ℕ) (v : ℕ) → Stack d l → Stack (d + 1) (set l d v)
pushed d l v s = record {
  size = length-set l d v ∙ s.size;
  unused = λ i h. get_or-set_other l d i v 0 (λ e. omega arith) ∙ s.unused i (omega arith);
}

popped : (d : ℕ) (l : List ℕ) → Stack d l → Stack (d - 1) (set l (d - 1) 0)
popped d l s = record { size = length-set l (d - 1) 0 ∙ s.size; unused = λ i h. by i h (ℕ_discrete i (d - 1)) }
  where
    by : (i : ℕ) → d - 1 ≤ i → Dec (i ≡ d - 1) → get_or (set l (d - 1) 0) i 0 ≡ 0
    by i h (yes e) = ap (λ (j : ℕ). get_or (set l (d - 1) 0) j 0) e ∙ zero_set l (d - 1)
    by i h (no n) = get_or-set_other l (d - 1) i 0 0 n ∙ s.unused i (omega arith)

abbrev pub StacksIn : State → Type 0
StacksIn s = Stack s.core.depth s.returns × Stack s.core.depth s.counters

stacks_flow : (s : State) {d : ℕ} {rs cs : List ℕ} → Stacked s d rs cs → StacksIn s → Stack d rs × Stack d cs
stacks_flow s stays p = p
stacks_flow s (pushes a k) p = (pushed s.core.depth s.returns a p.0, pushed s.core.depth s.counters k p.1)
stacks_flow s pops p = (popped s.core.depth s.returns p.0, popped s.core.depth s.counters p.1)

pub stacks_step : (e : Fixed) (s : State) (d : Did) → Outcome e s d → StacksIn s → StacksIn d.state
stacks_step e s d (stops r h _) p = p
stacks_step e s d (flows c rs cs f) p = stacks_flow s f.stack p
stacks_step e s d (holds g _) p = p
stacks_step e s d (sends g) p = p

pub fresh_stack : Stack 0 (replicate stack_depth 0)
fresh_stack = record { size = refl; unused = λ i h. zero_at stack_depth i }

pub unused_are_zero : UnusedAreZero
unused_are_zero e = all_along e (λ out s. StacksIn s) (λ out s g p. stacks_step e s (step_of e s) (outcome e s) p) (fresh_stack, fresh_stack)
