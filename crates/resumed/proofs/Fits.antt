-- What a run leaves, and with it that refusal 70 judges none of its fields wrong.
-- Assumes nothing.
use mathlib.Core.Path.{◌≡◌, refl, sym, ap, ◌∙◌, subst}
use mathlib.Core.Bool.{true, false}
use mathlib.Core.List.{List, [], ◌∷◌}
use Prim.Native.Nat.{ℕ, suc, ◌+◌, ◌-◌, ◌*◌, ◌^◌, ◌≤◌}
use native.Mathlib.Omega.{arith}
use borrow.Author.Tests.{le-leb, lt-ltb, le-ltb, eq-eqb}
use lib.ListN.{length, get_or, drop}
use lib.Seq.{get_or-drop}
use Rattle.reader.specs.Reading.{Reading, reading_of}
use Rattle.sequence.specs.Bounds.{stack_depth, group_size}
use Rattle.sequence.specs.Placing.{placing_of}
use Rattle.dispatch.specs.Engines.{AllLe}
use Rattle.dispatch.specs.Trace.{part}
use Rattle.jumps.specs.State.{Fixed, fixed_by, Did, fresh}
use Rattle.jumps.specs.declared.Setting.{Setting}
use Rattle.jumps.specs.declared.State.{State}
use Rattle.machine.specs.Step.{any_above, step_of}
use Rattle.machine.specs.Kept.{Good}
use Rattle.machine.proofs.Kept.{kept, fresh_good}
use Rattle.rehearsal.specs.Run.{run_of}
use Rattle.demands.specs.Run.{Stack, Every}
use Rattle.demands.proofs.Steps.{Low, Outcome, stops, flows, holds, sends, outcome}
use Rattle.demands.proofs.Along.{along_run, sent_step, StacksIn, stacks_step, fresh_stack}
use Rattle.demands.proofs.Trace.{held_words, held_every}
use Rattle.left.specs.Left.{stack_fits, can_be_held, can_all_be_held, group_fits, counts_fit, core_fits, could_be_left}

-- ---- what a run leaves

abbrev LowIn : Fixed → ℕ → Type 0
LowIn e word = Low e.setting.rules e.setting.wave.0 (length e.words) word

-- with these words dispatched
pub record Left (e : Fixed) (out : List ℕ) (s : State) : Type 0 where
  pub good : Good e s
  pub sent : s.core.sent ≡ length out
  pub stacks : StacksIn s
  pub used : s.core.used ≤ length e.messages
  pub held : Every (LowIn e) (held_words e s.core)

used_step : (e : Fixed) (s : State) (d : Did) → Outcome e s d → s.core.used ≤ length e.messages → d.state.core.used ≤ length e.messages
used_step e s d (stops r h _) p = p
used_step e s d (flows c rs cs f) p = f.used p
used_step e s d (holds g _) p = p
used_step e s d (sends g) p = p

held_step : (e : Fixed) (s : State) (d : Did) → Good e s → Outcome e s d → Every (LowIn e) (held_words e s.core) → Every (LowIn e) (held_words e d.state.core)
held_step e s d b (stops r h _) p = p
held_step e s d b (flows c rs cs f) p = subst (λ (h : ℕ). Every (LowIn e) (part (c.address.0 - h) h e.words)) (sym f.held) tt
held_step e s d b (holds g l) p = held_every (LowIn e) e s b g.inside p l
held_step e s d b (sends g) p = tt

pub left_by : (e : Fixed) (n : ℕ) → Left e (run_of n e fresh).out (run_of n e fresh).state
left_by e n =
    along_run e (Left e)
    (λ out s g p. record {
      good = (kept e s g).good;
      sent = sent_step e out s g p.sent;
      stacks = stacks_step e s (step_of e s) (outcome e s) p.stacks;
      used = used_step e s (step_of e s) (outcome e s) p.used;
      held = held_step e s (step_of e s) g (outcome e s) p.held;
    })
    n [] fresh (fresh_good e)
    (record { good = fresh_good e; sent = refl; stacks = (fresh_stack, fresh_stack); used = omega arith; held = tt })

-- ---- what 70 judges

none_above : (b : ℕ) (l : List ℕ) → AllLe b l → any_above b l ≡ false
none_above b [] h = refl
none_above b (x ∷ l) h = rw (le-ltb b x h.0) (none_above b l h.1)

all_zero : (l : List ℕ) → ((i : ℕ) → get_or l i 0 ≡ 0) → AllLe 0 l
all_zero [] h = tt
all_zero (x ∷ l) h = (omega (arith, h 0), all_zero l (λ i. h (suc i)))

none_unused : (d : ℕ) (l : List ℕ) → Stack d l → any_above 0 (drop d l) ≡ false
none_unused d l s = none_above 0 (drop d l) (all_zero (drop d l) (λ i. get_or-drop d l i 0 ∙ s.unused (d + i) (omega arith)))

one_held : (e : Fixed) (w : ℕ) → LowIn e w → can_be_held e (reading_of e.setting.rules w) ≡ true
one_held e w p =
    ap (λ (r : Reading). can_be_held e r) p.form
    ∙ rw (p.engine, eq-eqb p.instruction.write 0 p.write, eq-eqb (placing_of e.setting.wave.0 (length e.words) p.instruction.body) 0 p.placed)

all_held : (e : Fixed) (ws : List ℕ) → Every (LowIn e) ws → can_all_be_held e ws ≡ true
all_held e [] p = refl
all_held e (w ∷ ws) p = rw (one_held e w p.0) (all_held e ws p.1)

-- with as many messages and as much room, whatever the triggers
module _ (words m m' : List ℕ) (r r' t : ℕ) (a : Setting) (s : State) (out : List ℕ) (longer : length m ≤ length m') (wider : r ≤ r') (left : Left (fixed_by words m r a) out s) where
  abbrev e : Fixed
  e = fixed_by words m' r' (record { wave = a.wave; rules = a.rules; triggers = t })

  stack_fits_lem : stack_fits (length words) s.core.depth s.returns s.counters ≡ true
  unfolding stack_fits
  stack_fits_lem =
      rw (none_above (length words) s.returns left.good.returns, none_unused s.core.depth s.returns left.stacks.0, none_unused s.core.depth s.counters left.stacks.1)

  group_fits_lem : group_fits e s.core ≡ true
  unfolding group_fits
  group_fits_lem =
      let g = left.good in
      rw (lt-ltb s.core.held group_size g.held, le-leb s.core.held s.core.steps g.counted, le-leb s.core.held s.core.address.0 g.behind, all_held e (held_words e s.core) left.held)

  counts_fit_lem : counts_fit (s.core.steps - s.core.held) s.waits s.totals ≡ true
  unfolding counts_fit
  counts_fit_lem =
      let n : ℕ = s.core.steps - s.core.held in
      let c = left.good.counts in
      rw (none_above n s.waits c.waits.small, none_above (n * 2 ^ 32) s.totals c.totals.small)

  core_fits_lem : (budget : ℕ) → s.core.steps ≤ budget → core_fits e budget s.core ≡ true
  unfolding core_fits
  core_fits_lem budget h =
      let g = left.good in
      let sent : s.core.sent ≤ r' = omega (arith, g.sent, wider) in
      let used : s.core.used ≤ length m' = omega (arith, left.used, longer) in
      rw (le-leb s.core.address.0 (length words) g.address, le-leb s.core.depth stack_depth g.depth, le-leb s.core.used (length m') used, le-leb s.core.sent r' sent, le-leb s.core.steps budget h)

  pub could_be_left_lem : (budget : ℕ) → s.core.steps ≤ budget → could_be_left e budget s ≡ true
  unfolding could_be_left
  could_be_left_lem budget h = rw (core_fits_lem budget h, stack_fits_lem, group_fits_lem, counts_fit_lem)
