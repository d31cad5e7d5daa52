-- `accepted_never_faults`: a run stands at reached places, its stack holds the addresses after reached CALLs, and what it holds is sent in time.
-- Where every word passes and no fault is reached, no step of it can fault. Assumes nothing.
use mathlib.Core.Path.{◌≡◌, refl, sym, ap, subst, ◌∙◌}
use mathlib.Core.Bool.{Bool, true, false, not, ◌&&◌}
use mathlib.Core.List.{List}
use Prim.Native.Nat.{ℕ, zero, suc, ◌+◌, ◌-◌, ◌≤◌, ◌<◌}
use native.Mathlib.Decide.{ℕ_discrete, dec_lt}
use native.Mathlib.Omega.{arith}
use borrow.Author.Tests.{eqb-true, ltb-true, ltb-false, eq-eqb, ne_eqb, le-ltb}
use lib.Dec.{ltb, eqb, leb}
use lib.ListN.{length, get_or, set, drop, length-set}
use lib.Seq.{get_or-set_same, get_or-set_other}
use Rattle.instruction.specs.Bits.{pick}
use Rattle.instruction.specs.Form.{numbered}
use Rattle.instruction.specs.Word.{spelled_by}
use Rattle.instruction.specs.declared.WordAddress.{WordAddress}
use Rattle.instruction.specs.declared.Instruction.{Instruction}
use Rattle.instruction.specs.declared.Rules.{Rules}
use Rattle.instruction.specs.declared.Body.{Body}
use Rattle.instruction.specs.declared.Body.TheVariants as body
use Rattle.sequence.specs.Bounds.{stack_depth, group_size, budget_limit}
use Rattle.sequence.specs.Placing.{is_engine}
use Rattle.dispatch.proofs.Counts.{picks}
use Rattle.jumps.specs.State.{Fixed, Did, fresh, with_count, with_counter, with_core, stop, moves}
use Rattle.jumps.specs.Jumps.{nexts, repeat_of, compares, acts, cleared, goto_of, call_of, return_of, message_of}
use Rattle.jumps.specs.declared.Condition.{Condition}
use Rattle.jumps.specs.declared.Condition.TheVariants.{Absent, Fails, Holds}
use Rattle.jumps.specs.declared.State.{State}
use Rattle.machine.specs.Step.{send_of, engine_word_of, any_above, sync_of, act_of, breaks_group, step_of}
use Rattle.machine.proofs.Laws.{execute_acts, step_accepted}
use Rattle.rehearsal.specs.Run.{then_did, run_of, rehearse}
use Rattle.rehearsal.proofs.Runs.{rehearse_runs, refused_none}
use Rattle.flow.specs.declared.Move.TheVariants.{Other, Compare, Jump, Enter, Leave, Loop}
use Rattle.flow.specs.Move.{move_of, move_at}
use Rattle.flow.specs.Walk.{UsesCondition, goto, call, ret, Reached, start, compare, jump, enter, leave, passed, loop, looped, other, Fault, past, full, empty}
use Rattle.flow.proofs.Rules.{Walked, begin, on, over, back, walked}
use Rattle.walk.proofs.Laws.{depth}
use Rattle.verdict.specs.Flow.{Targets, FlowIs, sound, faulty}
use Rattle.verdict.specs.Words.{is_engine_word, is_high, closes, left_open, Passes}
use Rattle.verdict.specs.Check.{CheckIs, input, word, flow}
use Rattle.verdict.specs.declared.Verdict.{Verdict}
use Rattle.verdict.proofs.Laws.{jump_to}
use Rattle.verdict.proofs.Words.{Stands, stands, targets, closes_none, closes_not, closes_on, input_lengths_good, input_good}
use Rattle.demands.proofs.Exact.{fault_number}
use Rattle.demands.specs.Check.{NoFault, budget_spent, trigger_awaited, message_awaited, trace_full, AcceptedNeverFaults}

-- a condition is held
abbrev is_held : Condition → Bool
is_held Absent = false
is_held Fails = true
is_held Holds = true

-- a jump that is not taken had one
held_where_not : (c : Condition) → acts c ≡ false → is_held c ≡ true
held_where_not Absent e = sym e
held_where_not Fails e = refl
held_where_not Holds e = refl

-- no reached address is past the last word's next
within : {lim : ℕ} {ws : List ℕ} {a d : ℕ} {c : Bool} → Targets ws → Walked lim ws a d c → a ≤ length ws
within ts begin = omega arith
within ts (on q l n) = omega arith
within ts (over {a = a} q l j) = let h = ts a l in let e = jump_to j in omega arith
within ts (back p k o q l u) = omega arith

unlike : {A : Type 0} {b : Bool} → b ≡ true → b ≡ false → A
unlike p q = let x : ◌≡◌ {A = ℕ} 0 1 = cc in absurd (omega arith)

engine_word : (w : ℕ) → is_engine_word w ≡ is_engine (spelled_by w).body
unfolding is_engine_word
engine_word w = refl

high_word : (w : ℕ) → is_high w ≡ not (eqb (spelled_by w).write 0)
unfolding is_high
high_word w = refl

open_of : (i : Instruction) (above : List ℕ) → left_open i above ≡ false → is_engine i.body ≡ true → i.write ≡ 0 → closes (group_size - 1) above ≡ true
unfolding left_open
open_of i above o p z = by (closes (group_size - 1) above) (sym (rw (p, z) refl) ∙ o)
  where
    by : (b : Bool) → not b ≡ false → b ≡ true
    by true e = refl
    by false e = sym e

-- ---- a state of the run is one of the walk's

-- r is the address after a CALL reached at depth k
abbrev Called : List ℕ → ℕ → ℕ → Type 0
Called words k r = (b : ℕ) × (h : Bool) × (t : WordAddress) × Reached stack_depth words b k h × (b < length words) × (move_at words b ≡ Enter t) × (r ≡ b + 1)

record Walks (words : List ℕ) (a d : ℕ) (c : Condition) (held : ℕ) (returns : List ℕ) : Type 0 where
  at : Reached stack_depth words a d (is_held c)
  stack : (k : ℕ) → k < d → Called words k (get_or returns k 0)
  long : length returns ≡ stack_depth
  group : 0 < held → closes (group_size - held) (drop a words) ≡ true

abbrev WalksIn : List ℕ → State → Type 0
WalksIn words s = Walks words s.core.address.0 s.core.depth s.core.condition s.core.held s.returns

-- what a step did: it ended without a fault, or went on along the walk
data Fine (words : List ℕ) : Did → Type 0 where
  ends : {s : State} {n : ℕ} → NoFault n → Fine words (stop n s)
  goes : {s : State} {out : List ℕ} → WalksIn words s → Fine words (record { end = numbered 0; state = s; out = out })

module _ (rules : Rules) (wave : ℕ) (words : List ℕ) (some : 0 < length words) (pass : (a : ℕ) → a < length words → Passes rules wave words a)
    (none : (k a : ℕ) → Fault stack_depth words k a → ⊥) where
  inside : {a d : ℕ} {c : Bool} → Reached stack_depth words a d c → a < length words
  inside {a = a} {d = d} {c = c} q = by (ℕ_discrete a (length words)) (within (targets rules wave words some pass) (walked q))
    where
      by : Dec (a ≡ length words) → a ≤ length words → a < length words
      by (yes e) l = absurd (none 30 (length words) (past (subst (λ (z : ℕ). Reached stack_depth words z d c) e q)))
      by (no h) l = omega arith

  module _ {a d : ℕ} {c : Condition} {held : ℕ} {rs : List ℕ} (w : Walks words a d c held rs) where
    -- ---- the rules, each for the state after it

    next_other : (h : ℕ) → move_at words a ≡ Other → (0 < h → closes (group_size - h) (drop (a + 1) words) ≡ true) → Walks words (a + 1) d c h rs
    next_other h o g = record { at = other w.at (inside w.at) o; stack = w.stack; long = w.long; group = g }

    next_compare : move_at words a ≡ Compare → held ≡ 0 → (t : Bool) → Walks words (a + 1) d (pick t Holds Fails) held rs
    next_compare o z true = record { at = compare w.at (inside w.at) o; stack = w.stack; long = w.long; group = λ l. absurd (omega arith) }
    next_compare o z false = record { at = compare w.at (inside w.at) o; stack = w.stack; long = w.long; group = λ l. absurd (omega arith) }

    next_loop : (t : WordAddress) → move_at words a ≡ Loop t → held ≡ 0 → Walks words (a + 1) d c held rs
    next_loop t o z = record { at = looped w.at (inside w.at) o; stack = w.stack; long = w.long; group = λ l. absurd (omega arith) }

    to_loop : (t : WordAddress) → move_at words a ≡ Loop t → held ≡ 0 → Walks words t.0 d c held rs
    to_loop t o z = record { at = loop w.at (inside w.at) o; stack = w.stack; long = w.long; group = λ l. absurd (omega arith) }

    next_passed : UsesCondition (move_at words a) → acts c ≡ false → held ≡ 0 → Walks words (a + 1) d Absent held rs
    next_passed u n z =
        record {
          at = passed (subst (λ (h : Bool). Reached stack_depth words a d h) (held_where_not c n) w.at) (inside w.at) u;
          stack = w.stack;
          long = w.long;
          group = λ l. absurd (omega arith);
        }

    to_goto : (t : WordAddress) → move_at words a ≡ Jump t → held ≡ 0 → Walks words t.0 d Absent held rs
    to_goto t o z = record { at = jump w.at (inside w.at) o; stack = w.stack; long = w.long; group = λ l. absurd (omega arith) }

    to_call : (t : WordAddress) → move_at words a ≡ Enter t → held ≡ 0 → d < stack_depth → Walks words t.0 (d + 1) Absent held (set rs d (a + 1))
    to_call t o z k =
        record {
          at = enter w.at (inside w.at) o k;
          stack = λ i l. by i l (ℕ_discrete i d);
          long = length-set rs d (a + 1) ∙ w.long;
          group = λ l. absurd (omega arith);
        }
      where
        by : (i : ℕ) → i < d + 1 → Dec (i ≡ d) → Called words i (get_or (set rs d (a + 1)) i 0)
        by i l (yes e) =
            subst (λ (j : ℕ). Called words j (get_or (set rs d (a + 1)) j 0)) (sym e)
            (a, is_held c, t, w.at, inside w.at, o, get_or-set_same rs d (a + 1) 0 (omega (arith, k, w.long)))
        by i l (no h) = subst (λ (r : ℕ). Called words i r) (sym (get_or-set_other rs d i (a + 1) 0 h)) (w.stack i (omega arith))

    to_return : move_at words a ≡ Leave → held ≡ 0 → 0 < d → Walks words (get_or rs (d - 1) 0) (d - 1) Absent held (set rs (d - 1) 0)
    to_return o z k =
        let q = w.stack (d - 1) (omega arith) in
        record {
          at = subst (λ (x : ℕ). Reached stack_depth words x (d - 1) false) (sym q.6)
              (leave (subst (λ (x : ℕ). Reached stack_depth words a x (is_held c)) (up d k) w.at) (inside w.at) o q.3 q.4 q.5);
          stack = λ i l. subst (λ (r : ℕ). Called words i r) (sym (get_or-set_other rs (d - 1) i 0 0 (λ e. omega arith))) (w.stack i (omega arith));
          long = length-set rs (d - 1) 0 ∙ w.long;
          group = λ l. absurd (omega arith);
        }
      where
        up : (d : ℕ) → 0 < d → d ≡ (d - 1) + 1
        up d h = omega arith

    -- ---- groups

    module _ (st : Stands rules wave words a) where
      engine_same : is_engine_word (get_or words a 0) ≡ is_engine st.instruction.body
      engine_same = engine_word (get_or words a 0) ∙ ap is_engine st.body

      high_same : is_engine st.instruction.body ≡ true → is_high (get_or words a 0) ≡ not (eqb st.instruction.write 0)
      high_same p = high_word (get_or words a 0) ∙ ap (λ (x : ℕ). not (eqb x 0)) (st.flag p)

      few : 0 < held → 0 < group_size - held
      few l = by (dec_lt 0 (group_size - held))
        where
          by : Dec (0 < group_size - held) → 0 < group_size - held
          by (yes h) = h
          by (no h) = unlike (w.group l) (ap (λ (k : ℕ). closes k (drop a words)) (zero_of (group_size - held) h) ∙ closes_none (drop a words))
            where
              zero_of : (k : ℕ) → (0 < k → ⊥) → k ≡ 0
              zero_of k h = omega arith

      -- a group is held only before engine words
      none_held : is_engine st.instruction.body ≡ false → held ≡ 0
      none_held p = by (dec_lt 0 held)
        where
          by : Dec (0 < held) → held ≡ 0
          by (yes l) = unlike (w.group l) (closes_not (group_size - held) a words (few l) (inside w.at) (engine_same ∙ p))
          by (no h) = omega arith

      -- a low word that is held is sent in time
      held_on : is_engine st.instruction.body ≡ true → st.instruction.write ≡ 0 → closes (group_size - (held + 1)) (drop (a + 1) words) ≡ true
      held_on p z = by (dec_lt 0 held)
        where
          low : is_high (get_or words a 0) ≡ false
          low = high_same p ∙ ap not (eq-eqb st.instruction.write 0 z)

          less : (h : ℕ) → group_size - (h + 1) ≡ group_size - h - 1
          less h = omega arith

          by : Dec (0 < held) → closes (group_size - (held + 1)) (drop (a + 1) words) ≡ true
          by (yes l) =
              ap (λ (k : ℕ). closes k (drop (a + 1) words)) (less held)
              ∙ sym (closes_on (group_size - held) a words (few l) (inside w.at) (engine_same ∙ p) low)
              ∙ w.group l
          by (no h) = ap (λ (k : ℕ). closes (group_size - (k + 1)) (drop (a + 1) words)) (zero_of held h) ∙ open_of st.instruction (drop (a + 1) words) st.closed p z
            where
              zero_of : (k : ℕ) → (0 < k → ⊥) → k ≡ 0
              zero_of k h = omega arith

      not_broken : breaks_group held st.instruction.write st.instruction.body ≡ false
      not_broken = by (is_engine st.instruction.body) refl (ℕ_discrete held (group_size - 1)) (ℕ_discrete st.instruction.write 0)
        where
          by : (p : Bool) → is_engine st.instruction.body ≡ p → Dec (held ≡ group_size - 1) → Dec (st.instruction.write ≡ 0)
              → pick p (eqb held (group_size - 1) && eqb st.instruction.write 0) (ltb 0 held) ≡ false
          by false p h z = le-ltb 0 held (omega (arith, none_held p))
          by true p (no h) z = rw (ne_eqb held (group_size - 1) h) refl
          by true p (yes e) (no z) = rw (eq-eqb held (group_size - 1) e, ne_eqb st.instruction.write 0 z) refl
          by true p (yes e) (yes z) =
              unlike (held_on p z) (ap (λ (k : ℕ). closes (group_size - (k + 1)) (drop (a + 1) words)) e ∙ closes_none (drop (a + 1) words))

  -- ---- what an instruction does

  module _ (e : Fixed) (s : State) (w : WalksIn words s) where
    send_fine : move_at words s.core.address.0 ≡ Other → Fine words (send_of e s)
    unfolding send_of
    send_fine o =
        picks (Fine words) (leb (s.core.sent + (s.core.held + 1)) e.room)
        (λ _. goes (next_other w 0 o (λ l. absurd (omega arith))))
        (λ _. ends trace_full)

    sync_fine : move_at words s.core.address.0 ≡ Other → Fine words (sync_of e s)
    unfolding sync_of
    sync_fine o = picks (Fine words) (any_above e.setting.triggers s.waits) (λ _. ends trigger_awaited) (λ _. send_fine o)

    message_fine : move_at words s.core.address.0 ≡ Other → s.core.held ≡ 0 → (m : List ℕ) → Fine words (message_of m s)
    unfolding message_of
    message_fine o z m =
        picks (Fine words) (ltb s.core.used (length m))
        (λ _. goes (next_other w s.core.held o (λ l. absurd (omega arith))))
        (λ _. ends message_awaited)

    call_fine : (t : WordAddress) → move_at words s.core.address.0 ≡ Enter t → s.core.held ≡ 0 → Fine words (call_of s t.0)
    unfolding call_of
    call_fine t o z =
        picks (Fine words) (acts s.core.condition)
        (λ _. picks (Fine words) (ltb s.core.depth stack_depth)
        (λ k. goes (to_call w t o z (ltb-true s.core.depth stack_depth k)))
        (λ k. absurd (none 31 s.core.address.0 (full (subst (λ (d : ℕ). Reached stack_depth words s.core.address.0 d (is_held s.core.condition)) (deep k) w.at) (inside w.at) o))))
        (λ n. goes (next_passed w (subst UsesCondition (sym o) call) n z))
      where
        deep : ltb s.core.depth stack_depth ≡ false → s.core.depth ≡ stack_depth
        deep k = omega (arith, ltb-false s.core.depth stack_depth k, depth (walked w.at))

    return_fine : move_at words s.core.address.0 ≡ Leave → s.core.held ≡ 0 → Fine words (return_of s)
    unfolding return_of
    return_fine o z =
        picks (Fine words) (acts s.core.condition)
        (λ _. picks (Fine words) (ltb 0 s.core.depth)
        (λ k. goes (to_return w o z (ltb-true 0 s.core.depth k)))
        (λ k. absurd (none 32 s.core.address.0 (empty (subst (λ (d : ℕ). Reached stack_depth words s.core.address.0 d (is_held s.core.condition)) (bare k) w.at) (inside w.at) o))))
        (λ n. goes (next_passed w (subst UsesCondition (sym o) ret) n z))
      where
        bare : ltb 0 s.core.depth ≡ false → s.core.depth ≡ 0
        bare k = omega (arith, ltb-false 0 s.core.depth k)

    repeat_fine : (t : WordAddress) → move_at words s.core.address.0 ≡ Loop t → s.core.held ≡ 0 → Fine words (moves (with_core (repeat_of s.core t.0) s))
    repeat_fine t o z = by (eqb s.core.counter 0)
      where
        by : (b : Bool) → Fine words (moves (with_core (pick b (nexts s.core) (with_count t.0 (s.core.steps + 1) (with_counter (s.core.counter - 1) s.core))) s))
        by true = goes (next_loop w t o z)
        by false = goes (to_loop w t o z)

    goto_fine : (t : WordAddress) → move_at words s.core.address.0 ≡ Jump t → s.core.held ≡ 0 → Fine words (moves (with_core (goto_of s.core t.0) s))
    goto_fine t o z = by (acts s.core.condition) refl
      where
        by : (b : Bool) → acts s.core.condition ≡ b → Fine words (moves (with_core (pick b (with_count t.0 (s.core.steps + 1) (cleared s.core)) (nexts (cleared s.core))) s))
        by true n = goes (to_goto w t o z)
        by false n = goes (next_passed w (subst UsesCondition (sym o) goto) n z)

    module _ (st : Stands rules wave words s.core.address.0) where
      move : {b : Body} → st.instruction.body ≡ b → move_at words s.core.address.0 ≡ move_of b
      move p = ap move_of (st.body ∙ p)

      idle : {b : Body} → st.instruction.body ≡ b → is_engine b ≡ false → s.core.held ≡ 0
      idle p n = none_held w st (ap is_engine p ∙ n)

      engine_fine : is_engine st.instruction.body ≡ true → move_at words s.core.address.0 ≡ Other → Fine words (engine_word_of e s st.instruction.write)
      unfolding engine_word_of
      engine_fine p o =
          picks (Fine words) (eqb st.instruction.write 0)
          (λ z. goes (next_other w (s.core.held + 1) o (λ l. held_on w st p (eqb-true st.instruction.write 0 z))))
          (λ _. send_fine o)

      still : move_at words s.core.address.0 ≡ Other → s.core.held ≡ 0 → Walks words (s.core.address.0 + 1) s.core.depth s.core.condition s.core.held s.returns
      still o z = next_other w s.core.held o (λ l. absurd (omega arith))

      act_fine : (b : Body) → st.instruction.body ≡ b → Fine words (act_of e s st.instruction.write b)
      unfolding act_of
      act_fine (body.Waveform f) p = engine_fine (ap is_engine p) (move p)
      act_fine (body.Marker f) p = engine_fine (ap is_engine p) (move p)
      act_fine body.Wait p = send_fine (move p)
      act_fine (body.LoadRepeat n) p = goes (still (move p) (idle p refl))
      act_fine (body.Repeat t) p = repeat_fine t (move p) (idle p refl)
      act_fine (body.Cmp x) p = goes (next_compare w (move p) (idle p refl) (compares x.code s.core.register x.mask))
      act_fine (body.Goto t) p = goto_fine t (move p) (idle p refl)
      act_fine (body.Call t) p = call_fine t (move p) (idle p refl)
      act_fine (body.Return r) p = return_fine (move p) (idle p refl)
      act_fine body.Sync p = sync_fine (move p)
      act_fine (body.Modulator f) p = engine_fine (ap is_engine p) (move p)
      act_fine (body.LoadCmp r) p = message_fine (move p) (idle p refl) e.messages
      act_fine (body.Prefetch t) p = goes (still (move p) (idle p refl))
      act_fine body.Noop p = goes (still (move p) (idle p refl))

-- ---- the run

module _ (e : Fixed) (some : 0 < length e.words) (pass : (a : ℕ) → a < length e.words → Passes e.setting.rules e.setting.wave.0 e.words a)
    (none : (k a : ℕ) → Fault stack_depth e.words k a → ⊥) where
  step_fine : (s : State) → WalksIn e.words s → Fine e.words (step_of e s)
  step_fine s w =
      let l = inside e.setting.rules e.setting.wave.0 e.words some pass none w.at in
      let st = stands e.setting.rules e.setting.wave.0 e.words s.core.address.0 (pass s.core.address.0 l) in
      let b = not_broken e.setting.rules e.setting.wave.0 e.words some pass none w st in
      subst (Fine e.words)
      (sym (step_accepted e s st.instruction l st.reads ∙ execute_acts e s st.instruction st.placed b))
      (act_fine e.setting.rules e.setting.wave.0 e.words some pass none e s w st st.instruction.body refl)

  run_fine : (budget : ℕ) (s : State) → WalksIn e.words s → NoFault (run_of budget e s).end.number
  unfolding run_of
  run_fine zero s w = budget_spent
  run_fine (suc budget) s w = by (step_of e s) (step_fine s w) (run_fine budget)
    where
      by : (d : Did) → Fine e.words d → ((t : State) → WalksIn e.words t → NoFault (run_of budget e t).end.number) → NoFault (then_did d (run_of budget e d.state)).end.number
      by d (ends budget_spent) ih = budget_spent
      by d (ends trigger_awaited) ih = trigger_awaited
      by d (ends message_awaited) ih = message_awaited
      by d (ends trace_full) ih = trace_full
      by d (goes {s = t} v) ih = ih t v

  begins : WalksIn e.words fresh
  begins = record { at = start; stack = λ k l. absurd (omega arith); long = refl; group = λ l. absurd (omega arith) }

never : (e : Fixed) (budget : ℕ) (marks marks' : List ℕ) (v : Verdict) → CheckIs e.setting.rules e.setting.wave.0 e.words marks v marks' → v.refusal.number ≡ 0
    → budget ≤ budget_limit → NoFault (rehearse budget e).end.number
never e budget marks _ v (input h) z l = absurd (h z)
never e budget marks _ v (word _ _ h) z l = absurd (h z)
never e budget marks _ v (flow i all _ f) z l =
    subst (λ (d : Did). NoFault d.end.number) (sym (rehearse_runs budget e (refused_none (length e.words) e.setting.wave.0 budget (input_lengths_good (length e.words) e.setting.wave.0 (length marks) i) l)))
    (run_fine e (input_good (length e.words) e.setting.wave.0 (length marks) i).0 all (no_fault f z) budget fresh (begins e (input_good (length e.words) e.setting.wave.0 (length marks) i).0 all (no_fault f z)))
  where
    no_fault : {v : Verdict} → FlowIs stack_depth e.words v → v.refusal.number ≡ 0 → (k a : ℕ) → Fault stack_depth e.words k a → ⊥
    no_fault (sound n) z = n
    no_fault (faulty {number = k} {a = a} g _) z = absurd (fault_number stack_depth e.words k a g z)

pub accepted_never_faults : AcceptedNeverFaults
accepted_never_faults rules wave words marks marks' v c z e budget p q o =
    never e budget marks marks' v (subst (λ (k : Rules). CheckIs k e.setting.wave.0 e.words marks v marks') (sym o)
    (subst (λ (n : ℕ). CheckIs rules n e.words marks v marks') (sym q) (subst (λ (l : List ℕ). CheckIs rules wave l marks v marks') (sym p) c))) z
