-- One step has four outcomes: it stops with a number and alters nothing, it flows on with nothing held, it holds a word, or it sends a group.
-- What is promised of single steps follows from that. Assumes nothing.
use mathlib.Core.Path.{◌≡◌, refl, sym, ap, subst, ◌∙◌}
use mathlib.Core.Bool.{Bool, true, false, true≢false}
use mathlib.Core.List.{List, []}
use Prim.Native.Nat.{ℕ, ◌+◌, ◌-◌, ◌≤◌, ◌<◌}
use native.Mathlib.Omega.{arith}
use borrow.Author.Tests.{eqb-true, eqb-false, ltb-true, ltb-false}
use lib.Dec.{ltb, eqb, leb}
use lib.ListN.{length, get_or, set}
use Rattle.instruction.specs.Bits.{pick}
use Rattle.instruction.specs.Table.{noop_word}
use Rattle.instruction.specs.Word.{spelled_by, noop}
use Rattle.instruction.specs.declared.Refusal.{Refusal}
use Rattle.instruction.specs.declared.Rules.{Rules}
use Rattle.instruction.specs.declared.Instruction.{Instruction}
use Rattle.instruction.specs.declared.Body.{Body}
use Rattle.instruction.specs.declared.Body.TheVariants.{Waveform, Marker, Wait, LoadRepeat, Repeat, Cmp, Goto, Call, Return, Sync, Modulator, LoadCmp, Prefetch, Noop}
use Rattle.reader.specs.Reading.{Reading, form_in, refused_with, judged, reading_of, refusal_of, number_of}
use Rattle.std.specs.declared.result.Result.TheVariants.{Ok, Err}
use Rattle.reader.proofs.Laws.{reads_instruction}
use Rattle.sequence.specs.Placing.{on_engine, is_engine, out_of_wave, out_of_words, placing_of}
use Rattle.dispatch.proofs.Counts.{picks}
use Rattle.instruction.specs.Form.{numbered}
use Rattle.jumps.specs.State.{Fixed, Did, state_of, with_core, refused_by, stop, moves}
use Rattle.jumps.specs.Jumps.{repeat_of, acts, goto_of, call_of, return_of, message_of, hold_of}
use Rattle.jumps.specs.declared.Core.{Core}
use Rattle.jumps.specs.declared.State.{State}
use Rattle.machine.specs.Step.{group_of, sent, send_of, engine_word_of, any_above, sync_of, act_of, breaks_group, execute_of, with_reading, step_of}
use Rattle.demands.specs.Run.{is_dispatched, Reads, StopsStill}
use Rattle.demands.specs.Bit.{SaysBit}
use Rattle.demands.proofs.Bit.{Quiet, says_none, which_bit}

-- ---- a refused word has a number

refused_number : (q : Refusal) (i : Instruction) (r : Refusal) (b : Bool) → eqb q.number 0 ≡ b → pick b (Ok i) (Err q) ≡ Err r → r.number ≡ 0 → ⊥
refused_number q i r true e p z = let x : ◌≡◌ {A = ℕ} 0 1 = cc in omega arith
refused_number q i r false e p z = eqb-false q.number 0 e (same p ∙ z)
  where
    same : ◌≡◌ {A = Reading} (Err q) (Err r) → q.number ≡ r.number
    same p = ap number p
      where
        number : Reading → ℕ
        number (Ok j) = q.number
        number (Err t) = t.number

reading_number : (rules : Rules) (w : ℕ) (r : Refusal) → reading_of rules w ≡ Err r → r.number ≡ 0 → ⊥
unfolding reading_of
reading_number rules w r q z = by (eqb w noop_word) q
  where
    by : (b : Bool) → pick b (Ok noop) (judged (refused_with w (form_in rules w)) (spelled_by w)) ≡ Err r → ⊥
    by true p = let x : ◌≡◌ {A = ℕ} 0 1 = cc in omega arith
    by false p = refused_number (refused_with w (form_in rules w)) (spelled_by w) r (eqb (form_in rules w) 0) refl p z

-- ---- a word that goes out

-- a reading is of a word that goes out
abbrev dispatches : Reading → Bool
dispatches (Ok i) = is_dispatched i.body
dispatches (Err r) = false

-- it is no NOOP, so it reads as what its fields spell
reads_of : (rules : Rules) (w : ℕ) (i : Instruction) → reading_of rules w ≡ Ok i → is_dispatched i.body ≡ true → Reads rules w
reads_of rules w i r q = by (eqb w noop_word) (reads_instruction rules w (ap number_of r))
  where
    by : (b : Bool) → Ok (pick b noop (spelled_by w)) ≡ reading_of rules w → Reads rules w
    by true p = absurd (true≢false (sym (ap dispatches (p ∙ r) ∙ q)))
    by false p = record { form = sym p; kind = ap dispatches (p ∙ r) ∙ q }

-- ---- the four outcomes

-- 20 and 21 tell no bit
pub placing_quiet : (wave n : ℕ) (b : Body) → Quiet (placing_of wave n b)
unfolding placing_of
placing_quiet wave n b =
    picks Quiet (on_engine (out_of_wave wave) (λ f. false) (λ f. false) false b) (λ _. refl) (λ _. picks Quiet (out_of_words n b) (λ _. refl) (λ _. refl))

-- depth, return addresses and counters after a step of flow: they stay, a CALL pushed, or a RETURN popped
pub data Stacked (s : State) : ℕ → List ℕ → List ℕ → Type 0 where
  stays : Stacked s s.core.depth s.returns s.counters
  pushes : (a k : ℕ) → Stacked s (s.core.depth + 1) (set s.returns s.core.depth a) (set s.counters s.core.depth k)
  pops : Stacked s (s.core.depth - 1) (set s.returns (s.core.depth - 1) 0) (set s.counters (s.core.depth - 1) 0)

-- after a step of flow: it is counted, nothing is held, and no message is used that was not given
pub record Flows (e : Fixed) (s : State) (c : Core) (rs cs : List ℕ) : Type 0 where
  pub steps : c.steps ≡ s.core.steps + 1
  pub held : c.held ≡ 0
  pub used : s.core.used ≤ length e.messages → c.used ≤ length e.messages
  pub stack : Stacked s c.depth rs cs

-- the word at the address goes out, now or with the group that it is held for
pub record Goes (e : Fixed) (s : State) : Type 0 where
  pub inside : s.core.address.0 < length e.words
  pub reads : Reads e.setting.rules (get_or e.words s.core.address.0 0)

-- a word that can be held, with W quad-samples and n words: a low engine word that passes form and 20
pub record Low (rules : Rules) (wave n word : ℕ) : Type 0 where
  pub instruction : Instruction
  pub form : reading_of rules word ≡ Ok instruction
  pub engine : is_engine instruction.body ≡ true
  pub write : instruction.write ≡ 0
  pub placed : placing_of wave n instruction.body ≡ 0

-- the word at the address is one
abbrev pub LowAt : Fixed → State → Type 0
LowAt e s = Low e.setting.rules e.setting.wave.0 (length e.words) (get_or e.words s.core.address.0 0)

pub data Outcome (e : Fixed) (s : State) : Did → Type 0 where
  stops : (r : Refusal) → (r.number ≡ 0 → ⊥) → SaysBit (get_or e.words s.core.address.0 0) r → Outcome e s (refused_by r s)
  flows : (c : Core) (rs cs : List ℕ) → Flows e s c rs cs → Outcome e s (moves (state_of c rs cs s.waits s.totals))
  holds : Goes e s → LowAt e s → Outcome e s (moves (with_core (hold_of s.core) s))
  sends : Goes e s → Outcome e s (record { end = numbered 0; state = sent e s; out = group_of e s.core })

module _ (e : Fixed) (s : State) where
  stop_at : (n : ℕ) → (n ≡ 0 → ⊥) → Quiet n → Outcome e s (stop n s)
  stop_at n h q = stops (numbered n) h (says_none _ n q)

  -- flow, where nothing is held
  module _ (free : s.core.held ≡ 0) where
    moves_on : (c : Core) (rs cs : List ℕ) → c.steps ≡ s.core.steps + 1 → c.held ≡ s.core.held → (s.core.used ≤ length e.messages → c.used ≤ length e.messages) → Stacked s c.depth rs cs → Outcome e s (moves (state_of c rs cs s.waits s.totals))
    moves_on c rs cs k h u t = flows c rs cs (record { steps = k; held = h ∙ free; used = u; stack = t })

    call_outcome : (a : ℕ) → Outcome e s (call_of s a)
    unfolding call_of
    call_outcome a =
        picks (Outcome e s) (acts s.core.condition)
        (λ _. picks (Outcome e s) (ltb s.core.depth 16) (λ _. moves_on _ _ _ refl refl (λ u. u) (pushes _ _)) (λ _. stop_at 31 (λ z. omega (arith, z)) refl))
        (λ _. moves_on _ _ _ refl refl (λ u. u) stays)

    return_outcome : Outcome e s (return_of s)
    unfolding return_of
    return_outcome =
        picks (Outcome e s) (acts s.core.condition)
        (λ _. picks (Outcome e s) (ltb 0 s.core.depth) (λ _. moves_on _ _ _ refl refl (λ u. u) pops) (λ _. stop_at 32 (λ z. omega (arith, z)) refl))
        (λ _. moves_on _ _ _ refl refl (λ u. u) stays)

    message_outcome : Outcome e s (message_of e.messages s)
    unfolding message_of
    message_outcome =
        picks (Outcome e s) (ltb s.core.used (length e.messages))
        (λ t. moves_on _ _ _ refl refl (λ _. omega (arith, ltb-true s.core.used (length e.messages) t)) stays) (λ _. stop_at 42 (λ z. omega (arith, z)) refl)

    repeat_outcome : (a : ℕ) → Outcome e s (moves (with_core (repeat_of s.core a) s))
    repeat_outcome a =
        picks (λ (c : Core). Outcome e s (moves (with_core c s))) (eqb s.core.counter 0)
        (λ _. moves_on _ _ _ refl refl (λ u. u) stays) (λ _. moves_on _ _ _ refl refl (λ u. u) stays)

    goto_outcome : (a : ℕ) → Outcome e s (moves (with_core (goto_of s.core a) s))
    goto_outcome a =
        picks (λ (c : Core). Outcome e s (moves (with_core c s))) (acts s.core.condition)
        (λ _. moves_on _ _ _ refl refl (λ u. u) stays) (λ _. moves_on _ _ _ refl refl (λ u. u) stays)

  module _ (g : Goes e s) where
    send_outcome : Outcome e s (send_of e s)
    unfolding send_of
    send_outcome = picks (Outcome e s) (leb (s.core.sent + (s.core.held + 1)) e.room) (λ _. sends g) (λ _. stop_at 43 (λ z. omega (arith, z)) refl)

    sync_outcome : Outcome e s (sync_of e s)
    unfolding sync_of
    sync_outcome = picks (Outcome e s) (any_above e.setting.triggers s.waits) (λ _. stop_at 41 (λ z. omega (arith, z)) refl) (λ _. send_outcome)

    engine_outcome : (w : ℕ) → (w ≡ 0 → LowAt e s) → Outcome e s (engine_word_of e s w)
    unfolding engine_word_of
    engine_outcome w l = picks (Outcome e s) (eqb w 0) (λ t. holds g (l (eqb-true w 0 t))) (λ _. send_outcome)

  -- what 22 lets through: no word but an engine word while a group is held
  nothing : ltb 0 s.core.held ≡ false → s.core.held ≡ 0
  nothing t = omega (arith, ltb-false 0 s.core.held t)

  act_outcome : (w : ℕ) (b : Body) → (is_dispatched b ≡ true → Goes e s) → (is_engine b ≡ true → w ≡ 0 → LowAt e s) → breaks_group s.core.held w b ≡ false → Outcome e s (act_of e s w b)
  unfolding act_of
  act_outcome w (Waveform f) g l t = engine_outcome (g refl) w (l refl)
  act_outcome w (Marker f) g l t = engine_outcome (g refl) w (l refl)
  act_outcome w Wait g l t = send_outcome (g refl)
  act_outcome w (LoadRepeat n) g l t = moves_on (nothing t) _ _ _ refl refl (λ u. u) stays
  act_outcome w (Repeat a) g l t = repeat_outcome (nothing t) a.0
  act_outcome w (Cmp x) g l t = moves_on (nothing t) _ _ _ refl refl (λ u. u) stays
  act_outcome w (Goto a) g l t = goto_outcome (nothing t) a.0
  act_outcome w (Call a) g l t = call_outcome (nothing t) a.0
  act_outcome w (Return p) g l t = return_outcome (nothing t)
  act_outcome w Sync g l t = sync_outcome (g refl)
  act_outcome w (Modulator f) g l t = engine_outcome (g refl) w (l refl)
  act_outcome w (LoadCmp p) g l t = message_outcome (nothing t)
  act_outcome w (Prefetch a) g l t = moves_on (nothing t) _ _ _ refl refl (λ u. u) stays
  act_outcome w Noop g l t = moves_on (nothing t) _ _ _ refl refl (λ u. u) stays

  module _ (inside : s.core.address.0 < length e.words) where
    execute_outcome : (i : Instruction) → reading_of e.setting.rules (get_or e.words s.core.address.0 0) ≡ Ok i → Outcome e s (execute_of e s i)
    unfolding execute_of
    execute_outcome i r =
        let n : ℕ = placing_of e.setting.wave.0 (length e.words) i.body in
        picks (Outcome e s) (eqb n 0)
        (λ p. picks (Outcome e s) (breaks_group s.core.held i.write i.body) (λ _. stop_at 22 (λ z. omega (arith, z)) refl)
        (λ t. act_outcome i.write i.body
        (λ q. record { inside = inside; reads = reads_of e.setting.rules (get_or e.words s.core.address.0 0) i r q })
        (λ q z. record { instruction = i; form = r; engine = q; write = z; placed = eqb-true n 0 p }) t))
        (λ t. stop_at n (eqb-false n 0 t) (placing_quiet e.setting.wave.0 (length e.words) i.body))

    reading_outcome : (q : Reading) → reading_of e.setting.rules (get_or e.words s.core.address.0 0) ≡ q → Outcome e s (with_reading e s q)
    unfolding with_reading
    reading_outcome (Ok i) p = execute_outcome i p
    reading_outcome (Err r) p =
        let w = get_or e.words s.core.address.0 0 in
        stops r (reading_number e.setting.rules w r p) (subst (λ (q : Reading). SaysBit w (refusal_of q)) p (which_bit e.setting.rules w))

  pub outcome : Outcome e s (step_of e s)
  unfolding step_of
  outcome =
      picks (Outcome e s) (ltb s.core.address.0 (length e.words))
      (λ t. reading_outcome (ltb-true s.core.address.0 (length e.words) t) (reading_of e.setting.rules (get_or e.words s.core.address.0 0)) refl)
      (λ _. stop_at 30 (λ z. omega (arith, z)) refl)

-- ---- what follows

stops_still_of : (e : Fixed) (s : State) (d : Did) → Outcome e s d → (d.end.number ≡ 0 → ⊥) → (d.state ≡ s) × (d.out ≡ [])
stops_still_of e s d (stops r h _) z = (refl, refl)
stops_still_of e s d (flows c rs cs f) z = absurd (z refl)
stops_still_of e s d (holds g _) z = absurd (z refl)
stops_still_of e s d (sends g) z = absurd (z refl)

pub stops_still : StopsStill
stops_still e s = stops_still_of e s (step_of e s) (outcome e s)
