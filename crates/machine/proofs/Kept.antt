-- What a step keeps: a good state stays good, the trace grows by what was dispatched, and at most one step is counted.
-- Over the definitions alone. Assumes nothing.
use Prim.Native.Nat.{ℕ, zero, suc, ◌+◌, ◌-◌, ◌*◌, ◌^◌, ◌≤◌, ◌<◌}
use mathlib.Core.Path.{◌≡◌, refl, sym, ◌∙◌, subst}
use mathlib.Core.Bool.{Bool, true, false, ◌&&◌}
use mathlib.Core.List.{List}
use native.Mathlib.Nat.{add-zero}
use native.Mathlib.Omega.{arith}
use borrow.Author.Tests.{ltb-true, ltb-false, leb-true, leb-false, eqb-true, eqb-false, eq-eqb}
use lib.Dec.{ltb, eqb, leb}
use lib.ListN.{length, get_or, replicate, drop, length-drop}
use lib.Seq.{length-take-le}
use Rattle.instruction.specs.declared.Refusal.{Refusal}
use Rattle.instruction.specs.declared.Instruction.{Instruction}
use Rattle.instruction.specs.declared.Body.{Body}
use Rattle.instruction.specs.declared.Body.TheVariants.{Waveform, Marker, Wait, LoadRepeat, Repeat, Cmp, Goto, Call, Return, Sync, Modulator, LoadCmp, Prefetch, Noop}
use Rattle.reader.specs.Reading.{Reading, reading_of}
use Rattle.std.specs.declared.result.Result.TheVariants.{Ok, Err}
use Rattle.sequence.specs.Placing.{out_of_words, placing_of}
use Rattle.sequence.proofs.Laws.{placed_words}
use Rattle.dispatch.specs.Engines.{AllLe}
use Rattle.dispatch.proofs.Lists.{all_get, all_set}
use Rattle.dispatch.proofs.Counts.{picks, counted_more, counted_over}
use Rattle.instruction.specs.Form.{numbered}
use Rattle.jumps.specs.State.{Fixed, Did, state_of, fresh, with_core, refused_by, moves}
use Rattle.jumps.specs.Jumps.{acts, repeat_of, goto_of, call_of, return_of, message_of, hold_of}
use Rattle.jumps.specs.declared.Core.{Core}
use Rattle.jumps.specs.declared.State.{State}
use Rattle.machine.specs.Step.{group_of, send_of, engine_word_of, any_above, sync_of, act_of, breaks_group, execute_of, with_reading, step_of}
use Rattle.machine.specs.Kept.{Good}

pub record Kept (e : Fixed) (s : State) (d : Did) : Type 0 where
  pub good : Good e d.state
  pub sent : d.state.core.sent ≡ s.core.sent + length d.out
  pub steps : d.state.core.steps ≤ s.core.steps + 1

module _ (e : Fixed) (s : State) (g : Good e s) where
  -- a step that stops
  pub stays : (r : Refusal) → Kept e s (refused_by r s)
  stays r = record { good = g; sent = sym (add-zero s.core.sent); steps = omega arith }

  module _ (inside : s.core.address.0 < length e.words) where
    -- a step of flow, which holds nothing
    flows : s.core.held ≡ 0 → (c : Core) (rs cs : List ℕ) → c.address.0 ≤ length e.words → c.steps ≡ s.core.steps + 1 → c.held ≡ s.core.held → c.sent ≡ s.core.sent
        → c.depth ≤ 16 → AllLe (length e.words) rs → Kept e s (moves (state_of c rs cs s.waits s.totals))
    flows free c rs cs a k h t d r = record {
      good = record {
        address = a;
        held = omega (arith, h, free);
        behind = omega (arith, h, free);
        counted = omega (arith, h, free);
        sent = subst (λ (n : ℕ). n ≤ e.room) (sym t) g.sent;
        depth = d;
        returns = r;
        counts = counted_more (s.core.steps - s.core.held) (c.steps - c.held) s.waits s.totals (omega (arith, k, h)) g.counts;
      };
      sent = t ∙ sym (add-zero s.core.sent);
      steps = omega (arith, k);
    }

    module _ (free : s.core.held ≡ 0) where
      to : (c : Core) → c.address.0 ≤ length e.words → c.steps ≡ s.core.steps + 1 → c.held ≡ s.core.held → c.sent ≡ s.core.sent → c.depth ≡ s.core.depth
          → Kept e s (moves (with_core c s))
      to c a k h t d = flows free c s.returns s.counters a k h t (omega (arith, d, g.depth)) g.returns

      ahead : s.core.address.0 + 1 ≤ length e.words
      ahead = omega arith

      repeats : (a : ℕ) → a ≤ length e.words → Kept e s (moves (with_core (repeat_of s.core a) s))
      repeats a h =
          picks (λ (c : Core). Kept e s (moves (with_core c s))) (eqb s.core.counter 0)
          (λ _. to _ ahead refl refl refl refl) (λ _. to _ h refl refl refl refl)

      gotos : (a : ℕ) → a ≤ length e.words → Kept e s (moves (with_core (goto_of s.core a) s))
      gotos a h =
          picks (λ (c : Core). Kept e s (moves (with_core c s))) (acts s.core.condition)
          (λ _. to _ h refl refl refl refl) (λ _. to _ ahead refl refl refl refl)

      calls : (a : ℕ) → a ≤ length e.words → Kept e s (call_of s a)
      unfolding call_of
      calls a h =
          picks (Kept e s) (acts s.core.condition)
          (λ _. picks (Kept e s) (ltb s.core.depth 16)
          (λ t. flows free _ _ _ h refl refl refl (omega (arith, ltb-true s.core.depth 16 t))
          (all_set (length e.words) s.returns s.core.depth (s.core.address.0 + 1) ahead g.returns))
          (λ _. stays (numbered 31)))
          (λ _. to _ ahead refl refl refl refl)

      returns : Kept e s (return_of s)
      unfolding return_of
      returns =
          let top : ℕ = s.core.depth - 1 in
          picks (Kept e s) (acts s.core.condition)
          (λ _. picks (Kept e s) (ltb 0 s.core.depth)
          (λ t. flows free _ _ _ (all_get (length e.words) s.returns top g.returns) refl refl refl (omega (arith, g.depth))
          (all_set (length e.words) s.returns top 0 (omega arith) g.returns))
          (λ _. stays (numbered 32)))
          (λ _. to _ ahead refl refl refl refl)

      takes : (m : List ℕ) → Kept e s (message_of m s)
      unfolding message_of
      takes m = picks (Kept e s) (ltb s.core.used (length m)) (λ _. to _ ahead refl refl refl refl) (λ _. stays (numbered 42))

    group_length : length (group_of e s.core) ≡ s.core.held + 1
    group_length =
        let h : s.core.held + 1 ≤ length (drop (s.core.address.0 - s.core.held) e.words) = rw length-drop (omega (arith, g.behind)) in
        length-take-le (s.core.held + 1) (drop (s.core.address.0 - s.core.held) e.words) h

    sends : Kept e s (send_of e s)
    unfolding send_of
    sends =
        let n : ℕ = s.core.steps - s.core.held in
        let c = counted_over n s.waits s.totals (group_of e s.core) g.counts in
        picks (Kept e s) (leb (s.core.sent + (s.core.held + 1)) e.room)
        (λ t. record {
          good = record {
            address = omega arith;
            held = omega arith;
            behind = omega arith;
            counted = omega arith;
            sent = leb-true (s.core.sent + (s.core.held + 1)) e.room t;
            depth = g.depth;
            returns = g.returns;
            counts = counted_more (n + length (group_of e s.core)) (s.core.steps + 1 - 0) _ _ (omega (arith, group_length, g.counted)) c;
          };
          sent = omega (arith, group_length);
          steps = omega arith;
        })
        (λ _. stays (numbered 43))

    syncs : Kept e s (sync_of e s)
    unfolding sync_of
    syncs = picks (Kept e s) (any_above e.setting.triggers s.waits) (λ _. stays (numbered 41)) (λ _. sends)

    -- a word is held: there is room in the group
    holds : s.core.held < 7 → Kept e s (moves (with_core (hold_of s.core) s))
    holds h = record {
      good = record {
        address = omega arith;
        held = omega arith;
        behind = omega (arith, g.behind);
        counted = omega (arith, g.counted);
        sent = g.sent;
        depth = g.depth;
        returns = g.returns;
        counts = counted_more (s.core.steps - s.core.held) (s.core.steps + 1 - (s.core.held + 1)) s.waits s.totals (omega (arith, g.counted)) g.counts;
      };
      sent = sym (add-zero s.core.sent);
      steps = omega arith;
    }

    engines : (w : ℕ) → (w ≡ 0 → s.core.held < 7) → Kept e s (engine_word_of e s w)
    unfolding engine_word_of
    engines w h = picks (Kept e s) (eqb w 0) (λ t. holds (h (eqb-true w 0 t))) (λ _. sends)

    -- what 22 lets through: room for a low engine word, and for any other word nothing held
    room_of : (w : ℕ) → (eqb s.core.held 7 && eqb w 0) ≡ false → w ≡ 0 → s.core.held < 7
    room_of w r z = by (eqb s.core.held 7) refl (subst (λ (b : Bool). (eqb s.core.held 7 && b) ≡ false) (eq-eqb w 0 z) r)
      where
        by : (b : Bool) → eqb s.core.held 7 ≡ b → (b && true) ≡ false → s.core.held < 7
        by true p q = absurd (let z : ◌≡◌ {A = ℕ} 0 1 = cc in omega arith)
        by false p q = let ne = eqb-false s.core.held 7 p in omega (arith, g.held, ne)

    target : (a : ℕ) → leb (length e.words) a ≡ false → a ≤ length e.words
    target a t = let l = leb-false (length e.words) a t in omega arith

    nothing : ltb 0 s.core.held ≡ false → s.core.held ≡ 0
    nothing t = omega (arith, ltb-false 0 s.core.held t)

    pub does : (w : ℕ) (b : Body) → out_of_words (length e.words) b ≡ false → breaks_group s.core.held w b ≡ false → Kept e s (act_of e s w b)
    unfolding act_of
    does w (Waveform f) p r = engines w (room_of w r)
    does w (Marker f) p r = engines w (room_of w r)
    does w Wait p r = sends
    does w (LoadRepeat n) p r = to (nothing r) _ (ahead (nothing r)) refl refl refl refl
    does w (Repeat a) p r = repeats (nothing r) a.0 (target a.0 p)
    does w (Cmp x) p r = to (nothing r) _ (ahead (nothing r)) refl refl refl refl
    does w (Goto a) p r = gotos (nothing r) a.0 (target a.0 p)
    does w (Call a) p r = calls (nothing r) a.0 (target a.0 p)
    does w (Return q) p r = returns (nothing r)
    does w Sync p r = syncs
    does w (Modulator f) p r = engines w (room_of w r)
    does w (LoadCmp q) p r = takes (nothing r) e.messages
    does w (Prefetch a) p r = to (nothing r) _ (ahead (nothing r)) refl refl refl refl
    does w Noop p r = to (nothing r) _ (ahead (nothing r)) refl refl refl refl

    pub executes : (i : Instruction) → Kept e s (execute_of e s i)
    unfolding execute_of
    executes i =
        let n : ℕ = placing_of e.setting.wave.0 (length e.words) i.body in
        picks (Kept e s) (eqb n 0)
        (λ t. picks (Kept e s) (breaks_group s.core.held i.write i.body) (λ _. stays (numbered 22))
        (λ b. does i.write i.body (placed_words e.setting.wave.0 (length e.words) i.body (eqb-true n 0 t)) b))
        (λ _. stays (numbered n))

    reads : (q : Reading) → Kept e s (with_reading e s q)
    unfolding with_reading
    reads (Ok i) = executes i
    reads (Err r) = stays r

-- a step from a good state leaves a good state
pub kept : (e : Fixed) (s : State) → Good e s → Kept e s (step_of e s)
unfolding step_of
kept e s g =
    picks (Kept e s) (ltb s.core.address.0 (length e.words))
    (λ t. reads e s g (ltb-true s.core.address.0 (length e.words) t) (reading_of e.setting.rules (get_or e.words s.core.address.0 0)))
    (λ _. stays e s g (numbered 30))

-- ---- the fresh state is good

all_zero : (b n : ℕ) → AllLe b (replicate n 0)
all_zero b zero = tt
all_zero b (suc n) = (omega arith, all_zero b n)

pub fresh_good : (e : Fixed) → Good e fresh
fresh_good e = record {
  address = omega arith;
  held = omega arith;
  behind = omega arith;
  counted = omega arith;
  sent = omega arith;
  depth = omega arith;
  returns = all_zero (length e.words) 16;
  counts = record { waits = record { size = refl; small = all_zero 0 6 }; totals = record { size = refl; small = all_zero (0 * 2 ^ 32) 6 } };
}
