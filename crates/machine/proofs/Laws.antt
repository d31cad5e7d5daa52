-- Laws of the step's definitions: what each comes to under its tests, and how an answer meets its promise.
-- Assumes nothing.
use mathlib.Core.Path.{◌≡◌, refl, sym, ap, ◌∙◌, subst}
use mathlib.Core.Bool.{Bool, true, false, ◌||◌, ◌&&◌, true≢false}
use mathlib.Core.List.{List, [], ◌∷◌}
use Prim.Native.Nat.{ℕ, zero, suc, ◌+◌, ◌-◌, ◌^◌, ◌≤◌, ◌<◌}
use native.Mathlib.Decide.{ℕ_discrete}
use native.Mathlib.Omega.{arith}
use borrow.Author.Tests.{lt-ltb, le-ltb, le-leb, lt-leb, eq-eqb, ne_eqb, eqb-true, eqb-false}
use lib.Dec.{ltb, eqb}
use lib.ListN.{length, get_or, take, drop, length-drop}
use Rattle.std.proofs.lemmas.List.{length-take-le}
use Rattle.instruction.specs.Bits.{pick}
use Rattle.instruction.specs.Table.{code_of}
use Rattle.instruction.specs.declared.Refusal.{Refusal}
use Rattle.instruction.specs.declared.Instruction.{Instruction}
use Rattle.instruction.specs.declared.Body.{Body}
use Rattle.instruction.specs.declared.Body.TheVariants.{Waveform, Marker, Wait, LoadRepeat, Repeat, Cmp, Goto, Call, Return, Sync, Modulator, LoadCmp, Prefetch, Noop}
use Rattle.reader.specs.Reading.{reading_of}
use Rattle.std.specs.declared.result.Result.TheVariants.{Ok, Err}
use Rattle.sequence.specs.Placing.{is_engine, placing_of}
use Rattle.buffer.specs.Put.{put}
use Rattle.buffer.proofs.Laws.{put_none}
use Rattle.dispatch.specs.Trace.{part}
use Rattle.dispatch.proofs.Counts.{picks, counted_more}
use Rattle.instruction.specs.Form.{numbered}
use Rattle.jumps.specs.State.{Fixed, Did, state_of, with_core, refused_by, stop, moves}
use Rattle.jumps.specs.Lent.{Done, Traced}
use Rattle.jumps.specs.Jumps.{hold_of}
use Rattle.jumps.specs.declared.Core.{Core}
use Rattle.jumps.specs.declared.State.{State}
use Rattle.jumps.specs.declared.Stepped.{Stepped}
use Rattle.machine.specs.Step.{group_of, sent, send_of, engine_word_of, any_above, sync_of, act_of, breaks_group, execute_of, with_reading, step_of}
use Rattle.machine.specs.Kept.{At, Sends, goes_out, group_refused}

-- ---- answers

pub refused_done : {q q' : Refusal} {core : Core} {rs cs ws ts : List ℕ} → q ≡ q' → Done (refused_by q' (state_of core rs cs ws ts)) (record { end = q; core = core }) rs cs ws ts
refused_done e = record { end = e; state = refl }

-- an answer that dispatched nothing
pub quiet : {d : Did} {r : Stepped} {rs cs ws ts : List ℕ} (k : ℕ) (t : List ℕ) → d.out ≡ [] → Done d r rs cs ws ts → Traced d k t t r rs cs ws ts
quiet k t e d = record { done = d; trace = sym (put_none t k) ∙ ap (put t k) (sym e) }

-- ---- dispatch

pub send_full : (e : Fixed) (s : State) → e.room < s.core.sent + (s.core.held + 1) → send_of e s ≡ stop 43 s
unfolding send_of
send_full e s h = rw (lt-leb (s.core.sent + (s.core.held + 1)) e.room h)

pub send_whole : (e : Fixed) (s : State) → s.core.sent + (s.core.held + 1) ≤ e.room
    → send_of e s ≡ record { end = numbered 0; state = sent e s; out = group_of e s.core }
unfolding send_of
send_whole e s h = rw (le-leb (s.core.sent + (s.core.held + 1)) e.room h)

-- the group that goes out, as the part of the words that it is
pub group_cut : (words : List ℕ) (at held : ℕ) → held ≤ at → take (at + 1 - (at - held)) (drop (at - held) words) ≡ part (at - held) (held + 1) words
group_cut words at held h = let e : at + 1 - (at - held) ≡ held + 1 = omega arith in ap (λ (k : ℕ). take k (drop (at - held) words)) e

pub group_long : (words : List ℕ) (at held : ℕ) → held ≤ at → at < length words → length (take (at + 1 - (at - held)) (drop (at - held) words)) ≡ held + 1
group_long words at held h l =
    ap length (group_cut words at held h)
    ∙ length-take-le (held + 1) (drop (at - held) words) (omega (arith, h, l, length-drop (at - held) words))

pub engine_low : (e : Fixed) (s : State) (w : ℕ) → w ≡ 0 → engine_word_of e s w ≡ moves (with_core (hold_of s.core) s)
unfolding engine_word_of
engine_low e s w h = rw h

pub engine_high : (e : Fixed) (s : State) (w : ℕ) → (w ≡ 0 → ⊥) → engine_word_of e s w ≡ send_of e s
unfolding engine_word_of
engine_high e s w h = rw (ne_eqb w 0 h)

pub sync_stops : (e : Fixed) (s : State) → any_above e.setting.triggers s.waits ≡ true → sync_of e s ≡ stop 41 s
unfolding sync_of
sync_stops e s h = rw h

pub sync_sends : (e : Fixed) (s : State) → any_above e.setting.triggers s.waits ≡ false → sync_of e s ≡ send_of e s
unfolding sync_of
sync_sends e s h = rw h

-- ---- what goes out

-- SYNC, with a count above the triggers given
abbrev pub awaiting : Fixed → State → Body → Bool
awaiting e s b = pick (eqb (code_of b) 9) (any_above e.setting.triggers s.waits) false

pub out_awaits : (e : Fixed) (s : State) (w : ℕ) (b : Body) → awaiting e s b ≡ true → act_of e s w b ≡ stop 41 s
unfolding act_of
out_awaits e s w (Waveform f) h = absurd (true≢false (sym h))
out_awaits e s w (Marker f) h = absurd (true≢false (sym h))
out_awaits e s w Wait h = absurd (true≢false (sym h))
out_awaits e s w (LoadRepeat n) h = absurd (true≢false (sym h))
out_awaits e s w (Repeat a) h = absurd (true≢false (sym h))
out_awaits e s w (Cmp x) h = absurd (true≢false (sym h))
out_awaits e s w (Goto a) h = absurd (true≢false (sym h))
out_awaits e s w (Call a) h = absurd (true≢false (sym h))
out_awaits e s w (Return p) h = absurd (true≢false (sym h))
out_awaits e s w Sync h = sync_stops e s h
out_awaits e s w (Modulator f) h = absurd (true≢false (sym h))
out_awaits e s w (LoadCmp p) h = absurd (true≢false (sym h))
out_awaits e s w (Prefetch a) h = absurd (true≢false (sym h))
out_awaits e s w Noop h = absurd (true≢false (sym h))

-- an engine word whose write flag is low
pub out_held : (e : Fixed) (s : State) (w : ℕ) (b : Body) → (is_engine b && eqb w 0) ≡ true → act_of e s w b ≡ moves (with_core (hold_of s.core) s)
unfolding act_of
out_held e s w (Waveform f) h = engine_low e s w (eqb-true w 0 h)
out_held e s w (Marker f) h = engine_low e s w (eqb-true w 0 h)
out_held e s w Wait h = absurd (true≢false (sym h))
out_held e s w (LoadRepeat n) h = absurd (true≢false (sym h))
out_held e s w (Repeat a) h = absurd (true≢false (sym h))
out_held e s w (Cmp x) h = absurd (true≢false (sym h))
out_held e s w (Goto a) h = absurd (true≢false (sym h))
out_held e s w (Call a) h = absurd (true≢false (sym h))
out_held e s w (Return p) h = absurd (true≢false (sym h))
out_held e s w Sync h = absurd (true≢false (sym h))
out_held e s w (Modulator f) h = engine_low e s w (eqb-true w 0 h)
out_held e s w (LoadCmp p) h = absurd (true≢false (sym h))
out_held e s w (Prefetch a) h = absurd (true≢false (sym h))
out_held e s w Noop h = absurd (true≢false (sym h))

pub out_sent : (e : Fixed) (s : State) (w : ℕ) (b : Body) → goes_out b ≡ true → awaiting e s b ≡ false → (is_engine b && eqb w 0) ≡ false → act_of e s w b ≡ send_of e s
unfolding act_of
out_sent e s w (Waveform f) g q h = engine_high e s w (eqb-false w 0 h)
out_sent e s w (Marker f) g q h = engine_high e s w (eqb-false w 0 h)
out_sent e s w Wait g q h = refl
out_sent e s w (LoadRepeat n) g q h = absurd (true≢false (sym g))
out_sent e s w (Repeat a) g q h = absurd (true≢false (sym g))
out_sent e s w (Cmp x) g q h = absurd (true≢false (sym g))
out_sent e s w (Goto a) g q h = absurd (true≢false (sym g))
out_sent e s w (Call a) g q h = absurd (true≢false (sym g))
out_sent e s w (Return p) g q h = absurd (true≢false (sym g))
out_sent e s w Sync g q h = sync_sends e s q
out_sent e s w (Modulator f) g q h = engine_high e s w (eqb-false w 0 h)
out_sent e s w (LoadCmp p) g q h = absurd (true≢false (sym g))
out_sent e s w (Prefetch a) g q h = absurd (true≢false (sym g))
out_sent e s w Noop g q h = absurd (true≢false (sym g))

-- ---- counts above the triggers given

pub above_some : (t : ℕ) (l : List ℕ) (i : ℕ) → i < length l → t < get_or l i 0 → any_above t l ≡ true
above_some t [] i h g = absurd (omega arith)
above_some t (x ∷ l) zero h g = rw (lt-ltb t x g)
above_some t (x ∷ l) (suc i) h g = by (ltb t x) (above_some t l i (omega arith) g)
  where
    by : (b : Bool) → any_above t l ≡ true → (b || any_above t l) ≡ true
    by true e = refl
    by false e = e

pub above_none : (t : ℕ) (l : List ℕ) → ((i : ℕ) → i < length l → get_or l i 0 ≤ t) → any_above t l ≡ false
above_none t [] h = refl
above_none t (x ∷ l) h = rw (le-ltb t x (h 0 (omega arith))) (above_none t l (λ i g. h (suc i) (omega arith)))

-- what held of every place before i holds of every place before the next
pub next_place : (P : ℕ → Type 0) (i : ℕ) → ((j : ℕ) → j < i → P j) → P i → (j : ℕ) → j < i + 1 → P j
next_place P i h p j l = by (ℕ_discrete j i)
  where
    by : Dec (j ≡ i) → P j
    by (yes e) = subst P (sym e) p
    by (no e) = h j (omega arith)

-- ---- what the functions ask, from what a state keeps

pub sends_of : {e : Fixed} {s : State} → At e s → s.core.address.0 < 2 ^ 63 → Sends e.words e.room s.core s.waits s.totals
sends_of {e} {s} a h =
    let g = a.ready.good in
    record {
      holds = record { counts = record { address = h; steps = a.ready.steps }; held = g.held };
      inside = a.inside;
      behind = g.behind;
      sent = g.sent;
      engines = counted_more (s.core.steps - s.core.held) (2 ^ 30) s.waits s.totals (omega (arith, a.ready.steps)) g.counts;
    }

-- ---- the step

pub execute_placed : (e : Fixed) (s : State) (i : Instruction) (n : ℕ) → n ≡ placing_of e.setting.wave.0 (length e.words) i.body → (n ≡ 0 → ⊥) → execute_of e s i ≡ stop n s
unfolding execute_of
execute_placed e s i n p h = rw (← p, ne_eqb n 0 h)

pub execute_broken : (e : Fixed) (s : State) (i : Instruction) → placing_of e.setting.wave.0 (length e.words) i.body ≡ 0
    → breaks_group s.core.held i.write i.body ≡ true → execute_of e s i ≡ stop 22 s
unfolding execute_of
execute_broken e s i p b = rw (p, b)

pub execute_acts : (e : Fixed) (s : State) (i : Instruction) → placing_of e.setting.wave.0 (length e.words) i.body ≡ 0
    → breaks_group s.core.held i.write i.body ≡ false → execute_of e s i ≡ act_of e s i.write i.body
unfolding execute_of
execute_acts e s i p b = rw (p, b)

-- ---- a word that comes while a group is held

module _ (held : ℕ) (i : Instruction) (n wave : ℕ) where
  pub refused_none : held ≡ 0 → 0 ≡ group_refused held i n wave
  refused_none z = rw (eq-eqb held 0 z)

  pub refused_placed : (p : ℕ) → (held ≡ 0 → ⊥) → p ≡ placing_of wave n i.body → (p ≡ 0 → ⊥) → p ≡ group_refused held i n wave
  refused_placed p h e z = rw (ne_eqb held 0 h, ← e, ne_eqb p 0 z)

  pub refused_broken : (held ≡ 0 → ⊥) → placing_of wave n i.body ≡ 0 → breaks_group held i.write i.body ≡ true → 22 ≡ group_refused held i n wave
  refused_broken h e b = rw (ne_eqb held 0 h, e, b)

  pub refused_whole : (held ≡ 0 → ⊥) → placing_of wave n i.body ≡ 0 → breaks_group held i.write i.body ≡ false → 0 ≡ group_refused held i n wave
  refused_whole h e b = rw (ne_eqb held 0 h, e, b)

none_breaks : (w : ℕ) (b : Body) → breaks_group 0 w b ≡ false
none_breaks w b = picks (λ (t : Bool). t ≡ false) (is_engine b) (λ _. refl) (λ _. refl)

module _ (e : Fixed) (s : State) (i : Instruction) where
  abbrev placing : ℕ
  placing = placing_of e.setting.wave.0 (length e.words) i.body

  abbrev broken : Bool
  broken = breaks_group s.core.held i.write i.body

  whole : (p : ℕ) (t b : Bool) → eqb p 0 ≡ t → pick t (pick b 22 0) p ≡ 0 → b ≡ false
  whole p true true q z = absurd (omega (arith, z))
  whole p true false q z = refl
  whole p false b q z = absurd (eqb-false p 0 q z)

  -- none is given: the group is whole
  pub group_whole : group_refused s.core.held i (length e.words) e.setting.wave.0 ≡ 0 → broken ≡ false
  group_whole = by (eqb s.core.held 0) refl
    where
      by : (h : Bool) → eqb s.core.held 0 ≡ h → pick h 0 (pick (eqb placing 0) (pick broken 22 0) placing) ≡ 0 → broken ≡ false
      by true q z = rw (eqb-true s.core.held 0 q) (none_breaks i.write i.body)
      by false q z = whole placing (eqb placing 0) broken refl z

  first_of : (n p : ℕ) (t b : Bool) (d : Did) → n ≡ pick t (pick b 22 0) p → (n ≡ 0 → ⊥) → pick t (pick b (stop 22 s) d) (stop p s) ≡ stop n s
  first_of n p true true d e z = ap (λ (m : ℕ). stop m s) (sym e)
  first_of n p true false d e z = absurd (z e)
  first_of n p false b d e z = ap (λ (m : ℕ). stop m s) (sym e)

  -- one is given: the step ends with it
  pub group_refused_lem : (n : ℕ) → n ≡ group_refused s.core.held i (length e.words) e.setting.wave.0 → (n ≡ 0 → ⊥) → execute_of e s i ≡ stop n s
  unfolding execute_of
  group_refused_lem n = by (eqb s.core.held 0)
    where
      by : (h : Bool) → n ≡ pick h 0 (pick (eqb placing 0) (pick broken 22 0) placing) → (n ≡ 0 → ⊥) → execute_of e s i ≡ stop n s
      by true q z = absurd (z q)
      by false q z = first_of n placing (eqb placing 0) broken (act_of e s i.write i.body) q z

pub step_past : (e : Fixed) (s : State) → length e.words ≤ s.core.address.0 → step_of e s ≡ stop 30 s
unfolding step_of
step_past e s h = rw (le-ltb s.core.address.0 (length e.words) h)

pub step_refused : (e : Fixed) (s : State) (r : Refusal) → s.core.address.0 < length e.words
    → reading_of e.setting.rules (get_or e.words s.core.address.0 0) ≡ Err r → step_of e s ≡ refused_by r s
unfolding step_of with_reading
step_refused e s r h q = rw (lt-ltb s.core.address.0 (length e.words) h, q)

pub step_accepted : (e : Fixed) (s : State) (i : Instruction) → s.core.address.0 < length e.words
    → reading_of e.setting.rules (get_or e.words s.core.address.0 0) ≡ Ok i → step_of e s ≡ execute_of e s i
unfolding step_of with_reading
step_accepted e s i h q = rw (lt-ltb s.core.address.0 (length e.words) h, q)
