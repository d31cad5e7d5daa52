-- `prefix`: with more messages at the end, triggers or room, a step that moved moves the same; so what was dispatched opens what is dispatched now.
-- Assumes nothing.
use mathlib.Core.Path.{◌≡◌, refl, sym, ap, ap₂, ◌∙◌, subst}
use mathlib.Core.Bool.{Bool, true, false, ◌||◌}
use mathlib.Core.List.{List, [], ◌∷◌, ◌++◌, append_assoc}
use Prim.Native.Nat.{ℕ, zero, suc, ◌+◌, ◌≤◌, ◌<◌}
use native.Mathlib.Omega.{arith}
use borrow.Author.Tests.{ltb-true, ltb-false, le-ltb, leb-true, leb-false, eqb-true, eqb-false}
use lib.Dec.{ltb, eqb, leb}
use lib.ListN.{length, get_or, length-append, get_or-append}
use Rattle.instruction.specs.Bits.{pick}
use Rattle.instruction.specs.declared.Instruction.{Instruction}
use Rattle.instruction.specs.declared.Rules.{Rules}
use Rattle.instruction.specs.declared.QuadSamples.{QuadSamples}
use Rattle.instruction.specs.declared.Body.{Body}
use Rattle.instruction.specs.declared.Body.TheVariants.{Waveform, Marker, Wait, LoadRepeat, Repeat, Cmp, Goto, Call, Return, Sync, Modulator, LoadCmp, Prefetch, Noop}
use Rattle.reader.specs.Reading.{Reading, reading_of}
use Rattle.std.specs.declared.result.Result.TheVariants.{Ok, Err}
use Rattle.sequence.specs.Placing.{placing_of}
use Rattle.sequence.specs.Bounds.{lengths_refused}
use Rattle.jumps.specs.State.{Fixed, Did, fresh, stop}
use Rattle.jumps.specs.Jumps.{message_of}
use Rattle.jumps.specs.declared.State.{State}
use Rattle.jumps.proofs.Laws.{message_none, message_taken}
use Rattle.machine.specs.Step.{send_of, engine_word_of, any_above, sync_of, act_of, breaks_group, execute_of, step_of}
use Rattle.machine.proofs.Laws.{send_full, send_whole, engine_low, engine_high, sync_stops, sync_sends, execute_placed, execute_broken, execute_acts, step_past, step_refused, step_accepted}
use Rattle.rehearsal.specs.Run.{onto, then_did, run_of, input_refused, rehearse}
use Rattle.rehearsal.proofs.Runs.{rehearse_refused, rehearse_runs, refused_none, input_good}
use Rattle.demands.specs.Run.{Extends, Prefix}
use Rattle.demands.proofs.Steps.{stops_still}

-- where d moved, it is what moved before
abbrev Same : Did → Did → Type 0
Same d d' = d.end.number ≡ 0 → d' ≡ d

module _ (e e' : Fixed) (x : Extends e e') (s : State) where
  not_moved : {d : Did} (n : ℕ) → (n ≡ 0 → ⊥) → d ≡ stop n s → d.end.number ≡ 0 → ⊥
  not_moved n h q z = h (sym (ap (λ (y : Did). y.end.number) q) ∙ z)

  messages_longer : length e.messages ≤ length e'.messages
  messages_longer = omega (arith, ap length x.messages, length-append e.messages x.added)

  message_same : Same (message_of e.messages s) (message_of e'.messages s)
  message_same z = by (ltb s.core.used (length e.messages)) refl
    where
      by : (b : Bool) → ltb s.core.used (length e.messages) ≡ b → message_of e'.messages s ≡ message_of e.messages s
      by true t =
          let h = ltb-true s.core.used (length e.messages) t in
          let g : get_or e'.messages s.core.used 0 ≡ get_or e.messages s.core.used 0 =
          ap (λ (l : List ℕ). get_or l s.core.used 0) x.messages ∙ get_or-append e.messages x.added 0 s.core.used h in
          message_taken e'.messages s (omega (arith, h, messages_longer)) ∙ rw g (sym (message_taken e.messages s h))
      by false t = absurd (not_moved 42 (λ q. omega (arith, q)) (message_none e.messages s (ltb-false s.core.used (length e.messages) t)) z)

  send_same : Same (send_of e s) (send_of e' s)
  send_same z = by (leb (s.core.sent + (s.core.held + 1)) e.room) refl
    where
      by : (b : Bool) → leb (s.core.sent + (s.core.held + 1)) e.room ≡ b → send_of e' s ≡ send_of e s
      by true t =
          let h = leb-true (s.core.sent + (s.core.held + 1)) e.room t in
          send_whole e' s (omega (arith, h, x.room)) ∙ rw x.words (sym (send_whole e s h))
      by false t = absurd (not_moved 43 (λ q. omega (arith, q)) (send_full e s (leb-false (s.core.sent + (s.core.held + 1)) e.room t)) z)

  -- no count above the triggers, and none above more of them
  none_above : (l : List ℕ) (t t' : ℕ) → t ≤ t' → any_above t l ≡ false → any_above t' l ≡ false
  none_above [] t t' h p = refl
  none_above (y ∷ l) t t' h p =
      let q = either (ltb t y) (any_above t l) p in
      rw (le-ltb t' y (omega (arith, ltb-false t y q.0))) (none_above l t t' h q.1)
    where
      either : (a b : Bool) → (a || b) ≡ false → (a ≡ false) × (b ≡ false)
      either true b r = (r, cc)
      either false b r = (refl, r)

  sync_same : Same (sync_of e s) (sync_of e' s)
  sync_same z = by (any_above e.setting.triggers s.waits) refl
    where
      by : (b : Bool) → any_above e.setting.triggers s.waits ≡ b → sync_of e' s ≡ sync_of e s
      by true t = absurd (not_moved 41 (λ q. omega (arith, q)) (sync_stops e s t) z)
      by false t =
          let p = sync_sends e s t in
          sync_sends e' s (none_above s.waits e.setting.triggers e'.setting.triggers x.triggers t)
          ∙ send_same (ap (λ (y : Did). y.end.number) (sym p) ∙ z) ∙ sym p

  engine_same : (w : ℕ) → Same (engine_word_of e s w) (engine_word_of e' s w)
  engine_same w z = by (eqb w 0) refl
    where
      by : (b : Bool) → eqb w 0 ≡ b → engine_word_of e' s w ≡ engine_word_of e s w
      by true t = engine_low e' s w (eqb-true w 0 t) ∙ sym (engine_low e s w (eqb-true w 0 t))
      by false t =
          let p = engine_high e s w (eqb-false w 0 t) in
          engine_high e' s w (eqb-false w 0 t) ∙ send_same (ap (λ (y : Did). y.end.number) (sym p) ∙ z) ∙ sym p

  act_same : (w : ℕ) (b : Body) → Same (act_of e s w b) (act_of e' s w b)
  unfolding act_of
  act_same w (Waveform f) = engine_same w
  act_same w (Marker f) = engine_same w
  act_same w Wait = send_same
  act_same w (LoadRepeat n) = λ z. refl
  act_same w (Repeat a) = λ z. refl
  act_same w (Cmp y) = λ z. refl
  act_same w (Goto a) = λ z. refl
  act_same w (Call a) = λ z. refl
  act_same w (Return p) = λ z. refl
  act_same w Sync = sync_same
  act_same w (Modulator f) = engine_same w
  act_same w (LoadCmp p) = message_same
  act_same w (Prefetch a) = λ z. refl
  act_same w Noop = λ z. refl

  place_same : (b : Body) → placing_of e'.setting.wave.0 (length e'.words) b ≡ placing_of e.setting.wave.0 (length e.words) b
  place_same b = ap₂ (λ (v : QuadSamples) (l : List ℕ). placing_of v.0 (length l) b) x.wave x.words

  execute_same : (i : Instruction) → Same (execute_of e s i) (execute_of e' s i)
  execute_same i z = by (eqb n 0) refl (breaks_group s.core.held i.write i.body) refl
    where
      n : ℕ
      n = placing_of e.setting.wave.0 (length e.words) i.body

      by : (a : Bool) → eqb (placing_of e.setting.wave.0 (length e.words) i.body) 0 ≡ a
          → (b : Bool) → breaks_group s.core.held i.write i.body ≡ b → execute_of e' s i ≡ execute_of e s i
      by false p b q = absurd (not_moved _ (eqb-false _ 0 p) (execute_placed e s i _ refl (eqb-false _ 0 p)) z)
      by true p true q = absurd (not_moved 22 (λ y. omega (arith, y)) (execute_broken e s i (eqb-true _ 0 p) q) z)
      by true p false q =
          let r = execute_acts e s i (eqb-true _ 0 p) q in
          execute_acts e' s i (place_same i.body ∙ eqb-true _ 0 p) q ∙ act_same i.write i.body (ap (λ (y : Did). y.end.number) (sym r) ∙ z) ∙ sym r

  -- one law about one step: where it moved, it moves the same
  pub step_same : Same (step_of e s) (step_of e' s)
  step_same z = by (ltb s.core.address.0 (length e.words)) refl (reading_of e.setting.rules (get_or e.words s.core.address.0 0)) refl
    where
      by : (b : Bool) → ltb s.core.address.0 (length e.words) ≡ b
          → (q : Reading) → reading_of e.setting.rules (get_or e.words s.core.address.0 0) ≡ q → step_of e' s ≡ step_of e s
      by false t q r = absurd (not_moved 30 (λ y. omega (arith, y)) (step_past e s (ltb-false s.core.address.0 (length e.words) t)) z)
      by true t (Err f) r = step_refused e' s f (subst (λ (l : List ℕ). s.core.address.0 < length l) (sym x.words) (ltb-true _ _ t)) (ap₂ (λ (k : Rules) (l : List ℕ). reading_of k (get_or l s.core.address.0 0)) x.rules x.words ∙ r) ∙ sym (step_refused e s f (ltb-true _ _ t) r)
      by true t (Ok i) r =
          let p = step_accepted e s i (ltb-true _ _ t) r in
          step_accepted e' s i (subst (λ (l : List ℕ). s.core.address.0 < length l) (sym x.words) (ltb-true _ _ t)) (ap₂ (λ (k : Rules) (l : List ℕ). reading_of k (get_or l s.core.address.0 0)) x.rules x.words ∙ r)
          ∙ execute_same i (ap (λ (y : Did). y.end.number) (sym p) ∙ z) ∙ sym p

-- ---- iteration

abbrev Opens : List ℕ → List ℕ → Type 0
Opens before now = (more : List ℕ) × (now ≡ before ++ more)

run_opens : (n n' : ℕ) (e e' : Fixed) → Extends e e' → (s : State) → n ≤ n' → Opens (run_of n e s).out (run_of n' e' s).out
unfolding run_of
run_opens zero n' e e' x s h = ((run_of n' e' s).out, refl)
run_opens (suc n) zero e e' x s h = absurd (omega arith)
run_opens (suc n) (suc n') e e' x s h = by (eqb (step_of e s).end.number 0) refl (run_opens n n' e e' x (step_of e s).state (omega arith))
  where
    by : (b : Bool) → eqb (step_of e s).end.number 0 ≡ b → Opens (run_of n e (step_of e s).state).out (run_of n' e' (step_of e s).state).out
        → Opens (pick b (onto (step_of e s).out (run_of n e (step_of e s).state)) (step_of e s)).out (then_did (step_of e' s) (run_of n' e' (step_of e' s).state)).out
    by true t ih = (
      ih.0,
      ap (λ (d : Did). (then_did d (run_of n' e' d.state)).out) (step_same e e' x s (eqb-true _ _ t))
          ∙ ap (λ (b : Bool). (pick b (onto (step_of e s).out (run_of n' e' (step_of e s).state)) (step_of e s)).out) t
          ∙ ap (λ (l : List ℕ). (step_of e s).out ++ l) ih.1
          ∙ sym (append_assoc (step_of e s).out (run_of n e (step_of e s).state).out ih.0),
    )
    by false t ih =
        let now : List ℕ = (then_did (step_of e' s) (run_of n' e' (step_of e' s).state)).out in
        (now, ap (λ (l : List ℕ). l ++ now) (sym (stops_still e s (eqb-false _ _ t)).1))

pub prefix : Prefix
prefix e e' b b' x h l = by (eqb (input_refused (length e.words) e.setting.wave.0 b) 0) refl
  where
    by : (q : Bool) → eqb (input_refused (length e.words) e.setting.wave.0 b) 0 ≡ q → Opens (rehearse b e).out (rehearse b' e').out
    by true t =
        let good = input_good (length e.words) e.setting.wave.0 b (eqb-true _ _ t) in
        let same : lengths_refused (length e'.words) e'.setting.wave.0 ≡ 0 =
        ap₂ (λ (w : List ℕ) (v : QuadSamples). lengths_refused (length w) v.0) x.words x.wave ∙ good.0 in
        let o = run_opens b b' e e' x fresh h in (
          o.0,
          ap (λ (d : Did). d.out) (rehearse_runs b' e' (refused_none _ _ b' same l)) ∙ o.1
              ∙ ap (λ (d : Did). d.out ++ o.0) (sym (rehearse_runs b e (eqb-true _ _ t))),
        )
    by false t = (
      (rehearse b' e').out,
      ap (λ (d : Did). d.out ++ (rehearse b' e').out) (sym (rehearse_refused b e _ refl (eqb-false _ _ t))),
    )
