-- What each instruction of a layout does, from a state in which nothing is held and no engine waits.
-- Assumes nothing.
use Prim.Native.Nat.{ℕ, suc, ◌+◌, ◌≤◌, ◌<◌}
use mathlib.Core.Path.{◌≡◌, refl, sym, ap, ◌∙◌}
use mathlib.Core.Bool.{Bool, false}
use mathlib.Core.List.{List, [], ◌∷◌, ◌++◌}
use native.Mathlib.Nat.{sub-zero}
use native.Mathlib.Numerals.{add-one, sub-one}
use native.Mathlib.Omega.{arith}
use borrow.Author.Tests.{ne_eqb}
use lib.ListN.{length, drop, take, set, replicate, length-append, length-set}
use lib.Seq.{drop-cons, get_or-set_same, get_or-set_other, set-set, set-get_or}
use Rattle.instruction.specs.Form.{numbered}
use Rattle.instruction.specs.Word.{spelled_by, word_of}
use Rattle.instruction.specs.declared.WaveformFields.{WaveformFields}
use Rattle.instruction.specs.declared.Instruction.{Instruction}
use Rattle.instruction.specs.declared.Body.{Body}
use Rattle.instruction.specs.declared.Body.TheVariants.{Waveform, LoadRepeat, Repeat, Goto, Call, Return, Sync}
use Rattle.sequence.specs.Bounds.{stack_depth}
use Rattle.sequence.specs.Placing.{is_engine}
use Rattle.dispatch.specs.Engines.{engine_count, waits_after, totals_after, totals_over}
use Rattle.dispatch.proofs.Counts.{picks}
use Rattle.jumps.specs.State.{Fixed, Did, state_of, moves}
use Rattle.jumps.specs.declared.Condition.TheVariants.{Absent}
use Rattle.jumps.specs.declared.State.{State}
use Rattle.jumps.proofs.Laws.{call_taken, return_taken}
use Rattle.machine.specs.Step.{group_of, send_of, act_of, breaks_group, step_of}
use Rattle.machine.proofs.Laws.{send_whole, engine_high, sync_sends, above_none, execute_acts, step_accepted}
use Rattle.nest.specs.Block.{high, low}
use Rattle.demands.specs.Run.{Stack}
use Rattle.fields.proofs.Gathered.{zero_at}
use Rattle.played.proofs.Sound.{Takes, reads_at, body_at}

-- ---- the states of such a run

abbrev pub zeros : List ℕ
zeros = replicate engine_count 0

-- at an address, after so many steps, with its counter, its depth, its stack, and what was dispatched
abbrev pub st : ℕ → ℕ → ℕ → ℕ → List ℕ → List ℕ → List ℕ → State
st p t k d rs cs out =
    state_of
    (record { address = record { 0 = p }; steps = t; used = 0; sent = length out; counter = k; register = 0; condition = Absent; held = 0; depth = d })
    rs cs zeros (totals_over zeros out)

pub same : {p p' t t' k k' d : ℕ} {rs cs out out' : List ℕ} → p ≡ p' → t ≡ t' → k ≡ k' → out ≡ out' → st p t k d rs cs out ≡ st p' t' k' d rs cs out'
same {d = d} {rs = rs} {cs = cs} a b c f = λ j. st (a j) (b j) (c j) d rs cs (f j)

none_breaks : (w : ℕ) (b : Body) → breaks_group 0 w b ≡ false
none_breaks w b = picks (λ (t : Bool). t ≡ false) (is_engine b) (λ _. refl) (λ _. refl)

totals_snoc : (l out : List ℕ) (w : ℕ) → totals_over l (out ++ (w ∷ [])) ≡ totals_after (totals_over l out) (spelled_by w)
totals_snoc l [] w = refl
totals_snoc l (x ∷ out) w = totals_snoc (totals_after l (spelled_by x)) out w

-- ---- the stack

pub pushed : {d : ℕ} {l : List ℕ} → Stack d l → (x : ℕ) → Stack (suc d) (set l d x)
pushed {d} {l} s x =
    record {
      size = length-set l d x ∙ s.size;
      unused = λ k h. get_or-set_other l d k x 0 (λ e. omega arith) ∙ s.unused k (omega arith);
    }

-- what a RETURN clears is as it was before the CALL
restored : {d : ℕ} {l : List ℕ} → Stack d l → (x : ℕ) → set (set l d x) d 0 ≡ l
restored {d} {l} s x = set-set l d x 0 ∙ ap (λ (y : ℕ). set l d y) (sym (s.unused d (omega arith))) ∙ set-get_or l d 0

module _ (e : Fixed) where
  abbrev pub On : ℕ → Instruction → Type 0
  On p i = Takes e.setting.rules e.setting.wave.0 e.words p i

  module _ (p t k d : ℕ) (rs cs out : List ℕ) where
    abbrev s : State
    s = st p t k d rs cs out

    step_at : {i : Instruction} → On p i → step_of e s ≡ act_of e s i.write i.body
    step_at {i} h =
        step_accepted e s i h.at.0 (reads_at e.setting.rules e.setting.wave.0 e.words h)
        ∙ execute_acts e s i h.sound.placed (none_breaks i.write i.body)

    -- ---- flow

    pub load_step : (n : ℕ) → On p (low (LoadRepeat (record { 0 = n }))) → step_of e s ≡ moves (st (suc p) (t + 1) n d rs cs out)
    unfolding act_of
    load_step n h = step_at h ∙ ap (λ (x : ℕ). moves (st x (t + 1) n d rs cs out)) (add-one p)

    pub goto_step : (a : ℕ) → On p (low (Goto (record { 0 = a }))) → step_of e s ≡ moves (st a (t + 1) k d rs cs out)
    unfolding act_of
    goto_step a h = step_at h

    pub call_step : (a : ℕ) → d < stack_depth → On p (low (Call (record { 0 = a })))
        → step_of e s ≡ moves (st a (t + 1) k (suc d) (set rs d (suc p)) (set cs d k) out)
    unfolding act_of
    call_step a l h =
        step_at h ∙ call_taken s a refl l ∙ (λ j. moves (st a (t + 1) k (add-one d j) (set rs d (add-one p j)) (set cs d k) out))

  -- RETURN, with what a CALL pushed
  pub return_step : (p t k d : ℕ) (rs cs out : List ℕ) → d < stack_depth → Stack d rs → Stack d cs → (x y : ℕ) → On p (low (Return (record { 0 = 0 })))
      → step_of e (st p t k (suc d) (set rs d x) (set cs d y) out) ≡ moves (st x (t + 1) y d rs cs out)
  unfolding act_of
  return_step p t k d rs cs out l r c x y h =
      let s : State = st p t k (suc d) (set rs d x) (set cs d y) out in
      step_at p t k (suc d) (set rs d x) (set cs d y) out h ∙ return_taken s refl (omega arith)
      ∙ rw (sub-one (suc d), get_or-set_same rs d x 0 (omega (arith, r.size)), get_or-set_same cs d y 0 (omega (arith, c.size)), restored r x, restored c y)

  module _ (p t d : ℕ) (rs cs out : List ℕ) (a : ℕ) (h : On p (low (Repeat (record { 0 = a })))) where
    pub last_step : step_of e (st p t 0 d rs cs out) ≡ moves (st (suc p) (t + 1) 0 d rs cs out)
    unfolding act_of
    last_step = step_at p t 0 d rs cs out h ∙ ap (λ (x : ℕ). moves (st x (t + 1) 0 d rs cs out)) (add-one p)

    pub again_step : (k : ℕ) → step_of e (st p t (suc k) d rs cs out) ≡ moves (st a (t + 1) k d rs cs out)
    unfolding act_of
    again_step k = step_at p t (suc k) d rs cs out h ∙ rw (ne_eqb (suc k) 0 (λ z. omega arith), sub-one (suc k))

  -- ---- dispatch

  module _ (p t k d : ℕ) (rs cs out : List ℕ) (room : length out + 1 ≤ e.room) where
    abbrev sent_by : Instruction → Did
    sent_by i = record { end = numbered 0; state = st (suc p) (t + 1) k d rs cs (out ++ (word_of i ∷ [])); out = word_of i ∷ [] }

    group : {i : Instruction} → On p i → group_of e (s p t k d rs cs out).core ≡ word_of i ∷ []
    group {i} h =
        ap (λ (x : ℕ). take 1 (drop x e.words)) (sub-zero p) ∙ ap (take 1) (drop-cons e.words p 0 h.at.0) ∙ ap (λ (x : ℕ). x ∷ []) h.at.1

    -- a word that goes out alone, and is counted as no wait
    send_step : {i : Instruction} → On p i → act_of e (s p t k d rs cs out) i.write i.body ≡ send_of e (s p t k d rs cs out)
        → waits_after zeros (spelled_by (word_of i)) ≡ zeros → step_of e (s p t k d rs cs out) ≡ sent_by i
    send_step {i} h a w =
        step_at p t k d rs cs out h ∙ a ∙ send_whole e (s p t k d rs cs out) room
        ∙ rw (group h, w, ← totals_snoc zeros out (word_of i), add-one p, ← length-append out (word_of i ∷ []))

    spelled : {i : Instruction} → On p i → (spelled_by (word_of i)).body ≡ i.body
    spelled h =
        ap (λ (w : ℕ). (spelled_by w).body) (sym h.at.1) ∙ body_at e.setting.rules e.setting.wave.0 e.words h

    counted : (w : ℕ) → Body → List ℕ
    counted w b = waits_after zeros (record { engine = (spelled_by w).engine; write = (spelled_by w).write; body = b })

    pub sync_step : On p (high Sync) → step_of e (s p t k d rs cs out) ≡ sent_by (high Sync)
    unfolding act_of counted
    sync_step h =
        send_step h (sync_sends e (s p t k d rs cs out) (above_none e.setting.triggers zeros (λ i l. omega (arith, zero_at engine_count i))))
        (ap (counted (word_of (high Sync))) (spelled h))

    pub pulse_step : (f : WaveformFields) → f.op ≡ 0 → On p (high (Waveform f)) → step_of e (s p t k d rs cs out) ≡ sent_by (high (Waveform f))
    unfolding act_of counted
    pulse_step f o h =
        send_step h (engine_high e (s p t k d rs cs out) 1 (λ z. omega arith))
        (ap (counted (word_of (high (Waveform f)))) (spelled h) ∙ rw o)
