-- How a step ends: with 0 and no bit where it moved, and never with 40, which is the budget's. So a loop of one step tells whether it was done.
-- Assumes nothing.
use mathlib.Core.Path.{◌≡◌, ap}
use mathlib.Core.Bool.{false}
use mathlib.Core.List.{List}
use Prim.Native.Nat.{ℕ, ◌+◌}
use native.Mathlib.Omega.{arith}
use lib.Dec.{ltb, eqb, leb}
use lib.ListN.{length, get_or}
use Rattle.instruction.specs.Table.{noop_word}
use Rattle.instruction.specs.Form.{numbered, unflagged, no_such_op, useless, too_short, askew, wrong_nco, wide_phase, wide_count, form_of}
use Rattle.instruction.specs.Word.{spelled_by}
use Rattle.instruction.specs.declared.Instruction.{Instruction}
use Rattle.instruction.specs.declared.Refusal.{Refusal}
use Rattle.instruction.specs.declared.Rules.{Rules}
use Rattle.instruction.specs.declared.Body.{Body}
use Rattle.instruction.specs.declared.Body.TheVariants.{Waveform, Marker, Wait, LoadRepeat, Repeat, Cmp, Goto, Call, Return, Sync, Modulator, LoadCmp, Prefetch, Noop}
use Rattle.reader.specs.Reading.{Reading, no_such_code, has_kind, not_its_op, form_in, refused_with, reading_of}
use Rattle.std.specs.declared.result.Result.TheVariants.{Ok, Err}
use Rattle.sequence.specs.Placing.{on_engine, out_of_wave, out_of_words, placing_of}
use Rattle.dispatch.proofs.Counts.{picks}
use Rattle.jumps.specs.State.{Fixed, Did}
use Rattle.jumps.specs.Jumps.{acts, call_of, return_of, message_of}
use Rattle.jumps.specs.declared.State.{State}
use Rattle.machine.specs.Step.{send_of, engine_word_of, any_above, sync_of, act_of, breaks_group, execute_of, with_reading, step_of}

abbrev Other : ℕ → Type 0
Other n = n ≡ 40 → ⊥

pub record Fair (r : Refusal) : Type 0 where
  pub moved : r.number ≡ 0 → r ≡ numbered 0
  pub other : Other r.number

abbrev Ends : Did → Type 0
Ends d = Fair d.end

by_number : (n : ℕ) → Other n → Fair (numbered n)
by_number n h = record { moved = λ z. ap numbered z; other = h }

-- ---- a word's own number

form_other : (rules : Rules) (i : Instruction) → Other (form_of rules i)
unfolding form_of
form_other rules i =
    picks Other (unflagged i.write i.body) (λ _ z. omega (arith, z)) (λ _.
    picks Other (no_such_op i.body) (λ _ z. omega (arith, z)) (λ _.
    picks Other (useless i.body) (λ _ z. omega (arith, z)) (λ _.
    picks Other (too_short i.body) (λ _ z. omega (arith, z)) (λ _.
    picks Other (askew i.body) (λ _ z. omega (arith, z)) (λ _.
    picks Other (wrong_nco i.body) (λ _ z. omega (arith, z)) (λ _.
    picks Other (wide_phase i.body) (λ _ z. omega (arith, z)) (λ _.
    picks Other (wide_count rules i.body) (λ _ z. omega (arith, z)) (λ _ z. omega (arith, z)))))))))

word_other : (rules : Rules) (word : ℕ) → Other (form_in rules word)
unfolding form_in
word_other rules word =
    picks Other (no_such_code word) (λ _ z. omega (arith, z)) (λ _.
    picks Other (has_kind 111 word) (λ _ z. omega (arith, z)) (λ _.
    picks Other (has_kind 112 word) (λ _ z. omega (arith, z)) (λ _.
    picks Other (has_kind 113 word) (λ _ z. omega (arith, z)) (λ _.
    picks Other (not_its_op word) (λ _ z. omega (arith, z)) (λ _. form_other rules (spelled_by word))))))

word_fair : (rules : Rules) (word : ℕ) → Fair (refused_with word (form_in rules word))
word_fair rules word = record { moved = λ z. ap (refused_with word) z; other = word_other rules word }

-- of a reading that is refused
abbrev FairRead : Reading → Type 0
FairRead (Ok i) = Unit {0}
FairRead (Err r) = Fair r

read_fair : (rules : Rules) (word : ℕ) → FairRead (reading_of rules word)
unfolding reading_of
read_fair rules word =
    picks FairRead (eqb word noop_word) (λ _. tt) (λ _.
    picks FairRead (eqb (form_in rules word) 0) (λ _. tt) (λ _. word_fair rules word))

-- ---- the step

module _ (e : Fixed) (s : State) where
  send_fair : Ends (send_of e s)
  unfolding send_of
  send_fair = picks Ends (leb (s.core.sent + (s.core.held + 1)) e.room) (λ _. by_number 0 (λ z. omega (arith, z))) (λ _. by_number 43 (λ z. omega (arith, z)))

  sync_fair : Ends (sync_of e s)
  unfolding sync_of
  sync_fair = picks Ends (any_above e.setting.triggers s.waits) (λ _. by_number 41 (λ z. omega (arith, z))) (λ _. send_fair)

  engine_fair : (w : ℕ) → Ends (engine_word_of e s w)
  unfolding engine_word_of
  engine_fair w = picks Ends (eqb w 0) (λ _. by_number 0 (λ z. omega (arith, z))) (λ _. send_fair)

  call_fair : (a : ℕ) → Ends (call_of s a)
  unfolding call_of
  call_fair a =
      picks Ends (acts s.core.condition)
      (λ _. picks Ends (ltb s.core.depth 16) (λ _. by_number 0 (λ z. omega (arith, z))) (λ _. by_number 31 (λ z. omega (arith, z))))
      (λ _. by_number 0 (λ z. omega (arith, z)))

  return_fair : Ends (return_of s)
  unfolding return_of
  return_fair =
      picks Ends (acts s.core.condition)
      (λ _. picks Ends (ltb 0 s.core.depth) (λ _. by_number 0 (λ z. omega (arith, z))) (λ _. by_number 32 (λ z. omega (arith, z))))
      (λ _. by_number 0 (λ z. omega (arith, z)))

  message_fair : (m : List ℕ) → Ends (message_of m s)
  unfolding message_of
  message_fair m = picks Ends (ltb s.core.used (length m)) (λ _. by_number 0 (λ z. omega (arith, z))) (λ _. by_number 42 (λ z. omega (arith, z)))

  act_fair : (w : ℕ) (b : Body) → Ends (act_of e s w b)
  unfolding act_of
  act_fair w (Waveform f) = engine_fair w
  act_fair w (Marker f) = engine_fair w
  act_fair w Wait = send_fair
  act_fair w (LoadRepeat n) = by_number 0 (λ z. omega (arith, z))
  act_fair w (Repeat a) = by_number 0 (λ z. omega (arith, z))
  act_fair w (Cmp x) = by_number 0 (λ z. omega (arith, z))
  act_fair w (Goto a) = by_number 0 (λ z. omega (arith, z))
  act_fair w (Call a) = call_fair a.0
  act_fair w (Return p) = return_fair
  act_fair w Sync = sync_fair
  act_fair w (Modulator f) = engine_fair w
  act_fair w (LoadCmp p) = message_fair e.messages
  act_fair w (Prefetch a) = by_number 0 (λ z. omega (arith, z))
  act_fair w Noop = by_number 0 (λ z. omega (arith, z))

  place_other : (wave n : ℕ) (b : Body) → Other (placing_of wave n b)
  unfolding placing_of
  place_other wave n b =
      picks Other (on_engine (out_of_wave wave) (λ f. false) (λ f. false) false b) (λ _ z. omega (arith, z))
      (λ _. picks Other (out_of_words n b) (λ _ z. omega (arith, z)) (λ _ z. omega (arith, z)))

  execute_fair : (i : Instruction) → Ends (execute_of e s i)
  unfolding execute_of
  execute_fair i =
      let n : ℕ = placing_of e.setting.wave.0 (length e.words) i.body in
      picks Ends (eqb n 0)
      (λ _. picks Ends (breaks_group s.core.held i.write i.body) (λ _. by_number 22 (λ z. omega (arith, z))) (λ _. act_fair i.write i.body))
      (λ _. by_number n (place_other e.setting.wave.0 (length e.words) i.body))

  reading_fair : (q : Reading) → FairRead q → Ends (with_reading e s q)
  unfolding with_reading
  reading_fair (Ok i) p = execute_fair i
  reading_fair (Err r) p = p

  pub step_fair : Fair (step_of e s).end
  unfolding step_of
  step_fair =
      picks Ends (ltb s.core.address.0 (length e.words))
      (λ _. reading_fair (reading_of e.setting.rules (get_or e.words s.core.address.0 0)) (read_fair e.setting.rules (get_or e.words s.core.address.0 0)))
      (λ _. by_number 30 (λ z. omega (arith, z)))
