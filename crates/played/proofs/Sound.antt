-- The instructions of a layout: each reads back from its word, is placed among the words, and leaves no group open.
-- Assumes nothing.
use Prim.Native.Nat.{ℕ, ◌+◌, ◌<◌, ◌≤◌}
use mathlib.Core.Path.{◌≡◌, refl, sym, ap, ◌∙◌}
use mathlib.Core.Bool.{Bool, true, false, not, ◌&&◌, true≢false}
use mathlib.Core.List.{List}
use native.Mathlib.Omega.{arith}
use borrow.Author.Tests.{lt-ltb, lt-leb, eqb-true, eqb-false, not-true, not-false}
use lib.Dec.{eqb}
use lib.ListN.{length, get_or, drop}
use Rattle.instruction.specs.Bits.{pick}
use Rattle.instruction.specs.Form.{filled, form_of}
use Rattle.instruction.specs.Rules.{current}
use Rattle.instruction.specs.Word.{spelled_by, word_of, fits_of}
use Rattle.instruction.specs.declared.Rules.{Rules}
use Rattle.instruction.specs.declared.Refusal.{Refusal}
use Rattle.instruction.specs.declared.WaveformFields.{WaveformFields}
use Rattle.instruction.specs.declared.Instruction.{Instruction}
use Rattle.instruction.specs.declared.Body.TheVariants.{Waveform, LoadRepeat, Repeat, Goto, Call, Return, Sync}
use Rattle.reader.specs.Reading.{Reading, reading_of}
use Rattle.std.specs.declared.result.Result.TheVariants.{Ok, Err}
use Rattle.writer.specs.Writing.{asked_of}
use Rattle.writer.specs.declared.Written.{Written}
use Rattle.writer.proofs.Laws.{written_good}
use Rattle.sequence.specs.Bounds.{word_limit}
use Rattle.sequence.specs.Placing.{is_engine, placing_of}
use Rattle.flow.specs.Move.{move_of, move_at}
use Rattle.verdict.specs.Words.{left_open, Passes}
use Rattle.verdict.proofs.Words.{stands_well, refusal_at, stands}
use Rattle.nest.specs.Block.{high, low, repeat_limit, pulse_number}
use Rattle.nest.proofs.Stands.{At}
use Rattle.demands.proofs.Word.{write_read}

-- ---- an instruction among n words

pub record Sound (rules : Rules) (wave n : ℕ) (i : Instruction) : Type 0 where
  pub asked : asked_of rules i ≡ 0
  pub placed : placing_of wave n i.body ≡ 0
  pub flagged : (is_engine i.body && eqb i.write 0) ≡ false

pub sync_sound : (rules : Rules) (wave n : ℕ) → Sound rules wave n (high Sync)
unfolding asked_of fits_of form_of placing_of
sync_sound rules wave n = record { asked = refl; placed = refl; flagged = refl }

pub load_sound : (rules : Rules) (wave n k : ℕ) → k < repeat_limit → Sound rules wave n (low (LoadRepeat (record { 0 = k })))
unfolding asked_of fits_of form_of placing_of
load_sound rules wave n k h = record { asked = rw (lt-ltb k 65536 h); placed = refl; flagged = refl }

pub return_sound : (rules : Rules) (wave n : ℕ) → Sound rules wave n (low (Return (record { 0 = 0 })))
unfolding asked_of fits_of form_of placing_of
return_sound rules wave n = record { asked = refl; placed = refl; flagged = refl }

-- CALL, REPEAT and GOTO have the address of a word
module _ (rules : Rules) (wave n a : ℕ) (inside : a < n) (few : n ≤ word_limit) where
  narrow : a < 67108864
  narrow = omega arith

  pub call_sound : Sound rules wave n (low (Call (record { 0 = a })))
  unfolding asked_of fits_of form_of placing_of
  call_sound = record { asked = rw (lt-ltb a 67108864 narrow); placed = rw (lt-leb n a inside); flagged = refl }

  pub repeat_sound : Sound rules wave n (low (Repeat (record { 0 = a })))
  unfolding asked_of fits_of form_of placing_of
  repeat_sound = record { asked = rw (lt-ltb a 67108864 narrow); placed = rw (lt-leb n a inside); flagged = refl }

  pub goto_sound : Sound rules wave n (low (Goto (record { 0 = a })))
  unfolding asked_of fits_of form_of placing_of
  goto_sound = record { asked = rw (lt-ltb a 67108864 narrow); placed = rw (lt-leb n a inside); flagged = refl }

-- a play or hold that is given no number, for either firmware
pub pulse_sound : (rules : Rules) (wave n : ℕ) (f : WaveformFields) → pulse_number wave f ≡ 0 → Sound rules wave n (high (Waveform f))
unfolding asked_of fits_of form_of placing_of pulse_number
pulse_sound rules wave n f z =
    let both = by (asked_of current (high (Waveform f))) (placing_of wave 0 (Waveform f)) (filled (asked_of current (high (Waveform f)))) refl z in
    record { asked = both.0; placed = both.1; flagged = refl }
  where
    by : (x y : ℕ) (t : Bool) → not (eqb x 0) ≡ t → pick t x y ≡ 0 → (x ≡ 0) × (y ≡ 0)
    by x y true p q = absurd (eqb-false x 0 (not-true (eqb x 0) p) q)
    by x y false p q = (eqb-true x 0 (not-false (eqb x 0) p), q)

pub reads_back : (rules : Rules) (i : Instruction) → asked_of rules i ≡ 0 → reading_of rules (word_of i) ≡ Ok i
reads_back rules i z = ap (λ (x : Written). reading_of rules x.word) (sym (written_good rules i z)) ∙ write_read rules i (ap (λ (x : Written). x.number) (written_good rules i z) ∙ z)

-- ---- an instruction that stands at a place

pub record Takes (rules : Rules) (wave : ℕ) (words : List ℕ) (p : ℕ) (i : Instruction) : Type 0 where
  pub at : At words p i
  pub sound : Sound rules wave (length words) i

-- an accepted instruction is told by its reading
accepted_one : {i j : Instruction} → ◌≡◌ {A = Reading} (Ok i) (Ok j) → i ≡ j
accepted_one {i} e = ap instruction e
  where
    instruction : Reading → Instruction
    instruction (Ok k) = k
    instruction (Err r) = i

-- no low engine word, so no group that is left open
closed : (i : Instruction) (above : List ℕ) → (is_engine i.body && eqb i.write 0) ≡ false → left_open i above ≡ false
unfolding left_open
closed i above e = by (is_engine i.body) (eqb i.write 0) _ e
  where
    by : (p q r : Bool) → (p && q) ≡ false → (p && q && r) ≡ false
    by true true r h = absurd (true≢false h)
    by true false r h = refl
    by false q r h = refl

module _ (rules : Rules) (wave : ℕ) (words : List ℕ) {p : ℕ} {i : Instruction} (t : Takes rules wave words p i) where
  pub reads_at : reading_of rules (get_or words p 0) ≡ Ok i
  reads_at = ap (reading_of rules) t.at.1 ∙ reads_back rules i t.sound.asked

  pub passes_at : Passes rules wave words p
  passes_at =
      ap (λ (r : Refusal). r.number) (refusal_at rules wave words p reads_at)
      ∙ stands_well wave (length words) (drop (p + 1) words) i t.sound.placed (closed i (drop (p + 1) words) t.sound.flagged)

  -- what walk and engines take it for
  pub body_at : (spelled_by (get_or words p 0)).body ≡ i.body
  body_at =
      let s = stands rules wave words p passes_at in
      s.body ∙ ap (λ (j : Instruction). j.body) (accepted_one (sym s.reads ∙ reads_at))

  pub move_at_lem : move_at words p ≡ move_of i.body
  move_at_lem = ap move_of body_at
