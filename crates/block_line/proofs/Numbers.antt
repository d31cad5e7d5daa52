-- Laws of a line's number, and of the level behind it.
-- Assumes nothing.
use Prim.Native.Nat.{ℕ, ◌+◌, ◌-◌, ◌≤◌, ◌<◌}
use mathlib.Core.Path.{◌≡◌, refl, sym, ap, ◌∙◌}
use mathlib.Core.Bool.{Bool, true, false, not, ◌&&◌}
use native.Mathlib.Omega.{arith}
use native.Mathlib.Numerals.{add-one}
use borrow.Author.Tests.{eq-eqb, ne_eqb, eqb-false, leb-true, leb-false, le-leb, lt-leb}
use lib.Dec.{eqb, leb}
use Rattle.instruction.specs.Bits.{◌gives◌else◌}
use Rattle.instruction.specs.Form.{body_form, form_of}
use Rattle.instruction.specs.Rules.{current}
use Rattle.instruction.specs.Word.{body_fits, fits_of}
use Rattle.instruction.specs.declared.WaveformFields.{WaveformFields}
use Rattle.instruction.specs.declared.Body.TheVariants.{Waveform}
use Rattle.sequence.specs.Placing.{placing_of}
use Rattle.text.proofs.Bools.{both}
use Rattle.writer.specs.Writing.{asked_of}
use Rattle.nest.specs.Block.{repeat_limit, nest_limit, pulse_number}
use Rattle.nest.specs.declared.Line.{Line}
use Rattle.nest.specs.declared.Line.TheVariants.{Pulse, Repeat, End, Unshaped}
use Rattle.block_line.specs.Line.{line_number, level_after}

-- ---- a play or hold

module _ (wave : ℕ) (f : WaveformFields) where
  pub pulse_wide : body_fits (Waveform f) ≡ false → 23 ≡ pulse_number wave f
  unfolding pulse_number asked_of fits_of
  pulse_wide e = rw e

  module _ (fit : body_fits (Waveform f) ≡ true) {n : ℕ} (a : n ≡ body_form current 0 (Waveform f)) where
    pub pulse_formed : (n ≡ 0 → ⊥) → n ≡ pulse_number wave f
    unfolding pulse_number asked_of fits_of form_of
    pulse_formed h = a ∙ rw (fit, ne_eqb (body_form current 0 (Waveform f)) 0 (λ e. h (a ∙ e)))

    pub pulse_placed : n ≡ 0 → placing_of wave 0 (Waveform f) ≡ pulse_number wave f
    unfolding pulse_number asked_of fits_of form_of
    pulse_placed e = rw (fit, eq-eqb (body_form current 0 (Waveform f)) 0 (sym a ∙ e))

-- ---- a repeat

module _ (wave level n : ℕ) where
  pub repeat_51 : (leb 1 n && leb n repeat_limit) ≡ false → 51 ≡ line_number wave level (Repeat n)
  unfolding line_number
  repeat_51 e = rw e

  module _ (e : (leb 1 n && leb n repeat_limit) ≡ true) where
    pub repeat_53 : nest_limit ≤ level → 53 ≡ line_number wave level (Repeat n)
    unfolding line_number
    repeat_53 h = rw (e, le-leb nest_limit level h)

    pub repeat_0 : level < nest_limit → 0 ≡ line_number wave level (Repeat n)
    unfolding line_number
    repeat_0 h = rw (e, lt-leb nest_limit level h)

  -- a repeat that is let through
  pub repeat_fair : line_number wave level (Repeat n) ≡ 0 → (1 ≤ n) × (n ≤ repeat_limit) × (level < nest_limit)
  unfolding line_number
  repeat_fair e = by (leb 1 n && leb n repeat_limit) refl (leb nest_limit level) refl e
    where
      by : (s : Bool) → (leb 1 n && leb n repeat_limit) ≡ s → (t : Bool) → leb nest_limit level ≡ t → (not s gives 51 else t gives 53 else 0) ≡ 0
          → (1 ≤ n) × (n ≤ repeat_limit) × (level < nest_limit)
      by false p t q z = absurd (omega (arith, z))
      by true p true q z = absurd (omega (arith, z))
      by true p false q z =
          let b = both (leb 1 n) (leb n repeat_limit) p in
          (leb-true 1 n b.0, leb-true n repeat_limit b.1, leb-false nest_limit level q)

-- ---- any line

module _ (wave level : ℕ) {line : Line} where
  pub number_pulse : {f : WaveformFields} → line ≡ Pulse f → pulse_number wave f ≡ line_number wave level line
  unfolding line_number
  number_pulse e = ap (line_number wave level) (sym e)

  pub number_repeat : {n : ℕ} → line ≡ Repeat n → line_number wave level (Repeat n) ≡ line_number wave level line
  number_repeat e = ap (line_number wave level) (sym e)

  pub number_unpaired : line ≡ End → level ≡ 0 → 52 ≡ line_number wave level line
  unfolding line_number
  number_unpaired e z = rw (e, z)

  pub number_paired : line ≡ End → (level ≡ 0 → ⊥) → 0 ≡ line_number wave level line
  unfolding line_number
  number_paired e n = rw (e, ne_eqb level 0 n)

  pub number_unshaped : line ≡ Unshaped → 50 ≡ line_number wave level line
  unfolding line_number
  number_unshaped e = rw e

-- an end that is let through closes a repeat
pub end_paired : (wave level : ℕ) → line_number wave level End ≡ 0 → 0 < level
unfolding line_number
end_paired wave level e = by (eqb level 0) refl e
  where
    by : (t : Bool) → eqb level 0 ≡ t → (t gives 52 else 0) ≡ 0 → 0 < level
    by true p z = absurd (omega (arith, z))
    by false p z = let n = eqb-false level 0 p in omega (arith, n)

-- a line that is let through has a shape
pub shaped : (wave level : ℕ) {line : Line} → line_number wave level line ≡ 0 → line ≡ Unshaped → ⊥
shaped wave level z e = omega (arith, z, number_unshaped wave level e)

-- ---- levels

module _ (level : ℕ) {line : Line} where
  pub level_pulse : {f : WaveformFields} → line ≡ Pulse f → level ≡ level_after line level
  unfolding level_after
  level_pulse e = rw e

  pub level_repeat : {n : ℕ} → line ≡ Repeat n → level + 1 ≡ level_after line level
  unfolding level_after
  level_repeat e = add-one level ∙ rw e

  pub level_end : line ≡ End → level - 1 ≡ level_after line level
  unfolding level_after
  level_end e = rw e

  pub level_unshaped : line ≡ Unshaped → level ≡ level_after line level
  unfolding level_after
  level_unshaped e = rw e
