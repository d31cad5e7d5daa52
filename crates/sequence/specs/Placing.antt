-- Where a word may stand: numbers 20 and 21, and what an engine word is. Document 01, "Placing, after form" and "Groups".
-- An instruction here has passed form.
use Rattle.std.specs.Prelude.{ℕ, ◌+◌, Bool, true, false, not, ◌||◌, ◌&&◌, ltb, eqb, leb, get_or}
use Rattle.instruction.specs.Bits.{◌gives◌else◌}
use Rattle.instruction.specs.Form.{plays, prefetches}
use Rattle.instruction.specs.Table.{code_of, values_of}
use Rattle.instruction.specs.declared.WaveformFields.{WaveformFields}
use Rattle.instruction.specs.declared.MarkerFields.{MarkerFields}
use Rattle.instruction.specs.declared.ModulatorFields.{ModulatorFields}
use Rattle.instruction.specs.declared.WordAddress.{WordAddress}
use Rattle.instruction.specs.declared.Body.{Body}
use Rattle.instruction.specs.declared.Body.TheVariants.{Waveform, Marker, Wait, LoadRepeat, Repeat, Cmp, Goto, Call, Return, Sync, Modulator, LoadCmp, Prefetch, Noop}

-- "Engine words are op codes 0, 1 and 10": what each engine makes of its word, and what any other name gives
abbrev pub on_engine : {A : Type 0} → (WaveformFields → A) → (MarkerFields → A) → (ModulatorFields → A) → A → Body → A
on_engine waveform marker modulator other (Waveform f) = waveform f
on_engine waveform marker modulator other (Marker f) = marker f
on_engine waveform marker modulator other Wait = other
on_engine waveform marker modulator other (LoadRepeat n) = other
on_engine waveform marker modulator other (Repeat a) = other
on_engine waveform marker modulator other (Cmp x) = other
on_engine waveform marker modulator other (Goto a) = other
on_engine waveform marker modulator other (Call a) = other
on_engine waveform marker modulator other (Return p) = other
on_engine waveform marker modulator other Sync = other
on_engine waveform marker modulator other (Modulator f) = modulator f
on_engine waveform marker modulator other (LoadCmp p) = other
on_engine waveform marker modulator other (Prefetch a) = other
on_engine waveform marker modulator other Noop = other

abbrev pub is_engine : Body → Bool
is_engine = on_engine (λ f. true) (λ f. true) (λ f. true) false

-- "20 waveform: plain play needs address + count ≤ W; T/A play and prefetch need address < W"
abbrev pub out_of_wave : ℕ → WaveformFields → Bool
out_of_wave wave f =
    (plays f.op && eqb f.ta 0 && not (leb (f.address.0 + f.count.0) wave))
    || ((plays f.op && not (eqb f.ta 0) || prefetches f.op) && not (ltb f.address.0 wave))

-- "21 REPEAT, GOTO, CALL or PREFETCH address ≥ n": those whose one field is an address of words
abbrev pub has_target : ℕ → Bool
has_target code = let none : WordAddress = record { 0 = 0 } in eqb code (code_of (Repeat none)) || eqb code (code_of (Goto none)) || eqb code (code_of (Call none)) || eqb code (code_of (Prefetch none))

abbrev pub out_of_words : ℕ → Body → Bool
out_of_words n b = has_target (code_of b) && leb n (get_or (values_of b) 0 0)

-- 20, 21, and 0 where neither is given, with W quad-samples of waveform memory and n words
unfoldable pub placing_of : ℕ → ℕ → Body → ℕ
placing_of wave n b =
    on_engine (out_of_wave wave) (λ f. false) (λ f. false) false b gives 20
    else out_of_words n b gives 21
    else 0
