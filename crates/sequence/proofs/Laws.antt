-- Laws of the sequence's definitions.
-- Assumes nothing.
use mathlib.Core.Path.{◌≡◌, refl, sym, ap, subst, ◌∙◌}
use mathlib.Core.Bool.{Bool, true, false, not, ◌||◌, ◌&&◌}
use Prim.Native.Nat.{ℕ, ◌+◌, ◌-◌, ◌≤◌, ◌<◌}
use native.Mathlib.Decide.{dec_lt}
use native.Mathlib.Omega.{arith}
use borrow.Author.Tests.{eqb-true, lt-ltb, le-ltb, le-leb, lt-leb}
use lib.Dec.{ltb, eqb, leb}
use Rattle.instruction.specs.declared.WaveformFields.{WaveformFields}
use Rattle.instruction.specs.declared.MarkerFields.{MarkerFields}
use Rattle.instruction.specs.declared.ModulatorFields.{ModulatorFields}
use Rattle.instruction.specs.declared.WordAddress.{WordAddress}
use Rattle.instruction.specs.declared.Body.{Body}
use Rattle.instruction.specs.declared.Body.TheVariants.{Waveform, Marker, Wait, LoadRepeat, Repeat, Cmp, Goto, Call, Return, Sync, Modulator, LoadCmp, Prefetch, Noop}
use Rattle.instruction.specs.Bits.{pick}
use Rattle.std.specs.Result.{is_ok}
use Rattle.std.specs.declared.result.Result.{Result}
use Rattle.std.specs.declared.result.Result.TheVariants.{Ok, Err}
use Rattle.instruction.specs.Form.{told}
use Rattle.sequence.specs.Numbers.{input_number, place_number}
use Rattle.sequence.specs.declared.BadInput.{BadInput}
use Rattle.sequence.specs.declared.BadInput.TheVariants.{NoWords, TooManyWords, TooMuchWave, ShortMarks, TooMuchBudget}
use Rattle.sequence.specs.declared.Misplaced.{Misplaced}
use Rattle.sequence.specs.declared.Misplaced.TheVariants.{OutOfWave, OutOfWords, BrokenGroup}
use Rattle.sequence.specs.Placing.{on_engine, out_of_wave, out_of_words, placing_of}

-- a sum is past a bound where its second part is more than is left of it
pub past_sum : (w a c : ℕ) → a ≤ w → ltb (w - a) c ≡ not (leb (a + c) w)
past_sum w a c h = by (dec_lt (w - a) c)
  where
    by : Dec (w - a < c) → ltb (w - a) c ≡ not (leb (a + c) w)
    by (yes l) = lt-ltb (w - a) c l ∙ ap not (sym (lt-leb (a + c) w (omega arith)))
    by (no l) = le-ltb (w - a) c (omega arith) ∙ ap not (sym (le-leb (a + c) w (omega arith)))

-- what holds of what each engine makes of its word, and of what any other name gives, holds of what a body gives
pub on_engine_lem : {A : Type 0} (P : A → Type 0) {waveform : WaveformFields → A} {marker : MarkerFields → A} {modulator : ModulatorFields → A} {other : A}
    → ((f : WaveformFields) → P (waveform f)) → ((f : MarkerFields) → P (marker f)) → ((f : ModulatorFields) → P (modulator f)) → P other
    → (b : Body) → P (on_engine waveform marker modulator other b)
on_engine_lem P p q r s (Waveform f) = p f
on_engine_lem P p q r s (Marker f) = q f
on_engine_lem P p q r s Wait = s
on_engine_lem P p q r s (LoadRepeat n) = s
on_engine_lem P p q r s (Repeat a) = s
on_engine_lem P p q r s (Cmp x) = s
on_engine_lem P p q r s (Goto a) = s
on_engine_lem P p q r s (Call a) = s
on_engine_lem P p q r s (Return p') = s
on_engine_lem P p q r s Sync = s
on_engine_lem P p q r s (Modulator f) = r f
on_engine_lem P p q r s (LoadCmp p') = s
on_engine_lem P p q r s (Prefetch a) = s
on_engine_lem P p q r s Noop = s

-- what is placed has its target, if it has one, within the words
pub placed_words : (wave n : ℕ) (b : Body) → placing_of wave n b ≡ 0 → out_of_words n b ≡ false
unfolding placing_of
placed_words wave n b e = by (on_engine (out_of_wave wave) (λ f. false) (λ f. false) false b) (out_of_words n b) e
  where
    by : (p q : Bool) → ◌≡◌ {A = ℕ} (pick p 20 (pick q 21 0)) 0 → q ≡ false
    by true q z = absurd (omega arith)
    by false true z = absurd (omega arith)
    by false false z = refl

-- ---- 20, by whether the word is a plain play

plain : (p q r x y : Bool) → (p && q) ≡ true → r ≡ false → x ≡ ((p && q && x) || ((p && not q || r) && y))
plain true true r true y e z = refl
plain true true r false y e z = rw z refl
plain true false r x y e z = let w : ◌≡◌ {A = ℕ} 0 1 = cc in absurd (omega arith)
plain false q r x y e z = let w : ◌≡◌ {A = ℕ} 0 1 = cc in absurd (omega arith)

other : (p q r x y : Bool) → (p && q) ≡ false → ((p || r) && y) ≡ ((p && q && x) || ((p && not q || r) && y))
other true true r x y e = let w : ◌≡◌ {A = ℕ} 0 1 = cc in absurd (omega arith)
other true false r x y e = refl
other false q r x y e = refl

first_of : (p q : Bool) → (p && q) ≡ true → p ≡ true
first_of true q e = refl
first_of false q e = e

pub wave_plain : (wave : ℕ) (f : WaveformFields) → (eqb f.op 0 && eqb f.ta 0) ≡ true → not (leb (f.address.0 + f.count.0) wave) ≡ out_of_wave wave f
wave_plain wave f e =
    plain (eqb f.op 0) (eqb f.ta 0) (eqb f.op 3) (not (leb (f.address.0 + f.count.0) wave)) (not (ltb f.address.0 wave)) e
    (ap (λ (k : ℕ). eqb k 3) (eqb-true f.op 0 (first_of (eqb f.op 0) (eqb f.ta 0) e)))

pub wave_other : (wave : ℕ) (f : WaveformFields) → (eqb f.op 0 && eqb f.ta 0) ≡ false → ((eqb f.op 0 || eqb f.op 3) && not (ltb f.address.0 wave)) ≡ out_of_wave wave f
wave_other wave f e = other (eqb f.op 0) (eqb f.ta 0) (eqb f.op 3) (not (leb (f.address.0 + f.count.0) wave)) (not (ltb f.address.0 wave)) e

-- ---- whether there is a number, and then which

flag : (p : Bool) (k : ℕ) → eqb k 0 ≡ false → p ≡ not (eqb (pick p k 0) 0)
flag true k e = ap not (sym e)
flag false k e = refl

given : (p : Bool) (k : ℕ) → not (eqb (pick p k 0) 0) ≡ true → k ≡ pick p k 0
given true k e = refl
given false k e = let w : ◌≡◌ {A = ℕ} 0 1 = cc in absurd (omega arith)

pub wave_misplaced : (wave n : ℕ) (f : WaveformFields) → out_of_wave wave f ≡ not (eqb (placing_of wave n (Waveform f)) 0)
unfolding placing_of
wave_misplaced wave n f = flag (out_of_wave wave f) 20 refl

of_waveform : (wave n : ℕ) (f : WaveformFields) → not (eqb (placing_of wave n (Waveform f)) 0) ≡ true → 20 ≡ placing_of wave n (Waveform f)
unfolding placing_of
of_waveform wave n f e = given (out_of_wave wave f) 20 e

pub wave_number : (wave n : ℕ) {b : Body} (f : WaveformFields) → b ≡ Waveform f → not (eqb (placing_of wave n b) 0) ≡ true → 20 ≡ placing_of wave n b
wave_number wave n f q = subst (λ (b : Body). not (eqb (placing_of wave n b) 0) ≡ true → 20 ≡ placing_of wave n b) (sym q) (of_waveform wave n f)

pub word_misplaced : (n : ℕ) (a : WordAddress) → leb n a.0 ≡ not (eqb (placing_of 0 n (Goto a)) 0)
unfolding placing_of
word_misplaced n a = flag (leb n a.0) 21 refl

-- 21, of any other name
pub word_number : (wave n : ℕ) (b : Body) → ((f : WaveformFields) → b ≡ Waveform f → ⊥) → not (eqb (placing_of wave n b) 0) ≡ true → 21 ≡ placing_of wave n b
unfolding placing_of
word_number wave n (Waveform f) o e = absurd (o f refl)
word_number wave n (Marker f) o e = given false 21 e
word_number wave n Wait o e = given false 21 e
word_number wave n (LoadRepeat r) o e = given false 21 e
word_number wave n (Repeat a) o e = given (leb n a.0) 21 e
word_number wave n (Cmp x) o e = given false 21 e
word_number wave n (Goto a) o e = given (leb n a.0) 21 e
word_number wave n (Call a) o e = given (leb n a.0) 21 e
word_number wave n (Return p) o e = given false 21 e
word_number wave n Sync o e = given false 21 e
word_number wave n (Modulator f) o e = given false 21 e
word_number wave n (LoadCmp p) o e = given false 21 e
word_number wave n (Prefetch a) o e = given (leb n a.0) 21 e
word_number wave n Noop o e = given false 21 e

-- ---- no number is 0, which refuses nothing

pub input_some : (bad : BadInput) → input_number bad ≡ 0 → ⊥
input_some NoWords e = omega (arith, e)
input_some TooManyWords e = omega (arith, e)
input_some TooMuchWave e = omega (arith, e)
input_some ShortMarks e = omega (arith, e)
input_some TooMuchBudget e = omega (arith, e)

pub place_some : (bad : Misplaced) → place_number bad ≡ 0 → ⊥
place_some OutOfWave e = omega (arith, e)
place_some OutOfWords e = omega (arith, e)
place_some BrokenGroup e = omega (arith, e)

-- what is placed has no number
pub place_none : (placing : Result (Unit {0}) Misplaced) → is_ok placing ≡ eqb (told place_number placing) 0
place_none (Ok u) = refl
place_none (Err OutOfWave) = refl
place_none (Err OutOfWords) = refl
place_none (Err BrokenGroup) = refl
