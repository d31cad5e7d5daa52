-- Laws of the two kinds of firmware: an instruction that the older kind does not give 24 for has the same form number for the current one,
-- and one that it does has nothing else wrong.
-- Assumes nothing.
use mathlib.Core.Path.{◌≡◌, refl, ap, ◌∙◌}
use mathlib.Core.Bool.{Bool, true, false, ◌&&◌}
use Prim.Native.Nat.{ℕ}
use native.Mathlib.Omega.{arith}
use Rattle.instruction.specs.Bits.{◌gives◌else◌}
use Rattle.instruction.specs.Rules.{older, current}
use Rattle.instruction.specs.Form.{plays, unflagged, no_such_op, useless, too_short, askew, wrong_nco, wide_phase, wide_count, form_of}
use Rattle.instruction.specs.declared.Instruction.{Instruction}
use Rattle.instruction.specs.declared.Body.{Body}
use Rattle.instruction.specs.declared.Body.TheVariants.{Waveform, Marker, Wait, LoadRepeat, Repeat, Cmp, Goto, Call, Return, Sync, Modulator, LoadCmp, Prefetch, Noop}

-- a number that is given before 24 is given alike
pub before_24 : (t : Bool) (n : ℕ) {x y : ℕ} → ((x ≡ 24 → ⊥) → y ≡ x) → ((t gives n else x) ≡ 24 → ⊥) → (t gives n else y) ≡ (t gives n else x)
before_24 true n f h = refl
before_24 false n f h = f h

-- and where 24 is given, none was given before it
pub only_24 : (t : Bool) (n : ℕ) → (n ≡ 24 → ⊥) → {x y : ℕ} → (x ≡ 24 → y ≡ 0) → (t gives n else x) ≡ 24 → (t gives n else y) ≡ 0
only_24 true n h f e = absurd (h e)
only_24 false n h f e = f e

never_both : (t : Bool) → (t && false) ≡ false
never_both true = refl
never_both false = refl

-- the current kind gives no 24
current_takes : (b : Body) → wide_count current b ≡ false
current_takes (Waveform f) = refl
current_takes (Marker f) = never_both (plays f.op)
current_takes Wait = refl
current_takes (LoadRepeat n) = refl
current_takes (Repeat a) = refl
current_takes (Cmp x) = refl
current_takes (Goto a) = refl
current_takes (Call a) = refl
current_takes (Return p) = refl
current_takes Sync = refl
current_takes (Modulator f) = refl
current_takes (LoadCmp p) = refl
current_takes (Prefetch a) = refl
current_takes Noop = refl

last_alike : (b : Body) → ((wide_count older b gives 24 else 0) ≡ 24 → ⊥) → (wide_count current b gives 24 else 0) ≡ (wide_count older b gives 24 else 0)
last_alike b h = ap (λ (t : Bool). t gives 24 else 0) (current_takes b) ∙ by (wide_count older b) h
  where
    by : (t : Bool) → ((t gives 24 else 0) ≡ 24 → ⊥) → 0 ≡ (t gives 24 else 0)
    by true h = absurd (h refl)
    by false h = refl

pub form_alike : (i : Instruction) → (form_of older i ≡ 24 → ⊥) → form_of current i ≡ form_of older i
unfolding form_of
form_alike i =
    before_24 (unflagged i.write i.body) 13
    (before_24 (no_such_op i.body) 14
    (before_24 (useless i.body) 15
    (before_24 (too_short i.body) 16
    (before_24 (askew i.body) 17
    (before_24 (wrong_nco i.body) 18
    (before_24 (wide_phase i.body) 19 (last_alike i.body)))))))

pub form_alone : (i : Instruction) → form_of older i ≡ 24 → form_of current i ≡ 0
unfolding form_of
form_alone i =
    only_24 (unflagged i.write i.body) 13 (λ z. omega (arith, z))
    (only_24 (no_such_op i.body) 14 (λ z. omega (arith, z))
    (only_24 (useless i.body) 15 (λ z. omega (arith, z))
    (only_24 (too_short i.body) 16 (λ z. omega (arith, z))
    (only_24 (askew i.body) 17 (λ z. omega (arith, z))
    (only_24 (wrong_nco i.body) 18 (λ z. omega (arith, z))
    (only_24 (wide_phase i.body) 19 (λ z. omega (arith, z)) (λ _. ap (λ (t : Bool). t gives 24 else 0) (current_takes i.body))))))))
