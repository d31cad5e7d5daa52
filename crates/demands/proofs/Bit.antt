-- `which_bit`, of the reading of a word: a number that tells a bit is given for one that is not named, and for nothing else.
-- Assumes nothing.
use mathlib.Core.Path.{◌≡◌, refl, sym, ap, subst, ◌∙◌}
use mathlib.Core.Bool.{Bool, true, false, not, ◌&&◌, true≢false}
use Prim.Native.Nat.{ℕ, ◌<◌}
use native.Mathlib.Omega.{arith}
use native.Mathlib.Decide.{ℕ_discrete, dec_lt}
use Rattle.instruction.specs.Bits.{pick, is_set}
use Rattle.instruction.specs.Table.{word_bits, noop_word}
use Rattle.instruction.specs.Form.{numbered, tells_bit, unflagged, no_such_op, useless, too_short, askew, wrong_nco, wide_phase, wide_count, form_of}
use Rattle.instruction.specs.Word.{code_in, spelled_by}
use Rattle.instruction.specs.declared.Instruction.{Instruction}
use Rattle.instruction.specs.declared.Rules.{Rules}
use Rattle.reader.specs.Masks.{has_unnamed}
use Rattle.reader.specs.Reading.{is_named, is_stray, kind_of, not_its_op, form_in, highest_stray, refused_with, reading_of, refusal_of}
use Rattle.reader.proofs.Below.{Highest}
use Rattle.reader.proofs.Strays.{stray_highest}
use Rattle.reader.proofs.Laws.{form_10, form_12, form_rest, with_unnamed, refusal_noop, refusal_form}
use Rattle.dispatch.proofs.Counts.{picks}
use Rattle.demands.specs.Bit.{Offends, SaysBit, WhichBit}

-- ---- the numbers that tell none

abbrev pub Quiet : ℕ → Type 0
Quiet n = tells_bit n ≡ false

-- such a number has no bit beside it, whatever the word
pub says_none : (w n : ℕ) → Quiet n → SaysBit w (numbered n)
says_none w n q = record { told = λ t. absurd (true≢false (sym t ∙ q)); none = λ _. refl }

form_quiet : (rules : Rules) (i : Instruction) → Quiet (form_of rules i)
unfolding form_of
form_quiet rules i =
    picks Quiet (unflagged i.write i.body) (λ _. refl)
    (λ _. picks Quiet (no_such_op i.body) (λ _. refl)
    (λ _. picks Quiet (useless i.body) (λ _. refl)
    (λ _. picks Quiet (too_short i.body) (λ _. refl)
    (λ _. picks Quiet (askew i.body) (λ _. refl)
    (λ _. picks Quiet (wrong_nco i.body) (λ _. refl)
    (λ _. picks Quiet (wide_phase i.body) (λ _. refl)
    (λ _. picks Quiet (wide_count rules i.body) (λ _. refl) (λ _. refl))))))))

named_quiet : (rules : Rules) (w : ℕ) → code_in w < 13 → has_unnamed w ≡ false → Quiet (form_in rules w)
named_quiet rules w h u = by (not_its_op w) refl
  where
    by : (o : Bool) → not_its_op w ≡ o → Quiet (form_in rules w)
    by true o = ap tells_bit (form_12 rules w h u o)
    by false o = ap tells_bit (form_rest rules w h u o) ∙ form_quiet rules (spelled_by w)

-- ---- the bit that is told

both : (a b : Bool) → (a && not b) ≡ true → (a ≡ true) × (b ≡ false)
both true true e = (refl, sym e)
both true false e = (refl, refl)
both false b e = absurd (true≢false (sym e))

no_more : (a b : Bool) → (a && not b) ≡ false → a ≡ true → b ≡ true
no_more true true p q = refl
no_more true false p q = sym p
no_more false b p q = absurd (true≢false (sym q))

offends : (w : ℕ) → has_unnamed w ≡ true → Offends w (record { number = kind_of (code_in w) (highest_stray w); bit = highest_stray w })
offends w u = of (stray_highest w u)
  where
    of : Highest word_bits (is_stray w) (highest_stray w) → Offends w (record { number = kind_of (code_in w) (highest_stray w); bit = highest_stray w })
    of x =
        let p = both (is_set (highest_stray w) w) (is_named (code_in w) (highest_stray w)) x.passes in
        record {
          inside = x.below;
          set = p.0;
          unnamed = p.1;
          highest = λ k h l s. no_more (is_set k w) (is_named (code_in w) k) (x.higher k h l) s;
          kind = refl;
        }

form_says : (rules : Rules) (w : ℕ) → SaysBit w (refused_with w (form_in rules w))
form_says rules w = record {
  told = λ t. by t (dec_lt (code_in w) 13) (has_unnamed w) refl;
  none = λ q. ap (λ (b : Bool). pick b (highest_stray w) 0) q;
}
  where
    by : tells_bit (form_in rules w) ≡ true → Dec (code_in w < 13) → (u : Bool) → has_unnamed w ≡ u → Offends w (refused_with w (form_in rules w))
    by t (no h) u p = absurd (true≢false (sym t ∙ ap tells_bit (form_10 rules w (omega arith))))
    by t (yes h) true p = subst (Offends w) (sym (with_unnamed rules w h p)) (offends w p)
    by t (yes h) false p = absurd (true≢false (sym t ∙ named_quiet rules w h p))

pub which_bit : WhichBit
which_bit rules w = by (ℕ_discrete w noop_word)
  where
    by : Dec (w ≡ noop_word) → SaysBit w (refusal_of (reading_of rules w))
    by (yes e) = subst (SaysBit w) (refusal_noop rules w e) (says_none w 0 refl)
    by (no h) = subst (SaysBit w) (refusal_form rules w h) (form_says rules w)
