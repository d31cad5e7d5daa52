-- Laws of the instruction's definitions, for its own functions and for those who read and write words.
-- Assumes nothing.
use mathlib.Core.Path.{◌≡◌, sym, ap, ◌∙◌}
use mathlib.Core.Bool.{◌&&◌}
use mathlib.Core.List.{List, [], ◌∷◌}
use Prim.Native.Nat.{ℕ, zero, suc, ◌≤◌, zero-le}
use lib.Arith.{lt_of_le-ne}
use lib.Dec.{eqb}
use lib.ListN.{get_or-eq_default}
use borrow.Author.Tests.{eq-eqb, ne_eqb}
use Rattle.instruction.specs.Bits.{held, laid, laid_onto, all_fit}
use Rattle.instruction.specs.Table.{op_code, engine_select, write_flag, payload_of, code_of, noop_word, values_of, bodies, body_of}
use Rattle.instruction.specs.Form.{body_form, form_of}
use Rattle.instruction.specs.Word.{code_in, spelled_by, values_in, word_of, body_fits, fits_of}
use Rattle.instruction.specs.declared.Rules.{Rules}
use Rattle.instruction.specs.declared.Instruction.{Instruction}
use Rattle.instruction.specs.declared.Body.TheVariants.{Noop}

-- a number that is none of those below k, as the last arm of a match knows it
abbrev pub NoneBelow : ℕ → ℕ → Type 0
NoneBelow zero n = Unit {0}
NoneBelow (suc k) n = NoneBelow k n × (n ≡ k → ⊥)

pub past : (k : ℕ) {n : ℕ} → NoneBelow k n → k ≤ n
past zero h = zero-le
past (suc k) h = lt_of_le-ne (past k h.0) (λ e. h.1 (sym e))

-- a code that is none of the thirteen has no body of its own
pub body_past : (vs : List ℕ) {n : ℕ} → NoneBelow 13 n → body_of n vs ≡ Noop
body_past vs h = get_or-eq_default (bodies vs) Noop (past 13 h)

-- the body of a word whose op code is known
pub body_at : (w : ℕ) {n k : ℕ} → n ≡ k → body_of k (values_in k w) ≡ body_of n (values_in n w)
body_at w e = ap (λ (c : ℕ). body_of c (values_in c w)) (sym e)

-- NOOP, and every other instruction: what fits, and the word
pub fits_noop : (i : Instruction) → code_of i.body ≡ 15 → fits_of i ≡ (eqb i.engine 0 && eqb i.write 0)
unfolding fits_of
fits_noop i e = simp (eq-eqb _ _ e)

pub fits_other : (i : Instruction) → (code_of i.body ≡ 15 → ⊥)
    → fits_of i ≡ (all_fit (engine_select ∷ write_flag ∷ []) (i.engine ∷ i.write ∷ []) && body_fits i.body)
unfolding fits_of
fits_other i h = simp (ne_eqb _ _ h)

pub word_noop : (i : Instruction) → code_of i.body ≡ 15 → word_of i ≡ noop_word
unfolding word_of
word_noop i e = simp (eq-eqb _ _ e)

pub word_other : (i : Instruction) → (code_of i.body ≡ 15 → ⊥)
    → word_of i ≡ laid_onto (laid op_code (code_of i.body)) (engine_select ∷ write_flag ∷ payload_of (code_of i.body)) (i.engine ∷ i.write ∷ values_of i.body)
unfolding word_of
word_other i h = simp (ne_eqb _ _ h)

-- ---- the form of what a word spells, by its code

pub form_at : (rules : Rules) (w : ℕ) {n k : ℕ} → n ≡ code_in w → n ≡ k → body_form rules (held w write_flag) (body_of k (values_in k w)) ≡ form_of rules (spelled_by w)
unfolding form_of spelled_by
form_at rules w e p = ap (λ (c : ℕ). body_form rules (held w write_flag) (body_of c (values_in c w))) (sym p ∙ e)
