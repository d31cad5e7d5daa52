-- The move of a word, by its op code.
-- Assumes nothing.
use Prim.Native.Nat.{ℕ, zero, suc, ◌<◌}
use mathlib.Core.Path.{◌≡◌, refl, sym, ap, ◌∙◌}
use mathlib.Core.Bool.{Bool, true, false, ◌||◌}
use mathlib.Core.List.{List}
use lib.Dec.{ltb}
use borrow.Author.Tests.{ltb-true}
use native.Mathlib.Omega.{arith}
use Rattle.instruction.specs.Table.{body_of}
use Rattle.instruction.specs.Word.{code_in, values_in, spelled_by}
use Rattle.flow.specs.declared.Move.TheVariants.{Other}
use Rattle.flow.specs.Masks.{goes_on}
use Rattle.flow.specs.Move.{move_of}

-- of an op code that is known
pub move_at_lem : (w : ℕ) {n k : ℕ} → n ≡ code_in w → n ≡ k → move_of (body_of k (values_in k w)) ≡ move_of (spelled_by w).body
unfolding spelled_by
move_at_lem w e h = ap (λ (c : ℕ). move_of (body_of c (values_in c w))) (sym h ∙ e)

other_code : (n : ℕ) (vs : List ℕ) → (n ≡ 4 → ⊥) → (n ≡ 5 → ⊥) → (n ≡ 6 → ⊥) → (n ≡ 7 → ⊥) → (n ≡ 8 → ⊥) → move_of (body_of n vs) ≡ Other
other_code zero vs h4 h5 h6 h7 h8 = refl
other_code (suc zero) vs h4 h5 h6 h7 h8 = refl
other_code (suc (suc zero)) vs h4 h5 h6 h7 h8 = refl
other_code (suc (suc (suc zero))) vs h4 h5 h6 h7 h8 = refl
other_code (suc (suc (suc (suc zero)))) vs h4 h5 h6 h7 h8 = absurd (h4 refl)
other_code (suc (suc (suc (suc (suc zero))))) vs h4 h5 h6 h7 h8 = absurd (h5 refl)
other_code (suc (suc (suc (suc (suc (suc zero)))))) vs h4 h5 h6 h7 h8 = absurd (h6 refl)
other_code (suc (suc (suc (suc (suc (suc (suc zero))))))) vs h4 h5 h6 h7 h8 = absurd (h7 refl)
other_code (suc (suc (suc (suc (suc (suc (suc (suc zero)))))))) vs h4 h5 h6 h7 h8 = absurd (h8 refl)
other_code (suc (suc (suc (suc (suc (suc (suc (suc (suc zero))))))))) vs h4 h5 h6 h7 h8 = refl
other_code (suc (suc (suc (suc (suc (suc (suc (suc (suc (suc zero)))))))))) vs h4 h5 h6 h7 h8 = refl
other_code (suc (suc (suc (suc (suc (suc (suc (suc (suc (suc (suc zero))))))))))) vs h4 h5 h6 h7 h8 = refl
other_code (suc (suc (suc (suc (suc (suc (suc (suc (suc (suc (suc (suc zero)))))))))))) vs h4 h5 h6 h7 h8 = refl
other_code (suc (suc (suc (suc (suc (suc (suc (suc (suc (suc (suc (suc (suc n))))))))))))) vs h4 h5 h6 h7 h8 = refl

-- of one without a rule of its own
pub move_other : (w : ℕ) {n : ℕ} → n ≡ code_in w → (n ≡ 4 → ⊥) → (n ≡ 5 → ⊥) → (n ≡ 6 → ⊥) → (n ≡ 7 → ⊥) → (n ≡ 8 → ⊥) → Other ≡ move_of (spelled_by w).body
move_other w {n} e h4 h5 h6 h7 h8 = sym (other_code n (values_in n w) h4 h5 h6 h7 h8) ∙ move_at_lem w e refl

move_low : (w : ℕ) {n : ℕ} → n ≡ code_in w → n < 4 → move_of (spelled_by w).body ≡ Other
move_low w e l = sym (move_other w e (λ h. omega arith) (λ h. omega arith) (λ h. omega arith) (λ h. omega arith) (λ h. omega arith))

move_high : (w : ℕ) {n : ℕ} → n ≡ code_in w → 8 < n → move_of (spelled_by w).body ≡ Other
move_high w e l = sym (move_other w e (λ h. omega arith) (λ h. omega arith) (λ h. omega arith) (λ h. omega arith) (λ h. omega arith))

pub goes_on_lem : (w : ℕ) → goes_on w ≡ true → move_of (spelled_by w).body ≡ Other
goes_on_lem w = go (ltb (code_in w) 4) refl
  where
    go : (b : Bool) → ltb (code_in w) 4 ≡ b → (b || ltb 8 (code_in w)) ≡ true → move_of (spelled_by w).body ≡ Other
    go true e h = move_low w refl (ltb-true (code_in w) 4 e)
    go false e h = move_high w refl (ltb-true 8 (code_in w) h)
