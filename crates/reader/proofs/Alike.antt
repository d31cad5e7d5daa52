-- `reads_alike`: a word that the older kind does not refuse with 24 reads alike for the current one. `reads_alone`: one that it does is accepted by that.
-- Assumes nothing.
use mathlib.Core.Path.{◌≡◌, sym, ap, ◌∙◌}
use native.Mathlib.Decide.{ℕ_discrete}
use native.Mathlib.Omega.{arith}
use Prim.Native.Nat.{ℕ}
use Rattle.instruction.specs.Table.{noop_word}
use Rattle.instruction.specs.Rules.{older, current}
use Rattle.instruction.specs.Word.{spelled_by}
use Rattle.instruction.proofs.Alike.{before_24, only_24, form_alike, form_alone}
use Rattle.reader.specs.Reading.{no_such_code, has_kind, not_its_op, form_in, refused_with, judged, reading_of, number_of}
use Rattle.std.specs.declared.result.Result.TheVariants.{Ok}
use Rattle.reader.proofs.Laws.{reads_noop, reads, reads_form, number_form}

form_in_alike : (w : ℕ) → (form_in older w ≡ 24 → ⊥) → form_in current w ≡ form_in older w
unfolding form_in
form_in_alike w =
    before_24 (no_such_code w) 10
    (before_24 (has_kind 111 w) 111
    (before_24 (has_kind 112 w) 112
    (before_24 (has_kind 113 w) 113
    (before_24 (not_its_op w) 12 (form_alike (spelled_by w))))))

form_in_alone : (w : ℕ) → form_in older w ≡ 24 → form_in current w ≡ 0
unfolding form_in
form_in_alone w =
    only_24 (no_such_code w) 10 (λ z. omega (arith, z))
    (only_24 (has_kind 111 w) 111 (λ z. omega (arith, z))
    (only_24 (has_kind 112 w) 112 (λ z. omega (arith, z))
    (only_24 (has_kind 113 w) 113 (λ z. omega (arith, z))
    (only_24 (not_its_op w) 12 (λ z. omega (arith, z)) (form_alone (spelled_by w))))))

pub reads_alike : (w : ℕ) → (number_of (reading_of older w) ≡ 24 → ⊥) → reading_of current w ≡ reading_of older w
reads_alike w h = by (ℕ_discrete w noop_word)
  where
    by : Dec (w ≡ noop_word) → reading_of current w ≡ reading_of older w
    by (yes e) = reads_noop current w e ∙ sym (reads_noop older w e)
    by (no n) =
        reads_form current w n
        ∙ ap (λ (k : ℕ). judged (refused_with w k) (spelled_by w)) (form_in_alike w (λ z. h (sym (number_form older w n) ∙ z)))
        ∙ sym (reads_form older w n)

pub reads_alone : (w : ℕ) → number_of (reading_of older w) ≡ 24 → reading_of current w ≡ Ok (spelled_by w)
reads_alone w h = by (ℕ_discrete w noop_word)
  where
    by : Dec (w ≡ noop_word) → reading_of current w ≡ Ok (spelled_by w)
    by (yes e) = absurd (omega (arith, h, ap number_of (reads_noop older w e)))
    by (no n) = reads current w n (form_in_alone w (number_form older w n ∙ h))
