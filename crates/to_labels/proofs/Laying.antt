-- Laws of a label line: how long it is, and that it may not be there.
-- Assumes nothing.
use Prim.Native.Nat.{ℕ, ◌+◌}
use mathlib.Core.Path.{◌≡◌, sym, ap, subst}
use mathlib.Core.Bool.{Bool, true, false}
use mathlib.Core.List.{List, [], ◌∷◌, ◌++◌}
use native.Mathlib.Nat.{add-zero}
use native.Mathlib.Omega.{arith}
use lib.ListN.{length, length-append}
use Rattle.buffer.specs.Put.{Fits, Put}
use Rattle.buffer.proofs.Laws.{put_none}
use Rattle.text.specs.Cut.{tab, line_feed}
use Rattle.text.specs.Line.{letters, decimal}
use Rattle.editions.specs.Moves.{label_line}
use Rattle.to_labels.specs.Loops.{label_text}

-- ---- a label line

-- what stands before its number
abbrev pub label_front : List ℕ
label_front = letters "label" ++ (tab ∷ letters "L")

pub label_size_lem : (a : ℕ) → length (label_line a) ≡ 8 + length (decimal a)
label_size_lem a = omega (arith, length-append (decimal a) (line_feed ∷ []))

module _ (a : ℕ) {on : Bool} where
  pub no_label_size : on ≡ false → 0 ≡ length (label_text on a)
  no_label_size e = sym (ap (λ (t : Bool). length (label_text t a)) e)

  pub a_label_size : on ≡ true → {n : ℕ} → n ≡ length (decimal a) → 8 + n ≡ length (label_text on a)
  a_label_size e {n = n} s = omega (arith, s, label_size_lem a, ap (λ (t : Bool). length (label_text t a)) e)

  pub no_label : on ≡ false → (t : List ℕ) (k : ℕ) → Put (label_text on a) t k t k
  no_label e t k = subst (λ (s : Bool). Put (label_text s a) t k t k) (sym e) (record { wrote = sym (put_none t k); end = sym (add-zero k) })

  pub label_fits : on ≡ true → (t : List ℕ) (k : ℕ) → Fits (label_text on a) t k → Fits (label_line a) t k
  label_fits e t k = subst (λ (s : Bool). Fits (label_text s a) t k) e

  pub label_put : on ≡ true → {t : List ℕ} {k : ℕ} {u : List ℕ} {r : ℕ} → Put (label_line a) t k u r → Put (label_text on a) t k u r
  label_put e {t = t} {k = k} {u = u} {r = r} = subst (λ (s : Bool). Put (label_text s a) t k u r) (sym e)
