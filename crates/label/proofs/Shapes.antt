-- Laws of a label's shape: byte by byte.
-- Assumes nothing.
use Prim.Native.Nat.{ℕ, ◌≤◌, ◌<◌}
use mathlib.Core.Path.{◌≡◌, refl, sym, ap₂, ◌∙◌}
use mathlib.Core.Bool.{Bool, true, false, ◌&&◌, ◌||◌}
use mathlib.Core.List.{List, [], ◌∷◌}
use native.Mathlib.Omega.{arith}
use native.Mathlib.Decide.{dec_lt}
use borrow.Author.Tests.{le-leb, lt-leb}
use lib.ListN.{length}
use Rattle.std.specs.Char.{is_ascii_alphanumeric}
use Rattle.std.specs.List.{list_all}
use Rattle.text.specs.Number.{between, is_digit}
use Rattle.label.specs.Label.{label_size, is_label_byte, all_label_bytes, is_label}

one_byte : (b : ℕ) → is_ascii_alphanumeric b ≡ is_label_byte b
one_byte b = or_assoc (is_digit b) (between 65 90 b) (between 97 122 b)
  where
    or_assoc : (r s t : Bool) → ((r || s) || t) ≡ (r || (s || t))
    or_assoc true s t = refl
    or_assoc false s t = refl

all_bytes : (bs : List ℕ) → list_all is_ascii_alphanumeric bs ≡ all_label_bytes bs
all_bytes [] = refl
all_bytes (b ∷ bs) = ap₂ (λ (s t : Bool). s && t) (one_byte b) (all_bytes bs)

module _ (name : List ℕ) where
  -- its bytes decide, where their number does not
  pub label_sized : 1 ≤ length name → length name ≤ label_size → list_all is_ascii_alphanumeric name ≡ is_label name
  label_sized l m = all_bytes name ∙ sym (ap₂ (λ (t u : Bool). t && (u && all_label_bytes name)) (le-leb 1 (length name) l) (le-leb (length name) label_size m))

  -- nothing, or too much, is no label
  pub label_not : (1 ≤ length name → length name ≤ label_size → ⊥) → false ≡ is_label name
  label_not n = by (dec_lt (length name) 1)
    where
      by : Dec (length name < 1) → false ≡ is_label name
      by (yes l) = sym (ap₂ (λ (t u : Bool). t && u) (lt-leb 1 (length name) l) refl)
      by (no l) = sym (ap₂ (λ (t u : Bool). t && (u && all_label_bytes name)) (le-leb 1 (length name) (omega arith)) (lt-leb (length name) label_size (long (n (omega arith)))))
        where
          long : (length name ≤ label_size → ⊥) → label_size < length name
          long h = omega arith
