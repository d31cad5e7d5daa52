-- The number given for a bit that is not named is the kind of the highest such bit: kinds do not rise with the bit, so the first of the three tests that holds is its own.
-- Assumes nothing.
use mathlib.Core.Path.{◌≡◌, refl, sym, ap, ◌∙◌}
use mathlib.Core.Bool.{Bool, true, false, not, ◌&&◌, true≢false}
use mathlib.Core.List.{List, [], ◌∷◌}
use Prim.Native.Nat.{ℕ, ◌+◌, ◌<◌, ◌≤◌}
use native.Mathlib.Omega.{arith}
use native.Mathlib.Decide.{dec_lt}
use lib.Dec.{eqb, leb}
use borrow.Author.Tests.{eq-eqb, ne_eqb, le-leb, lt-leb, leb-true, lt-ltb, ltb-true}
use Rattle.instruction.specs.Bits.{◌gives◌else◌, is_set, is_in}
use Rattle.instruction.specs.Form.{tells_bit}
use Rattle.instruction.specs.Table.{word_bits, reserved, payload_of}
use Rattle.instruction.specs.Word.{code_in}
use Rattle.instruction.specs.declared.Field.{Field}
use Rattle.reader.specs.Masks.{has_unnamed}
use Rattle.reader.specs.Reading.{is_named, is_stray, is_above, kind_of, has_kind, highest_stray}
use Rattle.reader.proofs.Below.{Highest, both, all_below_lem, none_below, one_below, highest_is, highest_below_lem, highest_none}

-- ---- kinds do not rise with the bit

reserved_is : (k : ℕ) → is_in k reserved ≡ true → k ≡ 57
reserved_is k e =
    let x = both (leb 57 k) _ e in
    let l = leb-true 57 k x.0 in
    let h = ltb-true k 58 x.1 in
    omega (arith, l, h)

pub is_reserved : (k : ℕ) → k ≡ 57 → is_in k reserved ≡ true
is_reserved k e = rw e

pub not_reserved : (k : ℕ) → (k ≡ 57 → ⊥) → is_in k reserved ≡ false
not_reserved k n = by (is_in k reserved) refl
  where
    by : (b : Bool) → is_in k reserved ≡ b → is_in k reserved ≡ false
    by true e = absurd (n (reserved_is k e))
    by false e = e

-- the header's bits above the reserved one are named
header_named : (code k : ℕ) → 57 < k → k < 64 → is_named code k ≡ true
header_named code k l h = by (dec_lt k 60)
  where
    by : Dec (k < 60) → is_named code k ≡ true
    by (yes s) = rw (lt-leb 60 k s, le-leb 58 k (omega arith), lt-ltb k 60 s)
    by (no s) = rw (le-leb 60 k (omega arith), lt-ltb k 64 h)

stray_low : (w k : ℕ) → k < 64 → is_stray w k ≡ true → k ≤ 57
stray_low w k h s = by (dec_lt 57 k)
  where
    by : Dec (57 < k) → k ≤ 57
    by (yes l) = absurd (true≢false (sym (both (is_set k w) (not (is_named (code_in w) k)) s).1 ∙ ap not (header_named (code_in w) k l h)))
    by (no l) = omega arith

-- above what lies above every field there is nothing else
above_more : (j k : ℕ) (fs : List Field) → j ≤ k → is_above j fs ≡ true → is_above k fs ≡ true
above_more j k [] l e = refl
above_more j k (f ∷ fs) l e =
    let x = both (leb (f.low + f.width) j) (is_above j fs) e in
    let y = leb-true (f.low + f.width) j x.0 in
    rw (le-leb (f.low + f.width) k (omega (arith, y))) (above_more j k fs l x.1)

abbrev kind_by : Bool → Bool → ℕ
kind_by r a = r gives 111 else a gives 112 else 113

order : (rj aj rk ak : Bool) → (rj ≡ true → rk ≡ true) → (aj ≡ true → ak ≡ true) → kind_by rk ak ≤ kind_by rj aj
order true aj true ak f g = omega arith
order true aj false ak f g = absurd (true≢false (sym (f refl)))
order false true true ak f g = omega arith
order false false true ak f g = omega arith
order false true false true f g = omega arith
order false true false false f g = absurd (true≢false (sym (g refl)))
order false false false true f g = omega arith
order false false false false f g = omega arith

kind_order : (w j k : ℕ) → j ≤ k → k < 64 → is_stray w k ≡ true → kind_of (code_in w) k ≤ kind_of (code_in w) j
kind_order w j k l h s =
    order (is_in j reserved) (is_above j (payload_of (code_in w))) (is_in k reserved) (is_above k (payload_of (code_in w)))
    (λ e. is_reserved k (let a = reserved_is j e in let b = stray_low w k h s in omega (arith, a, b)))
    (above_more j k (payload_of (code_in w)) l)

-- ---- the three tests

has_kind_lem : (w k : ℕ) → k < 64 → is_stray w k ≡ true → has_kind (kind_of (code_in w) k) w ≡ true
unfolding has_kind
has_kind_lem w k h s =
    one_below 64 (λ j. is_stray w j && eqb (kind_of (code_in w) j) (kind_of (code_in w) k)) k h
    (ap (λ (b : Bool). b && eqb (kind_of (code_in w) k) (kind_of (code_in w) k)) s ∙ eq-eqb (kind_of (code_in w) k) (kind_of (code_in w) k) refl)

no_kind : (w n k : ℕ) → (is_stray w k ≡ true → kind_of (code_in w) k ≡ n → ⊥) → (is_stray w k && eqb (kind_of (code_in w) k) n) ≡ false
no_kind w n k f = by (is_stray w k) refl
  where
    by : (b : Bool) → is_stray w k ≡ b → (b && eqb (kind_of (code_in w) k) n) ≡ false
    by true e = ne_eqb (kind_of (code_in w) k) n (f e)
    by false e = refl

no_lower : (w h n : ℕ) → Highest 64 (is_stray w) h → n < kind_of (code_in w) h → has_kind n w ≡ false
unfolding has_kind
no_lower w h n x l = all_below_lem 64 (λ j. is_stray w j && eqb (kind_of (code_in w) j) n) (λ k b. no_kind w n k (λ s e. at k b s e (dec_lt h k)))
  where
    at : (k : ℕ) → k < 64 → is_stray w k ≡ true → kind_of (code_in w) k ≡ n → Dec (h < k) → ⊥
    at k b s e (yes a) = true≢false (sym s ∙ x.higher k b a)
    at k b s e (no a) =
        let o = kind_order w k h (omega arith) x.below x.passes in
        let z : ⊥ = omega (arith, o, e, l) in z

no_kinds : (w n : ℕ) → has_unnamed w ≡ false → has_kind n w ≡ false
unfolding has_kind has_unnamed
no_kinds w n u =
    all_below_lem 64 (λ j. is_stray w j && eqb (kind_of (code_in w) j) n)
    (λ k b. no_kind w n k (λ s e. true≢false (sym s ∙ none_below 64 (is_stray w) u k b)))

-- the first of the three that holds, and else another number
abbrev pub first_kind : ℕ → ℕ → ℕ
first_kind w after = has_kind 111 w gives 111 else has_kind 112 w gives 112 else has_kind 113 w gives 113 else after

pub stray_highest : (w : ℕ) → has_unnamed w ≡ true → Highest word_bits (is_stray w) (highest_stray w)
unfolding has_unnamed highest_stray
stray_highest w u = highest_is 64 (is_stray w) u

pub stray_none : (w : ℕ) → has_unnamed w ≡ false → highest_stray w ≡ 0
unfolding has_unnamed highest_stray
stray_none w u = highest_none 64 (is_stray w) u

pub stray_inside : (w : ℕ) → highest_stray w < word_bits
unfolding highest_stray
stray_inside w = highest_below_lem 63 (is_stray w)

pub kind_told : (w after : ℕ) → has_unnamed w ≡ true → first_kind w after ≡ kind_of (code_in w) (highest_stray w)
kind_told w after u =
    let x = stray_highest w u in
    by (is_in (highest_stray w) reserved) (is_above (highest_stray w) (payload_of (code_in w)))
    (has_kind_lem w (highest_stray w) x.below x.passes)
    (λ n l. no_lower w (highest_stray w) n x l)
  where
    by : (r a : Bool) → has_kind (kind_by r a) w ≡ true → ((n : ℕ) → n < kind_by r a → has_kind n w ≡ false) → first_kind w after ≡ kind_by r a
    by true a t f = rw t
    by false true t f = rw (f 111 (omega arith), t)
    by false false t f = rw (f 111 (omega arith), f 112 (omega arith), t)

pub none_told : (w after : ℕ) → has_unnamed w ≡ false → first_kind w after ≡ after
none_told w after u = rw (no_kinds w 111 u, no_kinds w 112 u, no_kinds w 113 u)

pub kind_range : (code k : ℕ) → (111 ≤ kind_of code k) × (kind_of code k ≤ 113)
kind_range code k = by (is_in k reserved) (is_above k (payload_of code))
  where
    by : (r a : Bool) → (111 ≤ kind_by r a) × (kind_by r a ≤ 113)
    by true a = (omega arith, omega arith)
    by false true = (omega arith, omega arith)
    by false false = (omega arith, omega arith)

-- every kind tells its bit
pub kind_tells : (code k : ℕ) → tells_bit (kind_of code k) ≡ true
kind_tells code k = by (is_in k reserved) (is_above k (payload_of code))
  where
    by : (r a : Bool) → tells_bit (kind_by r a) ≡ true
    by true a = refl
    by false true = refl
    by false false = refl
