-- A label and its two numbers are one and the same: what is first among the numbers is first among the labels.
-- Assumes nothing.
use Prim.Native.Nat.{ℕ, zero, suc, min, ◌+◌, ◌-◌, ◌*◌, ◌≤◌, ◌<◌}
use mathlib.Core.Path.{◌≡◌, refl, sym, ap, ap₂, ◌∙◌}
use mathlib.Core.Bool.{Bool, true, false, ◌&&◌, ◌||◌}
use mathlib.Core.List.{List, [], ◌∷◌, ◌++◌}
use mathlib.Core.Logic.{◌⊎◌, inl, inr, ⊎_elim}
use native.Mathlib.Omega.{arith}
use native.Mathlib.Decide.{dec_lt}
use borrow.Author.Tests.{leb-true}
use lib.Dec.{leb}
use lib.ListN.{length, get_or, take, drop, take-append-drop, drop_of_length-le, length-drop}
use lib.Seq.{drop-cons, take_all}
use Rattle.instruction.specs.Bits.{pick}
use Rattle.text.specs.Cut.{same_text}
use Rattle.text.specs.Number.{between, is_digit}
use Rattle.text.proofs.Alike.{same_text_lem, same_self}
use Rattle.text.proofs.Bools.{both, never}
use Rattle.label.specs.First.{first_name, IsFirst}
use Rattle.label.specs.Label.{label_size, is_letter, is_label_byte, all_label_bytes, is_label}
use Rattle.label.specs.Key.{half, value_of, key_of, key_at, count, Holds}
use Rattle.label.specs.declared.Key.{Key}
use Rattle.label.proofs.Firsts.{first_one}

-- ---- bytes as a number

-- more than the number of n bytes
abbrev pub cap : ℕ → ℕ
cap zero = 1
cap (suc n) = 256 * cap n

cap_more : (n : ℕ) → 1 ≤ cap n
cap_more zero = omega arith
cap_more (suc n) = let h = cap_more n in omega arith

cap_grows : (n m : ℕ) → n ≤ m → cap n ≤ cap m
cap_grows zero m l = cap_more m
cap_grows (suc n) zero l = absurd (omega arith)
cap_grows (suc n) (suc m) l = let h = cap_grows n m (omega arith) in omega arith

pub cap_seven : (n v : ℕ) → n ≤ 7 → v < cap n → v < 72057594037927936
cap_seven n v l h = let m : cap n ≤ 72057594037927936 = cap_grows n 7 l in omega arith

-- one byte more in front of those read
module _ (name : List ℕ) (i value : ℕ) (l : 0 < i) (m : i ≤ length name) where
  abbrev b : ℕ
  b = get_or name (i - 1) 0

  pub value_next : value ≡ value_of (drop i name) → value * 256 + b ≡ value_of (drop (i - 1) name)
  value_next h =
      let q : suc (i - 1) ≡ i = omega arith in
      let s : value_of (drop (i - 1) name) ≡ b + 256 * value_of (drop (suc (i - 1)) name) = ap value_of (drop-cons name (i - 1) 0 (omega arith)) in
      let t : value_of (drop (suc (i - 1)) name) ≡ value_of (drop i name) = ap (λ (j : ℕ). value_of (drop j name)) q in
      omega arith

  pub cap_next : b < 256 → value < cap (length name - i) → value * 256 + b < cap (length name - (i - 1))
  cap_next k h =
      let q : length name - (i - 1) ≡ suc (length name - i) = omega arith in
      let s : cap (length name - (i - 1)) ≡ 256 * cap (length name - i) = ap cap q in
      omega arith

-- the two parts of a label, of which the second may be empty
pub key_parts : (name : List ℕ) {lo hi : ℕ} → lo ≡ value_of (take (min (length name) half - 0) name) → hi ≡ value_of (take (length name - min (length name) half) (drop (min (length name) half) name))
    → record { lo = lo; hi = hi } ≡ key_of name
key_parts name {lo = lo} {hi = hi} e f = (λ j. record { lo = (e ∙ ap value_of front) j; hi = (f ∙ ap value_of back) j })
  where
    front : take (min (length name) half - 0) name ≡ take half name
    front = by (dec_lt (length name) half)
      where
        by : Dec (length name < half) → take (min (length name) half - 0) name ≡ take half name
        by (yes l) = take_all (min (length name) half - 0) name (omega arith) ∙ sym (take_all half name (omega arith))
        by (no l) = let e : min (length name) half - 0 ≡ half = omega arith in ap (λ (k : ℕ). take k name) e

    back : take (length name - min (length name) half) (drop (min (length name) half) name) ≡ drop half name
    back = take_all (length name - min (length name) half) (drop (min (length name) half) name) (omega (arith, length-drop (min (length name) half) name)) ∙ by (dec_lt (length name) half)
      where
        by : Dec (length name < half) → drop (min (length name) half) name ≡ drop half name
        by (yes l) = drop_of_length-le name {i = min (length name) half} (omega arith) ∙ sym (drop_of_length-le name {i = half} (omega arith))
        by (no l) = let e : min (length name) half ≡ half = omega arith in ap (λ (k : ℕ). drop k name) e

-- ---- one-to-one

-- bytes that are no zero and below 256
data Bytes : List ℕ → Type 0 where
  none : Bytes []
  more : {b : ℕ} {bs : List ℕ} → 0 < b → b < 256 → Bytes bs → Bytes (b ∷ bs)

value_one : (a b : List ℕ) → Bytes a → Bytes b → value_of a ≡ value_of b → a ≡ b
value_one [] [] p q e = refl
value_one [] (y ∷ ys) p (more l m q) e = absurd (omega arith)
value_one (x ∷ xs) [] (more l m p) q e = absurd (omega arith)
value_one (x ∷ xs) (y ∷ ys) (more l m p) (more n o q) e =
    let h : x ≡ y = omega arith in
    let t : value_of xs ≡ value_of ys = omega arith in
    ap₂ (λ (z : ℕ) (zs : List ℕ). z ∷ zs) h (value_one xs ys p q t)

take_bytes : (n : ℕ) (a : List ℕ) → Bytes a → Bytes (take n a)
take_bytes zero a p = none
take_bytes (suc n) [] p = none
take_bytes (suc n) (x ∷ xs) (more l m p) = more l m (take_bytes n xs p)

drop_bytes : (n : ℕ) (a : List ℕ) → Bytes a → Bytes (drop n a)
drop_bytes zero a p = p
drop_bytes (suc n) [] p = none
drop_bytes (suc n) (x ∷ xs) (more l m p) = drop_bytes n xs p

key_one : (a b : List ℕ) → Bytes a → Bytes b → key_of a ≡ key_of b → a ≡ b
key_one a b p q e =
    sym (take-append-drop half a)
    ∙ ap₂ (λ (s t : List ℕ). s ++ t)
    (value_one (take half a) (take half b) (take_bytes half a p) (take_bytes half b q) (ap (λ (k : Key). k.lo) e))
    (value_one (drop half a) (drop half b) (drop_bytes half a p) (drop_bytes half b q) (ap (λ (k : Key). k.hi) e))
    ∙ take-append-drop half b

-- ---- letters and digits

some : (s t : Bool) → (s || t) ≡ true → (s ≡ true) ⊎ (t ≡ true)
some true t h = inl refl
some false t h = inr h

in_range : (a b x : ℕ) → between a b x ≡ true → 0 < a → b < 256 → (0 < x) × (x < 256)
in_range a b x h l m =
    let w = both (leb a x) (leb x b) h in
    let p : a ≤ x = leb-true a x w.0 in
    let q : x ≤ b = leb-true x b w.1 in
    (omega arith, omega arith)

label_byte : (x : ℕ) → is_label_byte x ≡ true → (0 < x) × (x < 256)
label_byte x h =
    ⊎_elim
    (λ p. in_range 48 57 x p (omega arith) (omega arith))
    (λ p. ⊎_elim (λ q. in_range 65 90 x q (omega arith) (omega arith)) (λ q. in_range 97 122 x q (omega arith) (omega arith)) (some (between 65 90 x) (between 97 122 x) p))
    (some (is_digit x) (is_letter x) h)

all_bytes : (a : List ℕ) → all_label_bytes a ≡ true → Bytes a
all_bytes [] h = none
all_bytes (x ∷ xs) h =
    let w = both (is_label_byte x) (all_label_bytes xs) h in
    let p = label_byte x w.0 in
    more p.0 p.1 (all_bytes xs w.1)

label_bytes : (a : List ℕ) → is_label a ≡ true → Bytes a
label_bytes a h = all_bytes a (both (leb (length a) label_size) (all_label_bytes a) (both (leb 1 (length a)) (leb (length a) label_size && all_label_bytes a) h).1).1

-- a label is no longer than the longest
pub label_size_lem : (a : List ℕ) → is_label a ≡ true → length a ≤ label_size
label_size_lem a h = leb-true (length a) label_size (both (leb (length a) label_size) (all_label_bytes a) (both (leb 1 (length a)) (leb (length a) label_size && all_label_bytes a) h).1).0

-- and has a letter
pub label_some : (a : List ℕ) → is_label a ≡ true → 1 ≤ length a
label_some a h = leb-true 1 (length a) (both (leb 1 (length a)) (leb (length a) label_size && all_label_bytes a) h).0

-- ---- the first of a label

not_same : (a b : List ℕ) → same_text a b ≡ false → a ≡ b → ⊥
not_same a b h e = never (sym (ap (λ (x : List ℕ). same_text x b) e ∙ same_self b) ∙ h)

first_next : (x : List ℕ) (xs : List (List ℕ)) (k : List ℕ) → IsFirst (λ j. get_or xs j []) (length xs) k (first_name xs k) → (t : Bool) → same_text x k ≡ t
    → IsFirst (λ j. get_or (x ∷ xs) j []) (suc (length xs)) k (pick t 0 (suc (first_name xs k)))
first_next x xs k f true e = record { low = omega arith; here = λ l. same_text_lem x k e; none = λ j l h. omega arith }
first_next x xs k f false e =
    record {
      low = let h = f.low in omega arith;
      here = λ l. f.here (omega arith);
      none = λ j. none j;
    }
  where
    none : (j : ℕ) → j < suc (first_name xs k) → get_or (x ∷ xs) j [] ≡ k → ⊥
    none zero l h = not_same x k e h
    none (suc j) l h = f.none j (omega arith) h

pub first_name_lem : (labels : List (List ℕ)) (k : List ℕ) → IsFirst (λ j. get_or labels j []) (length labels) k (first_name labels k)
first_name_lem [] k = record { low = omega arith; here = λ l. absurd (omega arith); none = λ j l e. omega arith }
first_name_lem (x ∷ xs) k = first_next x xs k (first_name_lem xs k) (same_text x k) refl

module _ (labels : List (List ℕ)) (keys : List ℕ) (h : Holds labels keys) where
  -- labels that have the same numbers are the same
  pub label_one : (i j : ℕ) → i < length labels → j < length labels → key_at keys i ≡ key_at keys j → get_or labels i [] ≡ get_or labels j []
  label_one i j l m e =
      key_one (get_or labels i []) (get_or labels j []) (label_bytes (get_or labels i []) (h.shaped i l)) (label_bytes (get_or labels j []) (h.shaped j m))
      (sym (h.each i l) ∙ e ∙ h.each j m)

  -- what is first among the numbers is first among the labels
  pub label_found : (label : List ℕ) (r : ℕ) → is_label label ≡ true → IsFirst (key_at keys) (count keys) (key_of label) r → r ≡ first_name labels label
  label_found label r n f =
      first_one (λ j. get_or labels j []) (length labels) label r (first_name labels label)
      (record {
        low = let m = f.low in let c = h.many in omega arith;
        here = λ l. key_one (get_or labels r []) label (label_bytes (get_or labels r []) (h.shaped r l)) (label_bytes label n) (sym (h.each r l) ∙ f.here (let c = h.many in omega arith));
        none = λ j l e. f.none j l (h.each j (let m = f.low in let c = h.many in omega arith) ∙ ap key_of e);
      })
      (first_name_lem labels label)
