-- Laws of cutting: what was joined is cut into its pieces, what was cut is joined again, and where a cut is made.
-- Assumes nothing.
use Prim.Native.Nat.{ℕ, zero, suc, ◌+◌, ◌-◌, ◌≤◌, ◌<◌}
use mathlib.Core.Path.{◌≡◌, refl, sym, ap, ◌∙◌}
use mathlib.Core.Bool.{Bool, true, false, not, ◌||◌, ◌&&◌}
use mathlib.Core.List.{List, [], ◌∷◌, ◌++◌, append-nil}
use native.Mathlib.Omega.{arith}
use native.Mathlib.Numerals.{add-one}
use borrow.Author.Tests.{eq-eqb, ne_eqb, eqb-true, eqb-false, not-true}
use lib.Dec.{eqb}
use lib.ListN.{length, take, drop, get_or, drop_of_length-le, length-append, length-drop}
use lib.Seq.{drop-cons, drop-drop, take-nil}
use Rattle.instruction.specs.Bits.{pick}
use Rattle.text.specs.Cut.{onto, cut, joined, has, before, place_of}
use Rattle.text.proofs.Bools.{both, never}

-- ---- what is said of a text and a byte

-- what stands behind the first of it
abbrev pub behind : ℕ → List ℕ → List ℕ
behind x [] = []
behind x (b ∷ bs) = pick (eqb b x) bs (behind x bs)

-- none of the pieces has it
abbrev pub none_has : ℕ → List (List ℕ) → Bool
none_has x [] = true
none_has x (p ∷ ps) = pick (has x p) false (none_has x ps)

-- ---- the first piece

-- what a cut is made of: the piece before the first, and, where there is one, the cut of what stands behind it
pub cut_first : (x : ℕ) (bs : List ℕ) → cut x bs ≡ before x bs ∷ pick (has x bs) (cut x (behind x bs)) []
cut_first x [] = refl
cut_first x (b ∷ bs) = by (eqb b x) (cut_first x bs)
  where
    by : (t : Bool) → cut x bs ≡ before x bs ∷ pick (has x bs) (cut x (behind x bs)) []
        → pick t ([] ∷ cut x bs) (onto b (cut x bs)) ≡ pick t [] (b ∷ before x bs) ∷ pick (t || has x bs) (cut x (pick t bs (behind x bs))) []
    by true ih = refl
    by false ih = ap (onto b) ih

-- a text that has it is what stands before it, it, and what stands behind
pub has_whole : (x : ℕ) (bs : List ℕ) → has x bs ≡ true → bs ≡ before x bs ++ (x ∷ behind x bs)
has_whole x [] e = never (sym e)
has_whole x (b ∷ bs) e = by (eqb b x) refl e (has_whole x bs)
  where
    by : (t : Bool) → eqb b x ≡ t → (t || has x bs) ≡ true → (has x bs ≡ true → bs ≡ before x bs ++ (x ∷ behind x bs))
        → (b ∷ bs) ≡ pick t [] (b ∷ before x bs) ++ (x ∷ pick t bs (behind x bs))
    by true f g ih = ap (λ (k : ℕ). k ∷ bs) (eqb-true b x f)
    by false f g ih = ap (λ (l : List ℕ). b ∷ l) (ih g)

-- a piece without it stands before it
before_past : (x : ℕ) (p bs : List ℕ) → has x p ≡ false → before x (p ++ bs) ≡ p ++ before x bs
before_past x [] bs e = refl
before_past x (b ∷ p) bs e = by (eqb b x) e (before_past x p bs)
  where
    by : (t : Bool) → (t || has x p) ≡ false → (has x p ≡ false → before x (p ++ bs) ≡ p ++ before x bs) → pick t [] (b ∷ before x (p ++ bs)) ≡ b ∷ (p ++ before x bs)
    by true f ih = never f
    by false f ih = ap (λ (l : List ℕ). b ∷ l) (ih f)

pub before_piece : (x : ℕ) (p bs : List ℕ) → has x p ≡ false → before x (p ++ (x ∷ bs)) ≡ p
before_piece x p bs e = before_past x p (x ∷ bs) e ∙ ap (λ (t : Bool). p ++ pick t [] (x ∷ before x bs)) (eq-eqb x x refl) ∙ append-nil p

pub behind_piece : (x : ℕ) (p bs : List ℕ) → has x p ≡ false → behind x (p ++ (x ∷ bs)) ≡ bs
behind_piece x [] bs e = rw (eq-eqb x x refl)
behind_piece x (b ∷ p) bs e = by (eqb b x) e (behind_piece x p bs)
  where
    by : (t : Bool) → (t || has x p) ≡ false → (has x p ≡ false → behind x (p ++ (x ∷ bs)) ≡ bs) → pick t (p ++ (x ∷ bs)) (behind x (p ++ (x ∷ bs))) ≡ bs
    by true f ih = never f
    by false f ih = ih f

-- ---- joined, and cut

-- a piece without the byte, the byte, and more
pub cut_piece : (x : ℕ) (p bs : List ℕ) → has x p ≡ false → cut x (p ++ (x ∷ bs)) ≡ p ∷ cut x bs
cut_piece x [] bs e = rw (eq-eqb x x refl)
cut_piece x (b ∷ p) bs e = by (eqb b x) e (cut_piece x p bs)
  where
    by : (t : Bool) → (t || has x p) ≡ false → (has x p ≡ false → cut x (p ++ (x ∷ bs)) ≡ p ∷ cut x bs)
        → pick t ([] ∷ cut x (p ++ (x ∷ bs))) (onto b (cut x (p ++ (x ∷ bs)))) ≡ (b ∷ p) ∷ cut x bs
    by true f ih = never f
    by false f ih = ap (onto b) (ih f)

cut_last : (x : ℕ) (p : List ℕ) → has x p ≡ false → cut x p ≡ p ∷ []
cut_last x [] e = refl
cut_last x (b ∷ p) e = by (eqb b x) e (cut_last x p)
  where
    by : (t : Bool) → (t || has x p) ≡ false → (has x p ≡ false → cut x p ≡ p ∷ [])
        → pick t ([] ∷ cut x p) (onto b (cut x p)) ≡ (b ∷ p) ∷ []
    by true f ih = never f
    by false f ih = ap (onto b) (ih f)

none : (x : ℕ) (p : List ℕ) (ps : List (List ℕ)) → none_has x (p ∷ ps) ≡ true → (has x p ≡ false) × (none_has x ps ≡ true)
none x p ps e = by (has x p) refl e
  where
    by : (t : Bool) → has x p ≡ t → pick t false (none_has x ps) ≡ true → (has x p ≡ false) × (none_has x ps ≡ true)
    by true f g = never (sym g)
    by false f g = (f, g)

-- pieces that were joined are cut apart again
pub cut_joined : (x : ℕ) (p : List ℕ) (ps : List (List ℕ)) → none_has x (p ∷ ps) ≡ true → cut x (joined x (p ∷ ps)) ≡ p ∷ ps
cut_joined x p [] e = cut_last x p (none x p [] e).0
cut_joined x p (q ∷ ps) e =
    let h = none x p (q ∷ ps) e in
    cut_piece x p (joined x (q ∷ ps)) h.0 ∙ ap (λ (l : List (List ℕ)). p ∷ l) (cut_joined x q ps h.1)

-- what was cut is joined again
joined_onto : (x b : ℕ) (ps : List (List ℕ)) → joined x (onto b ps) ≡ b ∷ joined x ps
joined_onto x b [] = refl
joined_onto x b (p ∷ []) = refl
joined_onto x b (p ∷ q ∷ ps) = refl

pub joined_cut : (x : ℕ) (bs : List ℕ) → joined x (cut x bs) ≡ bs
joined_cut x [] = refl
joined_cut x (b ∷ bs) = by (eqb b x) refl (joined_cut x bs)
  where
    by : (t : Bool) → eqb b x ≡ t → joined x (cut x bs) ≡ bs → joined x (pick t ([] ∷ cut x bs) (onto b (cut x bs))) ≡ b ∷ bs
    by true e ih =
        ap (λ (l : List (List ℕ)). joined x ([] ∷ l)) (cut_first x bs)
        ∙ ap (λ (l : List (List ℕ)). x ∷ joined x l) (sym (cut_first x bs))
        ∙ ap (λ (l : List ℕ). x ∷ l) ih
        ∙ ap (λ (k : ℕ). k ∷ bs) (sym (eqb-true b x e))
    by false e ih = joined_onto x b (cut x bs) ∙ ap (λ (l : List ℕ). b ∷ l) ih

-- ---- a place that is looked for

before_here : (x b : ℕ) (bs : List ℕ) → b ≡ x → length (before x (b ∷ bs)) ≡ 0
before_here x b bs e = rw (eq-eqb b x e)

before_more : (x b : ℕ) (bs : List ℕ) → (b ≡ x → ⊥) → length (before x (b ∷ bs)) ≡ suc (length (before x bs))
before_more x b bs e = rw (ne_eqb b x e)

module _ (x : ℕ) (text : List ℕ) (i : ℕ) where
  pub place_none : length text ≤ i → i ≡ place_of x i text
  place_none h = omega (arith, ap (λ (l : List ℕ). length (before x l)) (drop_of_length-le text h))

  module _ (h : i < length text) where
    part : drop i text ≡ get_or text i 0 ∷ drop (i + 1) text
    part = drop-cons text i 0 h ∙ ap (λ (k : ℕ). get_or text i 0 ∷ drop k text) (sym (add-one i))

    pub place_here : get_or text i 0 ≡ x → i ≡ place_of x i text
    place_here e = omega (arith, ap (λ (l : List ℕ). length (before x l)) part, before_here x (get_or text i 0) (drop (i + 1) text) e)

    pub place_next : (get_or text i 0 ≡ x → ⊥) → place_of x (i + 1) text ≡ place_of x i text
    place_next e = omega (arith, ap (λ (l : List ℕ). length (before x l)) part, before_more x (get_or text i 0) (drop (i + 1) text) e)

-- a piece without the byte is passed over
pub place_past : (x : ℕ) (p text : List ℕ) (i j : ℕ) → has x p ≡ false → i ≤ length text → j ≤ length text → drop i text ≡ p ++ drop j text
    → place_of x i text ≡ place_of x j text
place_past x p text i j e h l w =
    omega (
      arith,
      ap (λ (bs : List ℕ). length (before x bs)) w,
      ap length (before_past x p (drop j text) e),
      length-append p (before x (drop j text)),
      ap length w,
      length-append p (drop j text),
      length-drop i text,
      length-drop j text,
    )

-- four bytes that are others
module _ (x : ℕ) (text : List ℕ) (i : ℕ) where
  abbrev other : ℕ → Bool
  other k = not (eqb (get_or text k 0) x)

  next : (k : ℕ) → k < length text → other k ≡ true → place_of x (k + 1) text ≡ place_of x k text
  next k h t = place_next x text k h (eqb-false (get_or text k 0) x (not-true _ t))

  pub place_four : i + 4 ≤ length text → (((other i && other (i + 1)) && other (i + 2)) && other (i + 3)) ≡ true → place_of x (i + 4) text ≡ place_of x i text
  place_four h t =
      let p = both ((other i && other (i + 1)) && other (i + 2)) (other (i + 3)) t in
      let q = both (other i && other (i + 1)) (other (i + 2)) p.0 in
      let r = both (other i) (other (i + 1)) q.0 in
      ap (λ (k : ℕ). place_of x k text) (one_less i 3)
      ∙ next (i + 3) (omega arith) p.1
      ∙ ap (λ (k : ℕ). place_of x k text) (one_less i 2)
      ∙ next (i + 2) (omega arith) q.1
      ∙ ap (λ (k : ℕ). place_of x k text) (one_less i 1)
      ∙ next (i + 1) (omega arith) r.1
      ∙ next i (omega arith) r.0
    where
      one_less : (i k : ℕ) → i + suc k ≡ i + k + 1
      one_less i k = omega arith

-- ---- a text that is cut at the place that was found

before_short : (x : ℕ) (bs : List ℕ) → length (before x bs) ≤ length bs
before_short x [] = omega arith
before_short x (b ∷ bs) = by (eqb b x) (before_short x bs)
  where
    by : (t : Bool) → length (before x bs) ≤ length bs → length (pick t [] (b ∷ before x bs)) ≤ suc (length bs)
    by true h = omega arith
    by false h = omega arith

take_before : (x : ℕ) (bs : List ℕ) → before x bs ≡ take (length (before x bs)) bs
take_before x [] = refl
take_before x (b ∷ bs) = by (eqb b x) (take_before x bs)
  where
    by : (t : Bool) → before x bs ≡ take (length (before x bs)) bs
        → pick t [] (b ∷ before x bs) ≡ take (length (pick t [] (b ∷ before x bs))) (b ∷ bs)
    by true ih = refl
    by false ih = ap (λ (l : List ℕ). b ∷ l) ih

has_before : (x : ℕ) (bs : List ℕ) → length (before x bs) < length bs → (has x bs ≡ true) × (behind x bs ≡ drop (suc (length (before x bs))) bs)
has_before x [] h = absurd (omega arith)
has_before x (b ∷ bs) h = by (eqb b x) h (has_before x bs)
  where
    by : (t : Bool) → length (pick t [] (b ∷ before x bs)) < suc (length bs)
        → (length (before x bs) < length bs → (has x bs ≡ true) × (behind x bs ≡ drop (suc (length (before x bs))) bs))
        → ((t || has x bs) ≡ true) × (pick t bs (behind x bs) ≡ drop (length (pick t [] (b ∷ before x bs))) bs)
    by true g ih = (refl, refl)
    by false g ih = ih (omega arith)

has_none : (x : ℕ) (bs : List ℕ) → length bs ≤ length (before x bs) → has x bs ≡ false
has_none x [] h = refl
has_none x (b ∷ bs) h = by (eqb b x) h (has_none x bs)
  where
    by : (t : Bool) → suc (length bs) ≤ length (pick t [] (b ∷ before x bs)) → (length bs ≤ length (before x bs) → has x bs ≡ false) → (t || has x bs) ≡ false
    by true g ih = absurd (omega arith)
    by false g ih = ih (omega arith)

module _ (x from : ℕ) (text : List ℕ) {r : ℕ} (f : r ≡ place_of x from text) where
  abbrev rest : List ℕ
  rest = drop from text

  pub found_order : from ≤ r
  found_order = omega (arith, f)

  size : length rest ≡ length text - from
  size = length-drop from text

  pub found_inside : from ≤ length text → r ≤ length text
  found_inside h = omega (arith, f, size, before_short x rest)

  -- the piece before the place that was found
  pub found_piece : take (r - from) (drop from text) ≡ before x (drop from text)
  found_piece = ap (λ (k : ℕ). take k rest) (back r from (length (before x rest)) f) ∙ sym (take_before x rest)
    where
      back : (r a b : ℕ) → r ≡ a + b → r - a ≡ b
      back r a b e = omega arith

  module _ (h : r < length text) where
    g : (has x rest ≡ true) × (behind x rest ≡ drop (suc (length (before x rest))) rest)
    g = has_before x rest (omega (arith, f, size))

    pub found_has : has x (drop from text) ≡ true
    found_has = g.0

    pub found_behind : behind x (drop from text) ≡ drop (r + 1) text
    found_behind = g.1 ∙ drop-drop (suc (length (before x rest))) from text ∙ ap (λ (k : ℕ). drop k text) (up r from (length (before x rest)) f)
      where
        up : (r a b : ℕ) → r ≡ a + b → a + suc b ≡ r + 1
        up r a b e = omega arith

    pub cut_found : cut x (drop from text) ≡ take (r - from) (drop from text) ∷ cut x (drop (r + 1) text)
    cut_found =
        cut_first x rest
        ∙ ap (λ (t : Bool). before x rest ∷ pick t (cut x (behind x rest)) []) found_has
        ∙ ap (λ (l : List ℕ). before x rest ∷ cut x l) found_behind
        ∙ ap (λ (l : List ℕ). l ∷ cut x (drop (r + 1) text)) (sym found_piece)

  module _ (h : length text ≤ r) (l : from ≤ length text) where
    pub found_none : has x (drop from text) ≡ false
    found_none = has_none x rest (omega (arith, f, size))

    pub cut_last_found : cut x (drop from text) ≡ drop from text ∷ []
    cut_last_found = cut_last x rest found_none

-- ---- a part of a part

pub drop_take : (n m : ℕ) (l : List ℕ) → drop n (take m l) ≡ take (m - n) (drop n l)
drop_take zero m l = let q : m ≡ m - 0 = omega arith in ap (λ (k : ℕ). take k l) q
drop_take (suc n) zero l = sym (ap (λ (k : ℕ). take k (drop (suc n) l)) (let q : 0 - suc n ≡ 0 = omega arith in q))
drop_take (suc n) (suc m) [] = sym (take-nil (suc m - suc n))
drop_take (suc n) (suc m) (x ∷ xs) = let q : m - n ≡ suc m - suc n = omega arith in drop_take n m xs ∙ ap (λ (k : ℕ). take k (drop n xs)) q
