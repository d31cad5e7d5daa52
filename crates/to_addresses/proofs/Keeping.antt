-- Laws of what is kept of labels: three numbers for each, its own two and the address that it means, as far as there is room.
-- Assumes nothing.
use Prim.Native.Nat.{ℕ, ◌+◌, ◌*◌, ◌/◌, ◌≤◌, ◌<◌}
use mathlib.Core.Path.{◌≡◌, refl, sym, ap, ap₂, subst, ◌∙◌}
use mathlib.Core.Bool.{Bool, true, false, not}
use mathlib.Core.List.{List, ◌∷◌}
use native.Mathlib.Omega.{arith}
use borrow.Author.Tests.{eqb-true, eqb-false, eq-eqb, ne_eqb, le-leb, lt-leb}
use lib.Dec.{eqb, leb}
use lib.ListN.{length, get_or, set, drop, length-set}
use lib.Seq.{get_or-drop, get_or-set_same, get_or-set_other}
use Rattle.instruction.specs.Bits.{pick}
use Rattle.text.specs.Cut.{line_feed, place_of}
use Rattle.label.specs.Key.{key_of, key_at, means_at, count}
use Rattle.label.specs.declared.Key.{Key}
use Rattle.editions.specs.Moves.{Definition}
use Rattle.to_addresses.specs.Moving.{nothing, passed_by, defines_in, label_to, DefinesAt, defined_in, Along, kept_label, collected_row, Kept}
use Rattle.to_addresses.specs.declared.Defining.{Defining}
use Rattle.to_addresses.specs.declared.Passed.{Passed}
use Rattle.to_addresses.proofs.Passing.{next_defined}

-- the first of what is left
pub head_is : (ds : List Definition) (n : ℕ) (d : Definition) (rest : List Definition) → drop n ds ≡ d ∷ rest → get_or ds n nothing ≡ d
head_is ds n d rest e =
    let q : n ≡ n + 0 = omega arith in
    ap (λ (m : ℕ). get_or ds m nothing) q ∙ sym (get_or-drop n ds 0 nothing) ∙ ap (λ (l : List Definition). get_or l 0 nothing) e

pub first_is : (all : List ℕ) (n : ℕ) {v : ℕ} {rest : List ℕ} → drop n all ≡ v ∷ rest → get_or all n 0 ≡ v
first_is all n e = let q : n ≡ n + 0 = omega arith in ap (λ (i : ℕ). get_or all i 0) q ∙ sym (get_or-drop n all 0 0) ∙ ap (λ (x : List ℕ). get_or x 0 0) e

-- ---- numbers

key_of_lem : ℕ → ℕ → Key
key_of_lem a b = record { lo = a; hi = b }

-- all three of label j
abbrev three : List ℕ → ℕ → Key → ℕ → List ℕ
three keys j k a = set (set (set keys (3 * j) k.lo) (3 * j + 1) k.hi) (3 * j + 2) a

module _ (keys : List ℕ) (j : ℕ) (k : Key) (a : ℕ) where
  two_length : length (set (set keys (3 * j) k.lo) (3 * j + 1) k.hi) ≡ length keys
  two_length = length-set (set keys (3 * j) k.lo) (3 * j + 1) k.hi ∙ length-set keys (3 * j) k.lo

  keys_length : length (kept_label keys j k a) ≡ length keys
  keys_length = by (leb (count keys) j)
    where
      by : (t : Bool) → length (pick t keys (three keys j k a)) ≡ length keys
      by true = refl
      by false = length-set (set (set keys (3 * j) k.lo) (3 * j + 1) k.hi) (3 * j + 2) a ∙ two_length

  pub keys_count : count (kept_label keys j k a) ≡ count keys
  keys_count = ap (λ (n : ℕ). n / 3) keys_length

  -- a number of another label, or another one of this
  past_three : (i : ℕ) → (i ≡ 3 * j → ⊥) → (i ≡ 3 * j + 1 → ⊥) → (i ≡ 3 * j + 2 → ⊥) → get_or (three keys j k a) i 0 ≡ get_or keys i 0
  past_three i x y z =
      get_or-set_other (set (set keys (3 * j) k.lo) (3 * j + 1) k.hi) (3 * j + 2) i a 0 z
      ∙ get_or-set_other (set keys (3 * j) k.lo) (3 * j + 1) i k.hi 0 y
      ∙ get_or-set_other keys (3 * j) i k.lo 0 x

  module _ (l : j < count keys) where
    chosen : kept_label keys j k a ≡ three keys j k a
    chosen = ap (λ (t : Bool). pick t keys (three keys j k a)) (lt-leb (count keys) j l)

    kept_here : key_at (kept_label keys j k a) j ≡ k
    unfolding key_of_lem
    kept_here =
        ap (λ (ks : List ℕ). key_at ks j) chosen
        ∙ ap₂ key_of_lem
        (get_or-set_other (set (set keys (3 * j) k.lo) (3 * j + 1) k.hi) (3 * j + 2) (3 * j) a 0 (λ q. omega arith)
        ∙ get_or-set_other (set keys (3 * j) k.lo) (3 * j + 1) (3 * j) k.hi 0 (λ q. omega arith) ∙ get_or-set_same keys (3 * j) k.lo 0 (omega arith))
        (get_or-set_other (set (set keys (3 * j) k.lo) (3 * j + 1) k.hi) (3 * j + 2) (3 * j + 1) a 0 (λ q. omega arith)
        ∙ get_or-set_same (set keys (3 * j) k.lo) (3 * j + 1) k.hi 0 (omega (arith, length-set keys (3 * j) k.lo)))

    means_here : means_at (kept_label keys j k a) j ≡ a
    means_here =
        ap (λ (ks : List ℕ). means_at ks j) chosen
        ∙ get_or-set_same (set (set keys (3 * j) k.lo) (3 * j + 1) k.hi) (3 * j + 2) a 0 (omega (arith, two_length))

  module _ (i : ℕ) (n : i ≡ j → ⊥) where
    kept_other : key_at (kept_label keys j k a) i ≡ key_at keys i
    unfolding key_of_lem
    kept_other = by (leb (count keys) j)
      where
        by : (t : Bool) → key_at (pick t keys (three keys j k a)) i ≡ key_at keys i
        by true = refl
        by false =
            ap₂ key_of_lem
            (past_three (3 * i) (λ q. n (omega arith)) (λ q. omega arith) (λ q. omega arith))
            (past_three (3 * i + 1) (λ q. omega arith) (λ q. n (omega arith)) (λ q. omega arith))

    means_other : means_at (kept_label keys j k a) i ≡ means_at keys i
    means_other = by (leb (count keys) j)
      where
        by : (t : Bool) → means_at (pick t keys (three keys j k a)) i ≡ means_at keys i
        by true = refl
        by false = past_three (3 * i + 2) (λ q. omega arith) (λ q. omega arith) (λ q. n (omega arith))

-- ---- one more

module _ (ds : List Definition) (n : ℕ) (d : Definition) (rest : List Definition) (e : drop n ds ≡ d ∷ rest) where
  module _ (keys : List ℕ) (h : Kept keys ds n) where
    abbrev more : List ℕ
    more = kept_label keys n (key_of d.called) d.means

    one_more : Kept more ds (n + 1)
    one_more j l m = by (eqb j n) refl
      where
        few : j < count keys
        few = omega (arith, m, keys_count keys n (key_of d.called) d.means)

        by : (t : Bool) → eqb j n ≡ t → (key_at more j ≡ key_of (get_or ds j nothing).called) × (means_at more j ≡ (get_or ds j nothing).means)
        by true t =
            let q : j ≡ n = eqb-true j n t in
            let is : get_or ds j nothing ≡ d = ap (λ (i : ℕ). get_or ds i nothing) q ∙ head_is ds n d rest e in (
              ap (key_at more) q ∙ kept_here keys n (key_of d.called) d.means (omega (arith, few)) ∙ sym (ap (λ (x : Definition). key_of x.called) is),
              ap (means_at more) q ∙ means_here keys n (key_of d.called) d.means (omega (arith, few)) ∙ sym (ap (λ (x : Definition). x.means) is),
            )
        by false t =
            let q : j ≡ n → ⊥ = eqb-false j n t in
            let k = h j (omega arith) few in
            (kept_other keys n (key_of d.called) d.means j q ∙ k.0, means_other keys n (key_of d.called) d.means j q ∙ k.1)

-- ---- a line

module _ (text : List ℕ) (from : ℕ) {at : ℕ} {past : Passed} (a : Along text from at past) (h : at < length text) {end : ℕ} (f : end ≡ place_of line_feed at text)
    {line : Defining} (d : DefinesAt text at end line) (keys : List ℕ) {keys' : List ℕ} (c : keys' ≡ collected_row text end line past keys) where
  pub kept_row : Kept keys (defined_in text from) past.labels → Kept keys' (defined_in text from) (passed_by (defines_in line) line.word past).labels
  kept_row k = subst (λ (ks : List ℕ). Kept ks (defined_in text from) (passed_by (defines_in line) line.word past).labels) (sym c) (by (defines_in line) line.word refl)
    where
      by : (t u : Bool) → defines_in line ≡ t
          → Kept (pick t (kept_label keys past.labels (key_of (label_to text line.from end)) past.words) keys) (defined_in text from) (passed_by t u past).labels
      by true u e =
          subst (λ (l : List ℕ). Kept (kept_label keys past.labels (key_of l) past.words) (defined_in text from) (past.labels + 1)) (sym (d.label e))
          (one_more (defined_in text from) past.labels _ _ (next_defined text from a h f (sym d.defining ∙ e)) keys k)
      by false true e = k
      by false false e = k

-- ---- as it is done

module _ (text : List ℕ) (end : ℕ) (line : Defining) (past : Passed) (keys : List ℕ) where
  abbrev label : List ℕ
  label = kept_label keys past.labels (key_of (label_to text line.from end)) past.words

  pub collects_none : line.from ≡ 0 → keys ≡ collected_row text end line past keys
  collects_none e = sym (ap (λ (t : Bool). pick (not t) label keys) (eq-eqb line.from 0 e))

  pub collects_here : (line.from ≡ 0 → ⊥) → {k : Key} {keys' : List ℕ} → k ≡ key_of (label_to text line.from end) → keys' ≡ kept_label keys past.labels k past.words
      → keys' ≡ collected_row text end line past keys
  collects_here e k f =
      f ∙ ap (λ (x : Key). kept_label keys past.labels x past.words) k
      ∙ sym (ap (λ (t : Bool). pick (not t) label keys) (ne_eqb line.from 0 e))

module _ (keys : List ℕ) (j : ℕ) (k : Key) (a : ℕ) where
  pub label_none : count keys ≤ j → keys ≡ kept_label keys j k a
  label_none l = sym (ap (λ (t : Bool). pick t keys (three keys j k a)) (le-leb (count keys) j l))

  pub label_here : j < count keys → set (set (set keys (3 * j) k.lo) (3 * j + 1) k.hi) (3 * j + 2) a ≡ kept_label keys j k a
  label_here l = sym (chosen keys j k a l)
