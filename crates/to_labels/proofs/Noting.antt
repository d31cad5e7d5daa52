-- Laws of notes of words: one more is kept, and those before it stay as they are.
-- Assumes nothing.
use Prim.Native.Nat.{ℕ, ◌+◌, ◌*◌, ◌≤◌, ◌<◌}
use mathlib.Core.Path.{◌≡◌, refl, sym, ap, subst, ◌∙◌}
use mathlib.Core.Bool.{Bool, true, false}
use mathlib.Core.List.{List}
use native.Mathlib.Omega.{arith}
use native.Mathlib.Decide.{ℕ_discrete, dec_lt}
use native.Mathlib.Numerals.{add-one}
use borrow.Author.Tests.{le-leb, lt-leb}
use lib.Dec.{leb}
use lib.ListN.{length, get_or, set, length-set}
use lib.Seq.{get_or-set_same, get_or-set_other}
use Rattle.instruction.specs.Bits.{pick}
use Rattle.text.specs.Cut.{line_feed, place_of}
use Rattle.to_labels.specs.Loops.{PartsOf, place_at, note_count, parts_in, kept_note, Notes}
use Rattle.to_labels.specs.declared.Parts.{Parts}

same_parts : {f l e f' l' e' : ℕ} → f ≡ f' → l ≡ l' → e ≡ e' → ◌≡◌ {A = Parts} (record { from = f; last = l; end = e }) (record { from = f'; last = l'; end = e' })
same_parts {l = l} {e = e} {f' = f'} {l' = l'} p q r =
    ap (λ (k : ℕ). record { from = k; last = l; end = e }) p
    ∙ ap (λ (k : ℕ). record { from = f'; last = k; end = e }) q
    ∙ ap (λ (k : ℕ). record { from = f'; last = l'; end = k }) r

module _ (notes : List ℕ) (a : ℕ) (p : Parts) where
  one : List ℕ
  one = set notes (3 * a) p.from

  two : List ℕ
  two = set (set notes (3 * a) p.from) (3 * a + 1) p.last

  abbrev three : List ℕ
  three = set (set (set notes (3 * a) p.from) (3 * a + 1) p.last) (3 * a + 2) p.end

  -- no room for it, and room
  pub note_out : note_count notes ≤ a → notes ≡ kept_note notes a p
  note_out h = sym (ap (λ (t : Bool). pick t notes three) (le-leb (note_count notes) a h))

  pub note_here : a < note_count notes → three ≡ kept_note notes a p
  note_here h = sym (ap (λ (t : Bool). pick t notes three) (lt-leb (note_count notes) a h))

  pub note_sizes : (length (set notes (3 * a) p.from) ≡ length notes) × (length (set (set notes (3 * a) p.from) (3 * a + 1) p.last) ≡ length notes)
  note_sizes =
      let q = length-set notes (3 * a) p.from in
      (q, length-set (set notes (3 * a) p.from) (3 * a + 1) p.last ∙ q)

  pub kept_length : length (kept_note notes a p) ≡ length notes
  kept_length = by (leb (note_count notes) a)
    where
      by : (t : Bool) → length (pick t notes three) ≡ length notes
      by true = refl
      by false = length-set (set (set notes (3 * a) p.from) (3 * a + 1) p.last) (3 * a + 2) p.end ∙ note_sizes.1

  module _ (few : a < note_count notes) where
    sizes : (length one ≡ length notes) × (length two ≡ length notes)
    unfolding one two
    sizes = note_sizes

    -- what it says of this word
    this_note : parts_in three a ≡ p
    unfolding one two
    this_note =
        same_parts
        (get_or-set_other two (3 * a + 2) (3 * a) p.end 0 (λ q. omega arith) ∙ get_or-set_other one (3 * a + 1) (3 * a) p.last 0 (λ q. omega arith) ∙ get_or-set_same notes (3 * a) p.from 0 (omega arith))
        (get_or-set_other two (3 * a + 2) (3 * a + 1) p.end 0 (λ q. omega arith) ∙ get_or-set_same one (3 * a + 1) p.last 0 (omega (arith, sizes.0)))
        (get_or-set_same two (3 * a + 2) p.end 0 (omega (arith, sizes.1)))

    -- and of others nothing else
    other_place : (i : ℕ) → i < 3 * a → get_or three i 0 ≡ get_or notes i 0
    unfolding one two
    other_place i m =
        get_or-set_other two (3 * a + 2) i p.end 0 (λ q. omega arith) ∙ get_or-set_other one (3 * a + 1) i p.last 0 (λ q. omega arith)
        ∙ get_or-set_other notes (3 * a) i p.from 0 (λ q. omega arith)

    other_note : (b : ℕ) → b < a → parts_in three b ≡ parts_in notes b
    other_note b m = same_parts (other_place (3 * b) (omega arith)) (other_place (3 * b + 1) (omega arith)) (other_place (3 * b + 2) (omega arith))

-- where the next line starts
pub place_next : (text : List ℕ) (from a : ℕ) {at end : ℕ} → end ≡ place_of line_feed at text → at ≡ place_at text from a → end + 1 ≡ place_at text from (a + 1)
place_next text from a f here = ap (λ (k : ℕ). k + 1) (f ∙ ap (λ (k : ℕ). place_of line_feed k text) here) ∙ sym (ap (place_at text from) (add-one a))

-- one note more, as far as there is room
pub notes_next : (text : List ℕ) (from : ℕ) (notes : List ℕ) (a : ℕ) {at : ℕ} → at ≡ place_at text from a → Notes text from notes a
    → (p : Parts) → PartsOf text at p → {after : List ℕ} → after ≡ kept_note notes a p → Notes text from after (a + 1)
notes_next text from notes a {at = at} here before p this e = subst (λ (x : List ℕ). Notes text from x (a + 1)) (sym e) (by (dec_lt a (note_count notes)))
  where
    full : note_count notes ≤ a → Notes text from notes (a + 1)
    full h b m few = before b (omega (arith, h, few)) few

    kept : a < note_count notes → (b : ℕ) → b < a + 1 → b < note_count notes → PartsOf text (place_at text from b) (parts_in (kept_note notes a p) b)
    kept h b m few = subst (λ (x : List ℕ). PartsOf text (place_at text from b) (parts_in x b)) (note_here notes a p h) (is (ℕ_discrete b a))
      where
        is : Dec (b ≡ a) → PartsOf text (place_at text from b) (parts_in (three notes a p) b)
        is (yes q) =
            subst (λ (k : ℕ). PartsOf text (place_at text from k) (parts_in (three notes a p) k)) (sym q)
            (subst (PartsOf text (place_at text from a)) (sym (this_note notes a p h)) (subst (λ (k : ℕ). PartsOf text k p) here this))
        is (no q) = let lower : b < a = omega (arith, m, q) in subst (PartsOf text (place_at text from b)) (sym (other_note notes a p h b lower)) (before b lower few)

    by : Dec (a < note_count notes) → Notes text from (kept_note notes a p) (a + 1)
    by (yes h) = λ b m few. kept h b m (omega (arith, few, kept_length notes a p))
    by (no h) = subst (λ (x : List ℕ). Notes text from x (a + 1)) (note_out notes a p (omega arith)) (full (omega arith))
