-- Laws of numbers gathered one after the other from a line's fields.
-- Assumes nothing.
use Prim.Native.Nat.{ℕ, zero, suc, ◌+◌, ◌≤◌, ◌<◌}
use mathlib.Core.Path.{◌≡◌, refl, sym, ap, ap₂, ◌∙◌}
use mathlib.Core.Bool.{Bool, true, false, ◌&&◌}
use mathlib.Core.List.{List, [], ◌∷◌, ◌++◌, map, append_assoc, append-nil}
use native.Mathlib.Omega.{arith}
use native.Mathlib.Decide.{dec_lt}
use borrow.Author.Tests.{eqb-true, eq-eqb, ne_eqb, le-leb, lt-leb, lt-ltb}
use lib.Dec.{eqb, leb}
use lib.ListN.{length, get_or, set, take, drop, replicate, length-append, length-map, length-take, drop_of_length-le}
use lib.Seq.{get_or-drop, length-take-le}
use Rattle.std.specs.Prelude.{Some, None}
use Rattle.buffer.specs.Put.{put}
use Rattle.buffer.proofs.Laws.{put_none, length_put, put_more, put_front}
use Rattle.text.specs.Cut.{tab, cut, place_of, fields_after}
use Rattle.text.specs.Number.{value, is_number, field_at, counted_at}
use Rattle.text.specs.declared.Counted.{Counted}
use Rattle.text.proofs.Bools.{both, never, and_false}
use Rattle.text.proofs.Cuts.{cut_first, found_inside, found_piece}
use Rattle.text.proofs.Back.{number_said, number_not}
use Rattle.text.proofs.Rows.{after_last, after_next, field_next}
use Rattle.fields.specs.Fields.{all_numbers, NumbersRead}

-- the first field of a line, and those behind it
pub first_field : (line : List ℕ) → cut tab line ≡ field_at 0 line ∷ fields_after (place_of tab 0 line) line
first_field line = field_next line 0 refl (omega arith) ∙ ap (λ (p : List ℕ). p ∷ fields_after (place_of tab 0 line) line) (found_piece tab 0 line refl)

-- ---- numbers, one after the other

all_join : (xs ys : List (List ℕ)) → all_numbers (xs ++ ys) ≡ (all_numbers xs && all_numbers ys)
all_join [] ys = refl
all_join (x ∷ xs) ys = by (is_number x) (all_join xs ys)
  where
    by : (t : Bool) → all_numbers (xs ++ ys) ≡ (all_numbers xs && all_numbers ys) → (t && all_numbers (xs ++ ys)) ≡ ((t && all_numbers xs) && all_numbers ys)
    by true ih = ih
    by false ih = refl

values_join : (xs ys : List (List ℕ)) → map value (xs ++ ys) ≡ map value xs ++ map value ys
values_join [] ys = refl
values_join (x ∷ xs) ys = ap (λ (l : List ℕ). value x ∷ l) (values_join xs ys)

-- k numbers stand in front of place `at`, and their values are laid
pub record Gathered (line : List ℕ) (from count : ℕ) (before values : List ℕ) (at k : ℕ) : Type 0 where
  pub inside : at ≤ length line
  pub few : k ≤ count
  pub done : List (List ℕ)
  pub size : length done ≡ k
  pub good : all_numbers done ≡ true
  pub fields : fields_after from line ≡ done ++ fields_after at line
  pub wrote : values ≡ put before 0 (map value done)

refuted : {count : ℕ} {fs : List (List ℕ)} {before after : List ℕ} → (eqb (length fs) count && all_numbers fs) ≡ false → NumbersRead count fs before after false
refuted e = record { test = sym e; values = λ t. never (sym t) }

module _ (line : List ℕ) (from count : ℕ) (before : List ℕ) (h : from ≤ length line) (l : count ≤ length before) where
  pub gather_start : Gathered line from count before before from 0
  gather_start = record { inside = h; few = omega arith; done = []; size = refl; good = refl; fields = refl; wrote = sym (put_none before 0) }

  module _ {values : List ℕ} {at k : ℕ} (g : Gathered line from count before values at k) where
    pub gather_length : length values ≡ length before
    gather_length = ap length g.wrote ∙ length_put before (map value g.done) 0 (omega (arith, l, g.few, g.size, length-map g.done value))

    all_there : length line ≤ at → fields_after from line ≡ g.done
    all_there e = g.fields ∙ ap (λ (fs : List (List ℕ)). g.done ++ fs) (after_last line at e) ∙ append-nil g.done

    -- there is none any more
    pub gather_few : k < count → length line ≤ at → NumbersRead count (fields_after from line) before values false
    gather_few m e = refuted (ap (λ (t : Bool). t && all_numbers (fields_after from line)) (ne_eqb (length (fields_after from line)) count (λ q. omega (arith, q, ap length (all_there e), g.size))))

    module _ (e : at < length line) where
      abbrev field : List ℕ
      field = field_at (at + 1) line

      abbrev rest : List (List ℕ)
      rest = fields_after (place_of tab (at + 1) line) line

      next : fields_after from line ≡ g.done ++ (field ∷ rest)
      next =
          g.fields
          ∙ ap (λ (fs : List (List ℕ)). g.done ++ fs)
          (after_next line at e refl ∙ ap (λ (p : List ℕ). p ∷ rest) (found_piece tab (at + 1) line refl))

      -- the next is no number
      pub gather_not : {after : List ℕ} → None ≡ counted_at (at + 1) line → NumbersRead count (fields_after from line) before after false
      gather_not n =
          refuted
          (ap (λ (t : Bool). eqb (length (fields_after from line)) count && t)
          (ap all_numbers next ∙ all_join g.done (field ∷ rest)
          ∙ ap (λ (t : Bool). all_numbers g.done && (t && all_numbers rest)) (number_not tab (at + 1) line n) ∙ and_false (all_numbers g.done))
          ∙ and_false (eqb (length (fields_after from line)) count))

      -- the next is one
      module _ {r : Counted} (n : Some r ≡ counted_at (at + 1) line) where
        said : (is_number field ≡ true) × (r.value ≡ value field) × (r.end ≡ place_of tab (at + 1) line)
        said = number_said tab (at + 1) line n

        pub gather_next : k < count → Gathered line from count before (set values k r.value) r.end (k + 1)
        gather_next m =
            record {
              inside = found_inside tab (at + 1) line said.2 (omega arith);
              few = omega arith;
              done = g.done ++ (field ∷ []);
              size = length-append g.done (field ∷ []) ∙ ap (λ (i : ℕ). i + 1) g.size;
              good = all_join g.done (field ∷ []) ∙ rw (g.good, said.0);
              fields = next ∙ sym (append_assoc g.done (field ∷ []) rest) ∙ ap (λ (i : ℕ). (g.done ++ (field ∷ [])) ++ fields_after i line) (sym said.2);
              wrote =
                  ap₂ (λ (t : List ℕ) (i : ℕ). set t i r.value) g.wrote (place (length (map value g.done)) k (length-map g.done value ∙ g.size))
                  ∙ put_more before (map value g.done) 0 r.value (omega (arith, l, length-map g.done value, g.size))
                  ∙ ap (λ (x : ℕ). put before 0 (map value g.done ++ (x ∷ []))) said.1
                  ∙ ap (put before 0) (sym (values_join g.done (field ∷ [])));
            }
          where
            place : (a b : ℕ) → a ≡ b → b ≡ 0 + a
            place a b e = omega arith

    -- enough of them: nothing may follow
    pub gather_end : count ≤ k → NumbersRead count (fields_after from line) before values (leb (length line) at)
    gather_end m = by (dec_lt at (length line))
      where
        some : at < length line → 0 < length (fields_after at line)
        some e = rw (lt-ltb at (length line) e) (omega (arith, ap length (cut_first tab (drop (at + 1) line))))

        by : Dec (at < length line) → NumbersRead count (fields_after from line) before values (leb (length line) at)
        by (yes e) =
            rw (lt-leb (length line) at e)
            (refuted
            (ap (λ (t : Bool). t && all_numbers (fields_after from line))
            (ne_eqb (length (fields_after from line)) count
            (λ q. omega (arith, q, m, some e, ap length g.fields, length-append g.done (fields_after at line), g.size)))))
        by (no e) =
            let there = all_there (omega arith) in
            rw (le-leb (length line) at (omega arith))
            record {
              test = sym (rw (there, g.good, eq-eqb (length g.done) count (omega (arith, g.size, g.few, m))));
              values = λ t. g.wrote ∙ ap (λ (fs : List (List ℕ)). put before 0 (map value fs)) (sym there);
            }

-- as many numbers lent as a longer buffer has at its front
pub lent_front : {count : ℕ} {fs : List (List ℕ)} {before after : List ℕ} {r : Bool} → count ≤ length before
    → NumbersRead (length (take count before)) fs (take count before) after r → NumbersRead count fs before (after ++ drop count before) r
lent_front {count = count} {fs = fs} {before = before} {after = after} {r = r} l n =
    record {
      test = test;
      values = λ t.
          let many : length (map value fs) ≡ count = length-map fs value ∙ eqb-true (length fs) count (both (eqb (length fs) count) (all_numbers fs) (sym test ∙ t)).0 in
          ap (λ (l : List ℕ). l ++ drop count before) (n.values t ∙ put_front (take count before) (map value fs))
          ∙ append_assoc (map value fs) (drop (length (map value fs)) (take count before)) (drop count before)
          ∙ ap (λ (l : List ℕ). map value fs ++ (l ++ drop count before)) (drop_of_length-le (take count before) (omega (arith, many, length-take count before)))
          ∙ ap (λ (k : ℕ). map value fs ++ drop k before) (sym many)
          ∙ sym (put_front before (map value fs));
    }
  where
    test : r ≡ (eqb (length fs) count && all_numbers fs)
    test = n.test ∙ ap (λ (k : ℕ). eqb (length fs) k && all_numbers fs) (length-take-le count before l)

-- ---- the values, where zeros stood

pub zero_at : (n k : ℕ) → get_or {A = ℕ} (replicate n 0) k 0 ≡ 0
zero_at zero k = refl
zero_at (suc n) zero = refl
zero_at (suc n) (suc k) = zero_at n k

-- zeros behind numbers say nothing new
zeros_end : (xs zs : List ℕ) (k : ℕ) → ((i : ℕ) → get_or zs i 0 ≡ 0) → get_or (xs ++ zs) k 0 ≡ get_or xs k 0
zeros_end [] zs k h = h k
zeros_end (x ∷ xs) zs zero h = refl
zeros_end (x ∷ xs) zs (suc k) h = zeros_end xs zs k h

pub values_at : (n : ℕ) (vs : List ℕ) {values : List ℕ} → values ≡ put (replicate n 0) 0 vs → (k : ℕ) → get_or values k 0 ≡ get_or vs k 0
values_at n vs e k =
    ap (λ (l : List ℕ). get_or l k 0) (e ∙ put_front (replicate n 0) vs)
    ∙ zeros_end vs (drop (length vs) (replicate n 0)) k
    (λ i. get_or-drop (length vs) (replicate n 0) i 0 ∙ zero_at n (length vs + i))
