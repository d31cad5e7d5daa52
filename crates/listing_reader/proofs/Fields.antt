-- Laws of a line's fields: numbers gathered one after the other, and what a line is read as once its fields are known.
-- Assumes nothing.
use Prim.Native.Nat.{ℕ, suc, ◌+◌, ◌-◌, ◌≤◌, ◌<◌}
use mathlib.Core.Path.{◌≡◌, refl, sym, ap, ap₂, subst, ◌∙◌}
use mathlib.Core.Bool.{Bool, true, false, not, ◌&&◌}
use mathlib.Core.List.{List, [], ◌∷◌, map}
use native.Mathlib.Omega.{arith}
use native.Mathlib.Nat.{zero-add}
use native.Mathlib.Decide.{ℕ_discrete}
use borrow.Author.Tests.{eq-eqb, ne_eqb, eqb-true, leb-true, le-leb, lt-ltb, le-ltb}
use lib.Dec.{eqb, leb}
use lib.ListN.{length, get_or, take, drop, replicate}
use lib.Seq.{get_or-drop}
use Rattle.instruction.specs.Bits.{pick}
use Rattle.instruction.specs.Table.{body_of}
use Rattle.instruction.specs.declared.Instruction.{Instruction}
use Rattle.instruction.specs.declared.Rules.{Rules}
use Rattle.instruction.specs.declared.Body.{Body}
use Rattle.buffer.specs.Put.{put}
use Rattle.text.specs.Cut.{tab, cut, Row, place_of, fields_after}
use Rattle.text.specs.Number.{value, is_number, field_at, counted_at}
use Rattle.text.specs.declared.Counted.{Counted}
use Rattle.std.specs.Prelude.{Some, None}
use Rattle.text.proofs.Below.{all_below_lem}
use Rattle.text.proofs.Cuts.{found_order, found_inside}
use Rattle.text.proofs.Back.{number_said, number_not}
use Rattle.text.proofs.Rows.{after_last, after_next}
use Rattle.fields.specs.Fields.{all_numbers, NumbersRead}
use Rattle.fields.proofs.Gathered.{first_field, values_at}
use Rattle.names.specs.Names.{name_count, row_named}
use Rattle.listing.specs.Listing.{entries_of}
use Rattle.writer.specs.Writing.{not_written, written_of}
use Rattle.listing_reader.specs.ReadBack.{numbers_in, instruction_of, wish_in, has_fields, shape_number, line_read, field_count, known_number, KnownShape, Shaped}
use Rattle.listing_reader.specs.declared.line.Shape.{Shape}

-- ---- the instruction of a name and its numbers

-- as many fields, whatever they say: one computed test over the rows
entries_count : (row : ℕ) (vs : List ℕ) → row < name_count → length (entries_of (instruction_of row vs)) ≡ suc (field_count row)
entries_count row vs h = eqb-true _ _ (all_below_lem name_count (λ k. eqb (length (entries_of (instruction_of k vs))) (suc (field_count k))) refl row h)

pub count_small : (row : ℕ) → row < name_count → field_count row ≤ 6
count_small row h = leb-true (field_count row) 6 (all_below_lem name_count (λ k. leb (field_count k) 6) refl row h)

pub has_fields_lem : (row : ℕ) (ns : List (List ℕ)) → row < name_count → has_fields row ns ≡ (eqb (length ns) (field_count row) && all_numbers ns)
has_fields_lem row ns h =
    ap (λ (k : ℕ). eqb (suc (length ns)) k && all_numbers ns) (entries_count row (map value ns) h)
    ∙ ap (λ (t : Bool). t && all_numbers ns) (down (length ns) (field_count row))
  where
    down : (a b : ℕ) → eqb (suc a) (suc b) ≡ eqb a b
    down a b = by (ℕ_discrete a b)
      where
        by : Dec (a ≡ b) → eqb (suc a) (suc b) ≡ eqb a b
        by (yes e) = eq-eqb (suc a) (suc b) (ap suc e) ∙ sym (eq-eqb a b e)
        by (no e) = ne_eqb (suc a) (suc b) (λ q. e (omega arith)) ∙ sym (ne_eqb a b e)

abbrev pub made : ℕ → ℕ → ℕ → ℕ → ℕ → ℕ → ℕ → Instruction
made row engine write a b c d = record { engine = engine; write = write; body = body_of row (a ∷ b ∷ c ∷ d ∷ []) }

module _ (vs : List ℕ) {values : List ℕ} (e : values ≡ put (replicate 6 0) 0 vs) where
  at : (k : ℕ) → get_or values k 0 ≡ get_or vs k 0
  at = values_at 6 vs e

  below : (k : ℕ) → get_or values (2 + k) 0 ≡ get_or (drop 2 vs) k 0
  below k = at (2 + k) ∙ sym (get_or-drop 2 vs k 0)

  pub laid_instruction : (row : ℕ)
      → made row (get_or values 0 0) (get_or values 1 0) (get_or values 2 0) (get_or values 3 0) (get_or values 4 0) (get_or values 5 0) ≡ instruction_of row vs
  laid_instruction row = λ j. made row (at 0 j) (at 1 j) (below 0 j) (below 1 j) (below 2 j) (below 3 j)

-- ---- a line whose fields are known

module _ (row address a : ℕ) (ns : List (List ℕ)) where
  pub known_61 : has_fields row ns ≡ false → 61 ≡ known_number row address a ns
  known_61 e = rw e

  pub known_62 : has_fields row ns ≡ true → (address ≡ a → ⊥) → 62 ≡ known_number row address a ns
  known_62 e n = rw (e, ne_eqb address a n)

  pub known_good : has_fields row ns ≡ true → address ≡ a → 0 ≡ known_number row address a ns
  known_good e n = rw (e, eq-eqb address a n)

module _ (a : ℕ) (f : List ℕ) where
  pub fields_61 : (fs : List (List ℕ)) → is_number f ≡ false → 61 ≡ shape_number a true (f ∷ fs)
  fields_61 fs e = rw e

  pub fields_alone : is_number f ≡ true → 61 ≡ shape_number a true (f ∷ [])
  fields_alone e = rw e

  module _ (n : List ℕ) (ns : List (List ℕ)) (e : is_number f ≡ true) where
    two : leb 2 (suc (suc (length ns))) ≡ true
    two = le-leb 2 (suc (suc (length ns))) (omega arith)

    pub fields_known : row_named n < name_count → known_number (row_named n) (value f) a ns ≡ shape_number a true (f ∷ n ∷ ns)
    fields_known h = rw (e, two, lt-ltb (row_named n) name_count h)

    pub fields_unknown : name_count ≤ row_named n → pick (not (eqb (value f) a)) 62 63 ≡ shape_number a true (f ∷ n ∷ ns)
    fields_unknown h = rw (e, two, le-ltb (row_named n) name_count h)

-- ---- a line, as its fields are found

-- what is refused says nothing but its number
refused_shape : (a : ℕ) (fs : List (List ℕ)) (before after : List ℕ) {r : Shape} {n : ℕ} → r ≡ record { number = n; row = 0; from = 0 } → n ≡ shape_number a true fs → (n ≡ 0 → ⊥)
    → Shaped a fs before after r
refused_shape a fs before after {r = r} {n = n} e f h =
    record {
      number = ap (λ (s : Shape). s.number) e ∙ f;
      row = λ z. absurd (h (sym (ap (λ (s : Shape). s.number) e) ∙ z));
      from = λ z. absurd (h (sym (ap (λ (s : Shape). s.number) e) ∙ z));
      values = λ z. absurd (h (sym (ap (λ (s : Shape). s.number) e) ∙ z));
    }

module _ (line : List ℕ) (a : ℕ) (before : List ℕ) where
  abbrev address : List ℕ
  address = field_at 0 line

  no_line : {fs : List (List ℕ)} → cut tab line ≡ fs → 61 ≡ shape_number a true fs → {s : Shape} → s ≡ record { number = 61; row = 0; from = 0 } → Shaped a (cut tab line) before before s
  no_line e f g = refused_shape a (cut tab line) before before g (f ∙ ap (shape_number a true) (sym e)) (λ z. omega arith)

  pub line_not : None ≡ counted_at 0 line → {s : Shape} → s ≡ record { number = 61; row = 0; from = 0 } → Shaped a (cut tab line) before before s
  line_not n = no_line (first_field line) (fields_61 a address (fields_after (place_of tab 0 line) line) (number_not tab 0 line n))

  module _ {r : Counted} (n : Some r ≡ counted_at 0 line) where
    s : (is_number address ≡ true) × (r.value ≡ value address) × (r.end ≡ place_of tab 0 line)
    s = number_said tab 0 line n

    start : cut tab line ≡ address ∷ fields_after r.end line
    start = first_field line ∙ ap (λ (i : ℕ). address ∷ fields_after i line) (sym s.2)

    pub line_alone : length line ≤ r.end → {s : Shape} → s ≡ record { number = 61; row = 0; from = 0 } → Shaped a (cut tab line) before before s
    line_alone h = no_line (start ∙ ap (λ (fs : List (List ℕ)). address ∷ fs) (after_last line r.end h)) (fields_alone a address s.0)

    module _ (h : r.end < length line) {later : ℕ} (g : later ≡ place_of tab (r.end + 1) line) where
      abbrev name : List ℕ
      name = take (later - (r.end + 1)) (drop (r.end + 1) line)

      pub name_inside : later ≤ length line
      name_inside = found_inside tab (r.end + 1) line g (omega arith)

      pub name_order : r.end + 1 ≤ later
      name_order = found_order tab (r.end + 1) line g

      two_fields : cut tab line ≡ address ∷ name ∷ fields_after later line
      two_fields = start ∙ ap (λ (fs : List (List ℕ)). address ∷ fs) (after_next line r.end h g)

      module _ {row : ℕ} (m : row ≡ row_named name) where
        pub line_known : row < name_count → {after : List ℕ} {k : ℕ} → KnownShape row r.value a (fields_after later line) before after k
            → Shaped a (cut tab line) before after (record { number = k; row = row; from = r.end + 1 })
        line_known l {after = after} {k = k} w =
            subst (λ (fs : List (List ℕ)). Shaped a fs before after (record { number = k; row = row; from = r.end + 1 })) (sym two_fields)
            (record {
              number =
                  w.number
                  ∙ ap₂ (λ (k x : ℕ). known_number k x a (fields_after later line)) m s.1
                  ∙ fields_known a address name (fields_after later line) s.0 (omega (arith, m));
              row = λ z. m;
              from = λ z. ap (λ (i : ℕ). i + 1) (s.2 ∙ zero-add (length address));
              values = w.values;
            })

        pub line_unknown : name_count ≤ row → {k : ℕ} → k ≡ pick (not (eqb r.value a)) 62 63 → {s : Shape} → s ≡ record { number = k; row = 0; from = 0 }
            → Shaped a (cut tab line) before before s
        line_unknown l {k = k} e f =
            refused_shape a (cut tab line) before before f
            (e
            ∙ ap (λ (x : ℕ). pick (not (eqb x a)) 62 63) s.1
            ∙ fields_unknown a address name (fields_after later line) s.0 (omega (arith, m))
            ∙ ap (shape_number a true) (sym two_fields))
            (some (eqb r.value a) e)
          where
            some : (t : Bool) → k ≡ pick (not t) 62 63 → k ≡ 0 → ⊥
            some true q z = omega arith
            some false q z = omega arith

-- ---- a line whose name is known, as its numbers are gathered

module _ (row address a : ℕ) (h : row < name_count) (ns : List (List ℕ)) {count : ℕ} (c : count ≡ field_count row)
    {before after : List ℕ} {r : Bool} (g : NumbersRead count ns before after r) where
  tested : has_fields row ns ≡ r
  tested = has_fields_lem row ns h ∙ ap (λ (k : ℕ). eqb (length ns) k && all_numbers ns) (sym c) ∙ sym g.test

  pub gathered_61 : r ≡ false → KnownShape row address a ns before after 61
  gathered_61 e = record { number = known_61 row address a ns (tested ∙ e); values = λ z. absurd (omega arith) }

  pub gathered_62 : r ≡ true → (address ≡ a → ⊥) → KnownShape row address a ns before after 62
  gathered_62 e n = record { number = known_62 row address a ns (tested ∙ e) n; values = λ z. absurd (omega arith) }

  pub gathered_good : r ≡ true → address ≡ a → KnownShape row address a ns before after 0
  gathered_good e n = record { number = known_good row address a ns (tested ∙ e) n; values = λ z. g.values e }

-- ---- a line, read

module _ (rules : Rules) (line : List ℕ) (a : ℕ) {after : List ℕ} {r : Shape} (s : Shaped a (cut tab line) (replicate 6 0) after r) where
  abbrev whole : Row
  whole = record { bytes = line; ended = true }

  abbrev shape : ℕ
  shape = shape_number a true (cut tab line)

  pub read_refused : (r.number ≡ 0 → ⊥) → record { number = r.number; word = 0 } ≡ line_read rules a whole
  unfolding line_read
  read_refused n =
      ap not_written s.number
      ∙ sym (ap (λ (t : Bool). pick (not t) (not_written shape) (written_of rules (wish_in (cut tab line)))) (ne_eqb shape 0 (λ z. n (s.number ∙ z))))

  pub read_written : r.number ≡ 0 → {body : Body} → body ≡ body_of r.row (get_or after 2 0 ∷ get_or after 3 0 ∷ get_or after 4 0 ∷ get_or after 5 0 ∷ [])
      → written_of rules (record { engine = get_or after 0 0; write = get_or after 1 0; body = body }) ≡ line_read rules a whole
  unfolding line_read
  read_written z b =
      ap (written_of rules)
      ((λ j. record { engine = get_or after 0 0; write = get_or after 1 0; body = b j })
      ∙ laid_instruction (map value (numbers_in (cut tab line))) (s.values z) r.row
      ∙ ap (λ (k : ℕ). instruction_of k (map value (numbers_in (cut tab line)))) (s.row z))
      ∙ sym (ap (λ (t : Bool). pick (not t) (not_written shape) (written_of rules (wish_in (cut tab line)))) (eq-eqb shape 0 (sym s.number ∙ z)))
