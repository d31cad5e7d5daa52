-- The line that a listing shows of a word: that of an accepted word is good, and a refused word's `BAD` line is 63.
-- Assumes nothing.
use Prim.Native.Nat.{ℕ, zero, suc, ◌/◌, ◌^◌, ◌<◌}
use mathlib.Core.Path.{◌≡◌, refl, sym, ap, subst, ◌∙◌}
use mathlib.Core.Bool.{Bool, true, false, not, ◌&&◌}
use mathlib.Core.List.{List, [], ◌∷◌, map}
use native.Mathlib.Omega.{arith}
use native.Mathlib.Nat.{mod-lt, lt_of_lt_of_le}
use native.Mathlib.Decide.{ℕ_discrete, dec_lt}
use borrow.Author.Tests.{eq-eqb, eqb-true, leb-true}
use lib.Dec.{eqb, leb, lit<}
use lib.Pow.{pow_pos}
use lib.ListN.{length, get_or, length-map}
use Rattle.instruction.specs.Bits.{pick, span, held, held_in}
use Rattle.instruction.specs.Form.{filled}
use Rattle.instruction.specs.Table.{engine_select, write_flag, payload_of, code_of, noop_word, values_of, body_of}
use Rattle.instruction.specs.Word.{code_in, values_in, spelled_by, noop}
use Rattle.instruction.specs.declared.Field.{Field}
use Rattle.instruction.specs.declared.Instruction.{Instruction}
use Rattle.instruction.specs.declared.Refusal.{Refusal}
use Rattle.instruction.specs.declared.Rules.{Rules}
use Rattle.reader.specs.Reading.{Reading, form_in, reading_of}
use Rattle.std.specs.declared.result.Result.TheVariants.{Ok, Err}
use Rattle.reader.proofs.Laws.{reads_noop, reads, refuses, form_10}
use Rattle.text.specs.Line.{number, letters, decimal, entry_text}
use Rattle.text.specs.Number.{value, numbers, is_number}
use Rattle.text.proofs.Back.{number_back}
use Rattle.text.proofs.Below.{all_below_lem}
use Rattle.text.proofs.Bools.{both, joins, never}
use Rattle.text.proofs.Decimals.{decimal_value}
use Rattle.fields.specs.Fields.{all_numbers}
use Rattle.names.specs.Names.{name_count, name_at, row_named}
use Rattle.listing.specs.Listing.{shows_none, entries_of, bad_numbers, entries_in}
use Rattle.listing_reader.specs.ReadBack.{shape_number, field_count}
use Rattle.listing_reader.proofs.Fields.{fields_unknown}
use Rattle.editions.specs.Editions.{jumps, jumps_one, target_one, fields_number_one, number_one}
use Rattle.moved.specs.Moved.{Aims}
use Rattle.moved.proofs.Lines.{clean_field, clean_fields, row_of, fields_again}
use Rattle.moved.proofs.Words.{clean_decimal}
use Rattle.moved.proofs.One.{Reads}

-- ---- the fields of a word

-- those that the listing shows of an op code
abbrev shown_fields : ℕ → List Field
shown_fields code = pick (shows_none (body_of code [])) [] (payload_of code)

-- what a word spells, by its op code
abbrev spelt : ℕ → ℕ → Instruction
spelt word code = record { engine = held word engine_select; write = held word write_flag; body = body_of code (values_in code word) }

-- what an instruction holds is what the word's fields hold, and is shown so; a jump's target is the first of them
shown_code : (w code : ℕ) → code < 13
    → (map entry_text (entries_of (spelt w code)) ≡ name_at code ∷ map decimal (held_in w (engine_select ∷ write_flag ∷ shown_fields code)))
    × (jumps code ≡ true → get_or (values_of (spelt w code).body) 0 0 ≡ get_or (held_in w (shown_fields code)) 0 0)
shown_code w zero h = (refl, λ e. refl)
shown_code w (suc zero) h = (refl, λ e. refl)
shown_code w (suc (suc zero)) h = (refl, λ e. never (sym e))
shown_code w (suc (suc (suc zero))) h = (refl, λ e. refl)
shown_code w (suc (suc (suc (suc zero)))) h = (refl, λ e. refl)
shown_code w (suc (suc (suc (suc (suc zero))))) h = (refl, λ e. refl)
shown_code w (suc (suc (suc (suc (suc (suc zero)))))) h = (refl, λ e. refl)
shown_code w (suc (suc (suc (suc (suc (suc (suc zero))))))) h = (refl, λ e. refl)
shown_code w (suc (suc (suc (suc (suc (suc (suc (suc zero)))))))) h = (refl, λ e. refl)
shown_code w (suc (suc (suc (suc (suc (suc (suc (suc (suc zero))))))))) h = (refl, λ e. never (sym e))
shown_code w (suc (suc (suc (suc (suc (suc (suc (suc (suc (suc zero)))))))))) h = (refl, λ e. refl)
shown_code w (suc (suc (suc (suc (suc (suc (suc (suc (suc (suc (suc zero))))))))))) h = (refl, λ e. refl)
shown_code w (suc (suc (suc (suc (suc (suc (suc (suc (suc (suc (suc (suc zero)))))))))))) h = (refl, λ e. refl)
shown_code w (suc (suc (suc (suc (suc (suc (suc (suc (suc (suc (suc (suc (suc n))))))))))))) h = absurd (omega arith)

-- no field holds more than a number can say
narrow : List Field → Bool
narrow [] = true
narrow (f ∷ fs) = leb (span f) numbers && narrow fs

-- so what narrow fields hold are numbers
held_numbers_lem : (w : ℕ) (fs : List Field) → narrow fs ≡ true → all_numbers (map decimal (held_in w fs)) ≡ true
unfolding narrow
held_numbers_lem w [] e = refl
held_numbers_lem w (f ∷ fs) e =
    let g = both (leb (span f) numbers) (narrow fs) e in
    joins (is_number (decimal (held w f))) (all_numbers (map decimal (held_in w fs)))
    (number_back (held w f) (lt_of_lt_of_le (mod-lt (w / 2 ^ f.low) (pow_pos f.width)) (leb-true (span f) numbers g.0)))
    (held_numbers_lem w fs g.1)

-- one computed test: the op codes are rows with as many fields as are shown, and each field is narrow
fine : ℕ → Bool
fine code = eqb (suc (suc (length (shown_fields code)))) (field_count code) && narrow (engine_select ∷ write_flag ∷ shown_fields code)

table : (code : ℕ) → code < 13 → fine code ≡ true
unfolding fine narrow
table code h = all_below_lem 13 fine refl code h

-- an op code's line is the line of a word
module _ (n a w code : ℕ) (h : code < 13) (aim : jumps (code_of (spelt w code).body) ≡ true → get_or (values_of (spelt w code).body) 0 0 < n) where
  abbrev fields : List Field
  fields = engine_select ∷ write_flag ∷ shown_fields code

  tests : (suc (suc (length (shown_fields code))) ≡ field_count code) × (narrow fields ≡ true)
  unfolding fine
  tests =
      let g = both (eqb (suc (suc (length (shown_fields code)))) (field_count code)) (narrow fields) (table code h) in
      (eqb-true (suc (suc (length (shown_fields code)))) (field_count code) g.0, g.1)

  same_code : code_of (spelt w code).body ≡ code
  same_code = eqb-true _ _ (all_below_lem 13 (λ k. eqb (code_of (body_of k (values_in code w))) k) refl code h)

  -- the row is the op code, and the numbers are what the fields hold
  spelt_word : Reads n a (decimal a ∷ map entry_text (entries_of (spelt w code)))
  spelt_word =
      let s = shown_code w code h in
      record {
        word = record { row = code; values = held_in w fields };
        fine =
            record {
              known = omega arith;
              count = length-map fields (held w) ∙ tests.0;
              small = held_numbers_lem w fields tests.1;
              inside = λ e. subst (λ (k : ℕ). k < n) (s.1 e) (aim (ap jumps same_code ∙ e));
            };
        fields = ap (λ (l : List (List ℕ)). decimal a ∷ l) s.0;
      }

-- NOOP shows its name alone
noop_word_lem : (n a : ℕ) → Reads n a (decimal a ∷ map entry_text (entries_of noop))
noop_word_lem n a =
    record {
      word = record { row = 13; values = [] };
      fine = record { known = lit< tt; count = refl; small = refl; inside = λ e. never (sym e) };
      fields = refl;
    }

-- ---- an accepted word

-- what a reading accepted
abbrev heard : Reading → Instruction
heard (Ok i) = i
heard (Err r) = noop

-- what is accepted is NOOP, or what the word spells by an op code of the table
pub accepted_word : (rules : Rules) (n a w : ℕ) (i : Instruction) → reading_of rules w ≡ Ok i → Aims rules n w → Reads n a (decimal a ∷ map entry_text (entries_of i))
unfolding spelled_by
accepted_word rules n a w i e aim = by (ℕ_discrete w noop_word) (ℕ_discrete (form_in rules w) 0) (dec_lt (code_in w) 13)
  where
    spelled : code_in w < 13 → spelt w (code_in w) ≡ i → Reads n a (decimal a ∷ map entry_text (entries_of i))
    spelled h q =
        subst (λ (x : Instruction). Reads n a (decimal a ∷ map entry_text (entries_of x))) q
        (spelt_word n a w (code_in w) h (subst (λ (x : Instruction). jumps (code_of x.body) ≡ true → get_or (values_of x.body) 0 0 < n) (sym q) (aim i e)))

    by : Dec (w ≡ noop_word) → Dec (form_in rules w ≡ 0) → Dec (code_in w < 13) → Reads n a (decimal a ∷ map entry_text (entries_of i))
    by (yes p) z h = subst (λ (x : Instruction). Reads n a (decimal a ∷ map entry_text (entries_of x))) (ap heard (sym (reads_noop rules w p) ∙ e)) (noop_word_lem n a)
    by (no p) (yes z) (yes h) = spelled h (ap heard (sym (reads rules w p z) ∙ e))
    by (no p) (yes z) (no h) = absurd (omega (arith, z, form_10 rules w (omega arith)))
    by (no p) (no z) h = never (ap accepted (sym e ∙ refuses rules w p z))
      where
        accepted : Reading → Bool
        accepted (Ok i) = true
        accepted (Err r) = false

-- ---- a refused word

-- its numbers are clean, and so is its line
clean_entries : (vs : List ℕ) → clean_fields (map entry_text (map number vs)) ≡ true
clean_entries [] = refl
clean_entries (v ∷ vs) = joins (clean_field (decimal v)) (clean_fields (map entry_text (map number vs))) (clean_decimal v) (clean_entries vs)

module _ (a : ℕ) (r : Refusal) where
  abbrev numbers_shown : List (List ℕ)
  numbers_shown = map entry_text (map number (bad_numbers r))

  pub clean_bad : clean_fields (decimal a ∷ map entry_text (entries_in (Err r))) ≡ true
  clean_bad = joins (clean_field (decimal a)) _ (clean_decimal a) (clean_entries (bad_numbers r))

  -- `BAD` is the name of no row
  no_name : name_count ≡ row_named (letters "BAD")
  unfolding row_named
  no_name = refl

  -- "63 unknown name or `BAD`"
  pub bad_63 : (n : ℕ) → a < numbers → number_one n a (row_of (decimal a ∷ map entry_text (entries_in (Err r)))) ≡ 63
  unfolding number_one
  bad_63 n h =
      let shape : shape_number a true (decimal a ∷ letters "BAD" ∷ numbers_shown) ≡ 63 =
      sym (fields_unknown a (decimal a) (letters "BAD") numbers_shown (number_back a h) (omega (arith, no_name)))
      ∙ ap (λ (t : Bool). pick (not t) 62 63) (eq-eqb (value (decimal a)) a (decimal_value a)) in
      ap (fields_number_one n a true) (fields_again (decimal a) (letters "BAD" ∷ numbers_shown) clean_bad)
      ∙ ap (λ (s : ℕ). pick (filled s) s (pick (jumps_one (decimal a ∷ letters "BAD" ∷ numbers_shown) && leb n (target_one (decimal a ∷ letters "BAD" ∷ numbers_shown))) 21 0)) shape
