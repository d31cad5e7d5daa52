-- What a good line of edition 2 says: a label line defines its label, and any other is the line of a word once a target has its address.
-- Assumes nothing.
use Prim.Native.Nat.{ℕ, ◌≤◌, ◌<◌}
use mathlib.Core.Path.{◌≡◌, refl, sym, ap, ap₂, ◌∙◌}
use mathlib.Core.Bool.{Bool, true, false, not, ◌||◌, ◌&&◌}
use mathlib.Core.List.{List, [], ◌∷◌, ◌++◌, map}
use native.Mathlib.Omega.{arith}
use borrow.Author.Tests.{eqb-true, ltb-true}
use lib.Dec.{eqb}
use lib.ListN.{length, get_or, take, length-map}
use Rattle.instruction.specs.Bits.{pick}
use Rattle.text.specs.Cut.{Row, fields_in}
use Rattle.text.specs.Line.{decimal}
use Rattle.text.specs.Number.{value, numbers, is_number}
use Rattle.text.proofs.Back.{number_back, number_text}
use Rattle.text.proofs.Bools.{both, joins, never}
use Rattle.fields.specs.Fields.{all_numbers}
use Rattle.names.specs.Names.{name_count, name_at, row_named}
use Rattle.names.proofs.Rows.{named_has}
use Rattle.listing_reader.specs.ReadBack.{field_count}
use Rattle.label.specs.Label.{is_label, among}
use Rattle.editions.specs.Editions.{jumps, target_of, aimed, name_two, fields_two, is_label_line, label_in, is_known_two, jumps_two, target_two, has_fields_two, is_shaped_two, defines, have_word, label_number, word_number, number_two}
use Rattle.editions.specs.Moves.{Definition, meaning_in, fields_placed}
use Rattle.moved.proofs.Words.{fields_one, jump_count, three_fields, texts_back}
use Rattle.moved.proofs.One.{not_zero, Reads}

-- ---- good lines

module _ (labels before : List (List ℕ)) (rows : List Row) (row : Row) where
  abbrev pub fs : List (List ℕ)
  fs = fields_in row

  -- a good label line defines its label, and a word follows
  pub good_label : number_two labels before rows row ≡ 0 → is_label_line fs ≡ true → (defines row ≡ true) × (have_word rows ≡ true)
  unfolding number_two
  good_label z l =
      let s = by (is_shaped_two row.ended fs) (is_label_line fs) l (among (label_in fs) before) (have_word rows) z in
      (joins (is_label_line fs) (is_shaped_two row.ended fs) l s.0, s.1)
    where
      by : (s l : Bool) → l ≡ true → (t h : Bool)
          → pick (not s) 61 (pick (not (l || is_known_two fs)) 63 (pick l (pick t 65 (pick (not h) 66 0)) (word_number labels fs))) ≡ 0
          → (s ≡ true) × (h ≡ true)
      by true true e false true g = (refl, refl)
      by true true e false false g = not_zero 65 g
      by true true e true h g = not_zero 64 g
      by true false e t h g = never (sym e)
      by false l e t h g = not_zero 60 g

  -- a good word line has the fields of its name, and the label of a jump is defined
  pub record Said : Type 0 where
    pub known : row_named (name_two fs) < name_count
    pub shaped : has_fields_two (row_named (name_two fs)) (fields_two fs) ≡ true
    pub aim : jumps_two fs ≡ true → among (target_two fs) labels ≡ true

  pub good_word : number_two labels before rows row ≡ 0 → is_label_line fs ≡ false → Said
  unfolding number_two
  good_word z l =
      by row.ended (is_label_line fs) l (is_known_two fs) refl (has_fields_two (row_named (name_two fs)) (fields_two fs)) refl (jumps_two fs) (among (target_two fs) labels) refl refl z
    where
      by : (e l : Bool) → l ≡ false → (k : Bool) → is_known_two fs ≡ k → (s : Bool) → has_fields_two (row_named (name_two fs)) (fields_two fs) ≡ s
          → (j m : Bool) → jumps_two fs ≡ j → among (target_two fs) labels ≡ m
          → pick (not (e && pick l (eqb (length fs) 2 && is_label (label_in fs)) (not k || s))) 61
          (pick (not (l || k)) 63 (pick l (label_number before rows (label_in fs)) (pick (j && not m) 67 0))) ≡ 0
          → Said
      by true false e0 true e1 true e2 j m e3 e4 g =
          record {
            known = ltb-true (row_named (name_two fs)) name_count e1;
            shaped = e2;
            aim = λ e. e4 ∙ aim j m (sym e3 ∙ e) g;
          }
        where
          aim : (j m : Bool) → j ≡ true → pick {A = ℕ} (j && not m) 67 0 ≡ 0 → m ≡ true
          aim true true e g = refl
          aim true false e g = not_zero 66 g
          aim false m e g = never (sym e)
      by true false e0 true e1 false e2 j m e3 e4 g = not_zero 60 g
      by true false e0 false e1 s e2 j m e3 e4 g = not_zero 62 g
      by true true e0 k e1 s e2 j m e3 e4 g = never e0
      by false l e0 k e1 s e2 j m e3 e4 g = not_zero 60 g

-- ---- the word of a good line

module _ (ds : List Definition) (n a : ℕ) (few : n ≤ numbers) (fs : List (List ℕ)) (known : row_named (name_two fs) < name_count)
    (shaped : has_fields_two (row_named (name_two fs)) (fields_two fs) ≡ true) (aim : jumps_two fs ≡ true → meaning_in ds (target_two fs) < n) where
  abbrev named : ℕ
  named = row_named (name_two fs)

  abbrev ns : List (List ℕ)
  ns = fields_two fs

  -- as many fields as its name has, numbers all or with a label behind
  counted : length ns ≡ field_count named
  counted = eqb-true (length ns) (field_count named) (both (eqb (length ns) (field_count named)) _ shaped).0

  said : pick (jumps named) (all_numbers (take 2 ns) && is_label (target_of ns)) (all_numbers ns) ≡ true
  said = (both (eqb (length ns) (field_count named)) _ shaped).1

  -- what stands behind the name once a target has its address
  abbrev behind : Bool → List (List ℕ)
  behind t = pick t (aimed (decimal (meaning_in ds (target_two fs))) ns) ns

  -- the fields that are written, where these are the numbers
  placed : (t : Bool) → jumps named ≡ t → (vs : List ℕ) → map decimal vs ≡ behind t → fields_placed ds a fs ≡ fields_one a (record { row = named; values = vs })
  placed t e vs v =
      ap (λ (m : List ℕ). decimal a ∷ m ∷ behind (jumps named)) (named_has (name_two fs) known)
      ∙ ap (λ (b : Bool). decimal a ∷ name_at named ∷ behind b) e
      ∙ ap (λ (l : List (List ℕ)). decimal a ∷ name_at named ∷ l) (sym v)

  -- a line that is no jump keeps its numbers
  plain_word : jumps named ≡ false → Reads n a (fields_placed ds a fs)
  plain_word e =
      let all : all_numbers ns ≡ true = sym (ap (λ (t : Bool). pick t (all_numbers (take 2 ns) && is_label (target_of ns)) (all_numbers ns)) e) ∙ said in
      let texts = texts_back ns all in
      record {
        word = record { row = named; values = map value ns };
        fine =
            record {
              known = known;
              count = length-map ns value ∙ counted;
              small = ap all_numbers texts ∙ all;
              inside = λ q. never (sym q ∙ e);
            };
        fields = placed false e (map value ns) texts;
      }

  -- a jump gets the address that its label means
  jump_word : jumps named ≡ true → Reads n a (fields_placed ds a fs)
  jump_word e =
      let size = jump_count named known e in
      let whole = three_fields ns (counted ∙ size) in
      let front : all_numbers (take 2 ns) ≡ true =
      (both (all_numbers (take 2 ns)) (is_label (target_of ns)) (sym (ap (λ (t : Bool). pick t (all_numbers (take 2 ns) && is_label (target_of ns)) (all_numbers ns)) e) ∙ said)).0 in
      let g = both (is_number (get_or ns 0 [])) (is_number (get_or ns 1 []) && true) (ap (λ (l : List (List ℕ)). all_numbers (take 2 l)) whole ∙ front) in
      let h = both (is_number (get_or ns 1 [])) true g.1 in
      let m : ℕ = meaning_in ds (target_two fs) in
      let inside : m < n = aim e in
      let vs : List ℕ = value (get_or ns 0 []) ∷ value (get_or ns 1 []) ∷ m ∷ [] in
      let first = number_text (get_or ns 0 []) g.0 in
      let second = number_text (get_or ns 1 []) h.0 in
      let texts : map decimal vs ≡ behind true =
      ap₂ (λ (x y : List ℕ). x ∷ y ∷ decimal m ∷ []) first second ∙ ap (λ (l : List (List ℕ)). take 2 l ++ (decimal m ∷ [])) whole in
      record {
        word = record { row = named; values = vs };
        fine =
            record {
              known = known;
              count = sym size;
              small =
                  joins (is_number (decimal (value (get_or ns 0 [])))) _ (ap is_number first ∙ g.0)
                  (joins (is_number (decimal (value (get_or ns 1 [])))) _ (ap is_number second ∙ h.0)
                  (joins (is_number (decimal m)) true (number_back m (omega arith)) refl));
              inside = λ q. inside;
            };
        fields = placed true e vs texts;
      }

  -- so it is the line of a word
  pub word_of : Reads n a (fields_placed ds a fs)
  word_of = by (jumps named) refl
    where
      by : (t : Bool) → jumps named ≡ t → Reads n a (fields_placed ds a fs)
      by true e = jump_word e
      by false e = plain_word e
