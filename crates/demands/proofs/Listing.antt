-- A listing that is read back, proved: `listed_read_back`, `read_back_listed`, `refused_untouched`. Line by line, from the two ways of a word
-- (`read_write`, `write_read`), of a line's fields, and of a text's lines.
-- Assumes nothing.
use Prim.Native.Nat.{ℕ, suc, ◌+◌, ◌^◌, ◌≤◌, ◌<◌}
use mathlib.Core.Path.{◌≡◌, refl, sym, ap, ap₂, subst, ◌∙◌}
use mathlib.Core.Bool.{Bool, true, false, not, ◌||◌, ◌&&◌}
use mathlib.Core.List.{List, [], ◌∷◌, ◌++◌, map, append_assoc}
use native.Mathlib.Omega.{arith}
use native.Mathlib.Nat.{zero-add}
use borrow.Author.Tests.{eq-eqb, ne_eqb, eqb-true, leb-true, ltb-true}
use lib.Dec.{eqb, leb}
use lib.ListN.{length, get_or, take, drop, take-append-drop, length-map}
use lib.Seq.{take-append_seam, drop-append_seam}
use Rattle.instruction.specs.Bits.{pick}
use Rattle.instruction.specs.Form.{filled}
use Rattle.instruction.specs.Table.{body_of}
use Rattle.instruction.specs.Word.{fits_of}
use Rattle.instruction.specs.declared.Instruction.{Instruction}
use Rattle.instruction.specs.declared.Rules.{Rules}
use Rattle.instruction.specs.declared.Body.{Body}
use Rattle.instruction.specs.declared.Body.TheVariants.{Waveform, Marker, Wait, LoadRepeat, Repeat, Cmp, Goto, Call, Return, Sync, Modulator, LoadCmp, Prefetch, Noop}
use Rattle.reader.specs.Reading.{Reading, reading_of}
use Rattle.std.specs.declared.result.Result.TheVariants.{Ok}
use Rattle.writer.specs.Writing.{asked_of, written_of, not_written}
use Rattle.writer.specs.declared.Written.{Written}
use Rattle.writer.proofs.Laws.{asked_wide}
use Rattle.text.specs.Cut.{tab, line_feed, cut, same_text, Row, rows_of, rows_in, joined}
use Rattle.text.specs.Line.{number, letters, decimal, entry_text, line_text, Line, text_of}
use Rattle.text.specs.Number.{value, numbers, is_number}
use Rattle.text.proofs.Alike.{same_text_lem, same_self}
use Rattle.text.proofs.Below.{all_below_lem}
use Rattle.text.proofs.Cuts.{joined_cut}
use Rattle.text.proofs.Decimals.{decimal_value}
use Rattle.text.proofs.Back.{number_back, number_text, bare, clean_name, all_clean, line_joined, fields_back, line_back}
use Rattle.names.specs.Names.{name_of, name_count, name_at, row_named}
use Rattle.names.proofs.Rows.{row_found, named_has}
use Rattle.listing.specs.Listing.{entries_of, entries_in, word_lines, header_text, listed}
use Rattle.listing.proofs.Lines.{listing_lines}
use Rattle.fields.specs.Fields.{all_numbers}
use Rattle.listing_reader.specs.ReadBack.{is_known, instruction_of, wish_in, has_fields, shape_number, known_number, fields_read, line_read, line_number, word_in, told_of, is_headed, body_rows, read_back, words_in, field_count, refused_at}
use Rattle.listing_reader.specs.declared.ReadBack.{ReadBack}
use Rattle.listing_reader.proofs.Fields.{has_fields_lem, fields_known, known_good}
use Rattle.listing_reader.proofs.Lines.{number_none, good_read, good_ended, told_next, told_none, told_good}
use Rattle.demands.specs.Word.{zeroed}
use Rattle.demands.specs.Listing.{ListingIsListed, AllPass, ListedReadBack, ReadBackListed, RefusedUntouched}
use Rattle.demands.proofs.Word.{read_write, write_read}
use Rattle.demands.proofs.Shown.{shown_values, entries_shown, texts_shown, values_shown, row_of, Shows, shows, Small, no_more, one_more, all_small}
use Rattle.text.proofs.Bools.{both, never}

pub listing_is_listed : ListingIsListed
listing_is_listed rules bytes e l = listing_lines rules bytes e l

-- ---- the numbers of a line

values_back : (vs : List ℕ) → map value (map decimal vs) ≡ vs
values_back [] = refl
values_back (v ∷ vs) = ap₂ (λ (x : ℕ) (l : List ℕ). x ∷ l) (decimal_value v) (values_back vs)

all_numbers_lem : {vs : List ℕ} → Small vs → all_numbers (map decimal vs) ≡ true
all_numbers_lem no_more = refl
all_numbers_lem (one_more {v = v} h s) = rw (number_back v h) (all_numbers_lem s)

decimals_back : (ns : List (List ℕ)) → all_numbers ns ≡ true → map decimal (map value ns) ≡ ns
decimals_back [] e = refl
decimals_back (n ∷ ns) e = by (is_number n) refl e (decimals_back ns)
  where
    by : (t : Bool) → is_number n ≡ t → (t && all_numbers ns) ≡ true → (all_numbers ns ≡ true → map decimal (map value ns) ≡ ns)
        → decimal (value n) ∷ map decimal (map value ns) ≡ n ∷ ns
    by true f g ih = ap₂ (λ (x : List ℕ) (l : List (List ℕ)). x ∷ l) (number_text n f) (ih g)
    by false f g ih = never (sym g)

entries_length : (i : Instruction) → length (entries_of i) ≡ suc (length (shown_values i))
entries_length i = ap length (entries_shown i) ∙ ap suc (length-map (shown_values i) number)

-- ---- a word's line, read back

clean_names : (b : Body) → clean_name (name_of b) ≡ true
clean_names (Waveform f) = refl
clean_names (Marker f) = refl
clean_names Wait = refl
clean_names (LoadRepeat n) = refl
clean_names (Repeat a) = refl
clean_names (Cmp x) = refl
clean_names (Goto a) = refl
clean_names (Call a) = refl
clean_names (Return p) = refl
clean_names Sync = refl
clean_names (Modulator f) = refl
clean_names (LoadCmp p) = refl
clean_names (Prefetch a) = refl
clean_names Noop = refl

clean_numbers : (vs : List ℕ) → all_clean (map number vs) ≡ true
clean_numbers [] = refl
clean_numbers (v ∷ vs) = clean_numbers vs

clean_line : (a : ℕ) (i : Instruction) → all_clean (number a ∷ entries_of i) ≡ true
clean_line a i = ap all_clean (entries_shown i) ∙ rw (clean_names i.body) (clean_numbers (shown_values i))

-- the line of an instruction that fits is read as what the writer writes for it
module _ (rules : Rules) (a : ℕ) (h : a < numbers) (i : Instruction) (t : fits_of i ≡ true) where
  abbrev line : Line
  line = record { first = number a; rest = entries_of i }

  abbrev row : Row
  row = record { bytes = bare line; ended = true }

  abbrev vs : List ℕ
  vs = shown_values i

  s : Shows i
  s = shows i t

  found : row_named (letters (name_of i.body)) ≡ row_of i.body
  found = ap row_named (sym s.called) ∙ row_found (row_of i.body) s.row

  fields : cut tab (bare line) ≡ decimal a ∷ letters (name_of i.body) ∷ map decimal vs
  fields = fields_back line (clean_line a i) ∙ ap (λ (l : List (List ℕ)). decimal a ∷ l) (texts_shown i)

  again : instruction_of (row_of i.body) (map value (map decimal vs)) ≡ i
  again = ap (instruction_of (row_of i.body)) (values_back vs) ∙ s.again

  has : has_fields (row_of i.body) (map decimal vs) ≡ true
  has =
      ap (λ (x : Instruction). eqb (suc (length (map decimal vs))) (length (entries_of x)) && all_numbers (map decimal vs)) again
      ∙ rw (all_numbers_lem (all_small i t), eq-eqb (suc (length (map decimal vs))) (length (entries_of i)) (ap suc (length-map vs decimal) ∙ sym (entries_length i)))

  -- nothing is wrong with its shape
  shape : shape_number a true (decimal a ∷ letters (name_of i.body) ∷ map decimal vs) ≡ 0
  shape =
      sym (fields_known a (decimal a) (letters (name_of i.body)) (map decimal vs) (number_back a h) (subst (λ (k : ℕ). k < name_count) (sym found) s.row))
      ∙ ap (λ (k : ℕ). known_number k (value (decimal a)) a (map decimal vs)) found
      ∙ sym (known_good (row_of i.body) (value (decimal a)) a (map decimal vs) has (decimal_value a))

  pub line_written : line_read rules a row ≡ written_of rules i
  unfolding line_read
  line_written =
      ap (fields_read rules a true) fields
      ∙ ap (λ (n : ℕ). pick (filled n) (not_written n) (written_of rules (wish_in (decimal a ∷ letters (name_of i.body) ∷ map decimal vs)))) shape
      ∙ ap (λ (k : ℕ). written_of rules (instruction_of k (map value (map decimal vs)))) found
      ∙ ap (written_of rules) again

  pub word_written : word_in rules row ≡ (written_of rules i).word
  unfolding word_in
  word_written =
      ap (λ (fs : List (List ℕ)). (written_of rules (wish_in fs)).word) fields
      ∙ ap (λ (k : ℕ). (written_of rules (instruction_of k (map value (map decimal vs)))).word) found
      ∙ ap (λ (x : Instruction). (written_of rules x).word) again

fits_of_lem : (rules : Rules) (i : Instruction) → asked_of rules i ≡ 0 → fits_of i ≡ true
fits_of_lem rules i e = by (fits_of i) refl
  where
    by : (t : Bool) → fits_of i ≡ t → fits_of i ≡ true
    by true f = f
    by false f = absurd (omega (arith, e, asked_wide rules i f))

asked_zero : (rules : Rules) (i : Instruction) → (written_of rules i).number ≡ 0 → asked_of rules i ≡ 0
unfolding written_of
asked_zero rules i e = e

-- the lines of words that pass
record Back (rules : Rules) (room a : ℕ) (words : List ℕ) (rows : List Row) : Type 0 where
  told : told_of rules room a rows ≡ record { number = 0; line = 0; count = a + length words }
  same : map (word_in rules) rows ≡ map zeroed words

lines_read : (rules : Rules) (room a : ℕ) (words : List ℕ) → AllPass rules words → a + length words ≤ room → room < 2 ^ 64 → Back rules room a words (rows_in (text_of (word_lines rules a words)))
lines_read rules room a [] p h l = record { told = told_none rules room a ∙ ap (λ (n : ℕ). record { number = 0; line = 0; count = n }) (none a); same = refl }
  where
    none : (a : ℕ) → a ≡ a + 0
    none a = omega arith
lines_read rules room a (w ∷ words) p h l =
    let i = p.0.instruction in
    let written : written_of rules i ≡ record { number = 0; word = zeroed w } = read_write rules w p.0.small i p.0.reads in
    let fit : fits_of i ≡ true = fits_of_lem rules i (asked_zero rules i (ap (λ (x : Written). x.number) written)) in
    let row : Row = record { bytes = bare (record { first = number a; rest = entries_of i }); ended = true } in
    let rest : List Row = rows_in (text_of (word_lines rules (a + 1) words)) in
    let rows : rows_in (text_of (word_lines rules a (w ∷ words))) ≡ row ∷ rest =
    ap (λ (x : Reading). rows_in (line_text (number a) (entries_in x) ++ text_of (word_lines rules (a + 1) words))) p.0.reads
    ∙ line_back (record { first = number a; rest = entries_of i }) (text_of (word_lines rules (a + 1) words)) (clean_line a i) in
    let read : line_read rules a row ≡ record { number = 0; word = zeroed w } = line_written rules a (omega arith) i fit ∙ written in
    let good : line_number rules room a row ≡ 0 = sym (number_none rules room a row (ap (λ (x : Written). x.number) read) (omega arith)) in
    let ih = lines_read rules room (a + 1) words p.1 (omega arith) l in
    record {
      told =
          ap (told_of rules room a) rows ∙ told_next rules room a row rest good ∙ ih.told
          ∙ ap (λ (n : ℕ). record { number = 0; line = 0; count = n }) (step a (length words));
      same =
          ap (map (word_in rules)) rows
          ∙ ap₂ (λ (x : ℕ) (l : List ℕ). x ∷ l) (word_written rules a (omega arith) i fit ∙ ap (λ (x : Written). x.word) written) ih.same;
    }
  where
    step : (a n : ℕ) → a + 1 + n ≡ a + suc n
    step a n = omega arith

-- the header before them
headed : (rest : List ℕ) → is_headed (header_text ++ rest) ≡ true
headed rest = ap (λ (t : List ℕ). same_text t header_text) (take-append_seam header_text rest) ∙ same_self header_text

body_of_lem : (rest : List ℕ) → body_rows (header_text ++ rest) ≡ rows_in rest
body_of_lem rest = ap rows_in (drop-append_seam header_text rest)

pub listed_read_back : ListedReadBack
unfolding read_back
listed_read_back rules words before after r p h l c =
    let rest = text_of (word_lines rules 0 words) in
    let k = lines_read rules (length before) 0 words p (omega (arith, h)) l in
    let rows = body_of_lem rest in
    let answer : r ≡ record { number = 0; line = 0; count = length words } =
    c.answer
    ∙ ap (λ (t : Bool). pick t (told_of rules (length before) 0 (body_rows (listed rules words))) (refused_at 60 1)) (headed rest)
    ∙ ap (told_of rules (length before) 0) rows
    ∙ k.told
    ∙ ap (λ (n : ℕ). record { number = 0; line = 0; count = n }) (zero-add (length words)) in
    let ws : words_in rules (listed rules words) ≡ map zeroed words = ap (map (word_in rules)) rows ∙ k.same in (
      answer,
      c.words
          ∙ ap (λ (t : ReadBack). pick (eqb t.number 0) (words_in rules (listed rules words) ++ drop (length (words_in rules (listed rules words))) before) before) answer
          ∙ ap (λ (l : List ℕ). l ++ drop (length l) before) ws
          ∙ ap (λ (n : ℕ). map zeroed words ++ drop n before) (length-map words zeroed),
    )

-- ---- an accepted line is the line of its word

-- the name of a row, whatever its numbers are
row_name : (row : ℕ) (vs : List ℕ) → row < name_count → letters (name_of (body_of row vs)) ≡ name_at row
row_name row vs h = same_text_lem _ _ (all_below_lem name_count (λ k. same_text (letters (name_of (body_of k vs))) (name_at k)) refl row h)

-- what number 0 says of a line's fields
record Good (rules : Rules) (a : ℕ) (fs : List (List ℕ)) : Type 0 where
  address : is_number (get_or fs 0 []) ≡ true
  two : 2 ≤ length fs
  known : row_named (get_or fs 1 []) < name_count
  shaped : has_fields (row_named (get_or fs 1 [])) (drop 2 fs) ≡ true
  counted : value (get_or fs 0 []) ≡ a
  written : (written_of rules (wish_in fs)).number ≡ 0

-- the number of a shape, by what is known of it
abbrev shape_by : Bool → Bool → Bool → Bool → Bool → ℕ
shape_by p q k s c = pick (not (p && (q && (not k || s)))) 61 (pick (not c) 62 (pick (not k) 63 0))

good_fields : (rules : Rules) (a : ℕ) (fs : List (List ℕ)) → (fields_read rules a true fs).number ≡ 0 → Good rules a fs
good_fields rules a fs e = by (is_number (get_or fs 0 [])) refl (leb 2 (length fs)) refl (is_known fs) refl (has_fields (row_named (get_or fs 1 [])) (drop 2 fs)) refl (eqb (value (get_or fs 0 [])) a) refl e
  where
    no : {A : Type 0} (n : ℕ) → suc n ≡ 0 → A
    no n q = absurd (omega arith)

    by : (p : Bool) → is_number (get_or fs 0 []) ≡ p → (q : Bool) → leb 2 (length fs) ≡ q → (k : Bool) → is_known fs ≡ k
        → (s : Bool) → has_fields (row_named (get_or fs 1 [])) (drop 2 fs) ≡ s → (c : Bool) → eqb (value (get_or fs 0 [])) a ≡ c
        → (pick (filled (shape_by p q k s c)) (not_written (shape_by p q k s c)) (written_of rules (wish_in fs))).number ≡ 0
        → Good rules a fs
    by true e1 true e2 true e3 true e4 true e5 z =
        record {
          address = e1;
          two = leb-true 2 (length fs) e2;
          known = ltb-true (row_named (get_or fs 1 [])) name_count e3;
          shaped = e4;
          counted = eqb-true (value (get_or fs 0 [])) a e5;
          written = z;
        }
    by true e1 true e2 true e3 true e4 false e5 z = no 61 z
    by true e1 true e2 true e3 false e4 c e5 z = no 60 z
    by true e1 true e2 false e3 s e4 true e5 z = no 62 z
    by true e1 true e2 false e3 s e4 false e5 z = no 61 z
    by true e1 false e2 k e3 s e4 c e5 z = no 60 z
    by false e1 q e2 k e3 s e4 c e5 z = no 60 z

-- such fields are the texts of what the listing shows of the word
good_texts : (rules : Rules) (a : ℕ) (fs : List (List ℕ)) → Good rules a fs → fs ≡ decimal a ∷ map entry_text (entries_of (wish_in fs))
good_texts rules a [] g = absurd (omega (arith, g.two))
good_texts rules a (f ∷ []) g = absurd (omega (arith, g.two))
good_texts rules a (f ∷ n ∷ ns) g =
    let row = row_named n in
    let vs = map value ns in
    let i = instruction_of row vs in
    let c = both (eqb (length ns) (field_count row)) (all_numbers ns) (sym (has_fields_lem row ns g.known) ∙ g.shaped) in
    let shown : shown_values i ≡ vs = values_shown row vs g.known (length-map ns value ∙ eqb-true (length ns) (field_count row) c.0) in
    let first : f ≡ decimal a = sym (number_text f g.address) ∙ ap decimal g.counted in
    let called : n ≡ letters (name_of i.body) = named_has n g.known ∙ sym (row_name row (drop 2 vs) g.known) in
    let numbered : ns ≡ map decimal (shown_values i) = sym (ap (map decimal) shown ∙ decimals_back ns c.1) in
    (λ j. first j ∷ called j ∷ numbered j) ∙ ap (λ (l : List (List ℕ)). decimal a ∷ l) (sym (texts_shown i))

module _ (rules : Rules) (room a : ℕ) (p : List ℕ) where
  abbrev read : Row
  read = record { bytes = p; ended = true }

  pub line_text_lem : line_number rules room a read ≡ 0 → p ++ (line_feed ∷ []) ≡ line_text (number a) (entries_in (reading_of rules (word_in rules read)))
  unfolding line_read word_in
  line_text_lem e =
      let fs = cut tab p in
      let g = good_fields rules a fs (good_read rules room a read e) in
      let i = wish_in fs in
      let back : reading_of rules (written_of rules i).word ≡ Ok i = write_read rules i g.written in
      ap (λ (t : List ℕ). t ++ (line_feed ∷ [])) (sym (joined_cut tab p) ∙ ap (joined tab) (good_texts rules a fs g))
      ∙ sym (line_joined (number a) (entries_of i))
      ∙ ap (λ (x : Reading). line_text (number a) (entries_in x)) (sym back)

-- pieces whose lines are all good
pieces_text : (rules : Rules) (room a : ℕ) (ps : List (List ℕ)) → (told_of rules room a (rows_of ps)).number ≡ 0 → joined line_feed ps ≡ text_of (word_lines rules a (map (word_in rules) (rows_of ps)))
pieces_text rules room a [] e = refl
pieces_text rules room a ([] ∷ []) e = refl
pieces_text rules room a ((b ∷ bs) ∷ []) e =
    never (sym (good_ended rules room a (record { bytes = b ∷ bs; ended = false }) (told_good rules room a (record { bytes = b ∷ bs; ended = false }) [] e).0))
pieces_text rules room a (p ∷ q ∷ ps) e =
    let row : Row = record { bytes = p; ended = true } in
    let g = told_good rules room a row (rows_of (q ∷ ps)) e in
    sym (append_assoc p (line_feed ∷ []) (joined line_feed (q ∷ ps)))
    ∙ ap₂ (λ (x y : List ℕ). x ++ y) (line_text_lem rules room a p g.0) (pieces_text rules room (a + 1) (q ∷ ps) g.1)

count_lines : (rules : Rules) (room a : ℕ) (rows : List Row) → (told_of rules room a rows).number ≡ 0 → (told_of rules room a rows).count ≡ a + length rows
count_lines rules room a [] e = ap (λ (t : ReadBack). t.count) (told_none rules room a) ∙ omega arith
count_lines rules room a (row ∷ rows) e =
    let g = told_good rules room a row rows e in
    ap (λ (t : ReadBack). t.count) (told_next rules room a row rows g.0) ∙ count_lines rules room (a + 1) rows g.1 ∙ omega arith

pub read_back_listed : ReadBackListed
unfolding read_back
read_back_listed rules text before after r c z = by (is_headed text) refl
  where
    by : (t : Bool) → is_headed text ≡ t → text ≡ listed rules (take r.count after)
    by false e = absurd (let n : ◌≡◌ {A = ℕ} 60 0 = sym (ap (λ (x : ReadBack). x.number) (c.answer ∙ ap (λ (t : Bool). pick t (told_of rules (length before) 0 (body_rows text)) (refused_at 60 1)) e)) ∙ z in omega arith)
    by true e =
        let rows = body_rows text in
        let told : r ≡ told_of rules (length before) 0 rows = c.answer ∙ ap (λ (t : Bool). pick t (told_of rules (length before) 0 (body_rows text)) (refused_at 60 1)) e in
        let good : (told_of rules (length before) 0 rows).number ≡ 0 = sym (ap (λ (x : ReadBack). x.number) told) ∙ z in
        let rest = drop (length header_text) text in
        let front : take (length header_text) text ≡ header_text = same_text_lem (take (length header_text) text) header_text e in
        let size : r.count ≡ length (map (word_in rules) rows) =
        ap (λ (x : ReadBack). x.count) told ∙ count_lines rules (length before) 0 rows good ∙ zero-add (length rows) ∙ sym (length-map rows (word_in rules)) in
        let words : take r.count after ≡ map (word_in rules) rows =
        ap₂ (λ (n : ℕ) (l : List ℕ). take n l)
        size
        (c.words ∙ ap (λ (t : Bool). pick t (words_in rules text ++ drop (length (words_in rules text)) before) before) (eq-eqb r.number 0 z))
        ∙ take-append_seam (map (word_in rules) rows) (drop (length (words_in rules text)) before) in
        sym (take-append-drop (length header_text) text)
        ∙ ap₂ (λ (x y : List ℕ). x ++ y) front (sym (joined_cut line_feed rest) ∙ pieces_text rules (length before) 0 (cut line_feed rest) good)
        ∙ ap (listed rules) (sym words)

pub refused_untouched : RefusedUntouched
refused_untouched rules text before after r c n = c.words ∙ ap (λ (t : Bool). pick t (words_in rules text ++ drop (length (words_in rules text)) before) before) (ne_eqb r.number 0 n)
