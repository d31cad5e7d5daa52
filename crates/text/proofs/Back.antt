-- What is written is read back: its lines, their fields, and the number in a field; and a field that is read as a number
-- is the text of that number.
-- Assumes nothing.
use Prim.Native.Nat.{ℕ, ◌+◌, ◌≤◌, ◌<◌}
use Prim.Native.String.{String}
use mathlib.Core.Path.{◌≡◌, refl, sym, ap, ap₂, ◌∙◌}
use mathlib.Core.Bool.{Bool, true, false, not, ◌||◌, ◌&&◌}
use mathlib.Core.List.{List, [], ◌∷◌, ◌++◌, map, append_assoc}
use Rattle.std.specs.Prelude.{Option, Some, None}
use native.Mathlib.Omega.{arith}
use borrow.Author.Tests.{lt-ltb, le-ltb, ltb-true, ne_eqb}
use lib.Dec.{ltb, eqb}
use lib.ListN.{length, drop, length-append, length-drop}
use Rattle.instruction.specs.Bits.{pick}
use Rattle.text.specs.Cut.{tab, line_feed, cut, before, place_of, rows_in, has, joined}
use Rattle.text.specs.Number.{is_digit, all_digits, plain, value, numbers, is_number, counted, field_to, counted_to, counted_then}
use Rattle.text.specs.declared.Counted.{Counted}
use Rattle.text.specs.Line.{Entry, name, number, letters, decimal, entry_text, line_text, Line}
use Rattle.text.proofs.Cuts.{has_whole, before_piece, none_has, cut_joined, found_has, found_behind}
use Rattle.text.proofs.Decimals.{decimal_value, decimal_digits, decimal_plain, plain_decimal}
use Rattle.text.proofs.Rows.{rows_line}
use Rattle.text.proofs.Bools.{both, joins, never}

-- ---- numbers

-- what is written is a number, and that number
pub number_back : (n : ℕ) → n < numbers → is_number (decimal n) ≡ true
number_back n h = rw (decimal_plain n, lt-ltb (value (decimal n)) numbers (omega (arith, decimal_value n)))

-- a field that is a number is the text of it
pub number_text : (bs : List ℕ) → is_number bs ≡ true → decimal (value bs) ≡ bs
number_text bs e = plain_decimal bs (both (plain bs) (ltb (value bs) numbers) e).0

-- what a field says, as it is told
pub number_said : (x from : ℕ) (text : List ℕ) {r : Counted} → Some r ≡ counted_to x from text
    → (is_number (field_to x from text) ≡ true) × (r.value ≡ value (field_to x from text)) × (r.end ≡ place_of x from text)
number_said x from text {r = r} e = by (is_number (field_to x from text)) refl e
  where
    by : (t : Bool) → is_number (field_to x from text) ≡ t
        → Some r ≡ pick t (counted (value (field_to x from text)) (place_of x from text)) None
        → (is_number (field_to x from text) ≡ true) × (r.value ≡ value (field_to x from text)) × (r.end ≡ place_of x from text)
    by true f g = let h : r ≡ record { value = value (field_to x from text); end = place_of x from text } = cc in (f, ap (λ (c : Counted). c.value) h, ap (λ (c : Counted). c.end) h)
    by false f g = cc

pub number_not : (x from : ℕ) (text : List ℕ) → None ≡ counted_to x from text → is_number (field_to x from text) ≡ false
number_not x from text e = by (is_number (field_to x from text)) refl e
  where
    by : (t : Bool) → is_number (field_to x from text) ≡ t
        → None ≡ pick t (counted (value (field_to x from text)) (place_of x from text)) None
        → is_number (field_to x from text) ≡ false
    by true f g = cc
    by false f g = f

-- ---- lines and their fields

-- a line's fields, and the line without its line feed
abbrev pub fields_of : Line → List (List ℕ)
fields_of l = entry_text l.first ∷ map entry_text l.rest

abbrev pub bare : Line → List ℕ
bare l = joined tab (fields_of l)

-- a name has neither tab nor line feed; computes to true for each name that is used
abbrev pub clean_name : String → Bool
clean_name s = not (has tab (letters s) || has line_feed (letters s))

abbrev pub clean : Entry → Bool
clean (name s) = clean_name s
clean (number n) = true

abbrev pub all_clean : List Entry → Bool
all_clean [] = true
all_clean (e ∷ es) = clean e && all_clean es

-- ---- what a field has not

free_of : (x b : ℕ) → is_digit x ≡ false → is_digit b ≡ true → eqb b x ≡ false
free_of x b e f = ne_eqb b x (λ h. never (sym f ∙ ap is_digit h ∙ e))

digits_free : (x : ℕ) (bs : List ℕ) → is_digit x ≡ false → all_digits bs ≡ true → has x bs ≡ false
digits_free x [] e f = refl
digits_free x (b ∷ bs) e f =
    let g = both (is_digit b) (all_digits bs) f in
    rw (free_of x b e g.0) (digits_free x bs e g.1)

pub decimal_free : (x n : ℕ) → is_digit x ≡ false → has x (decimal n) ≡ false
decimal_free x n e = digits_free x (decimal n) e (decimal_digits n)

pub has_append : (x : ℕ) (p q : List ℕ) → has x p ≡ false → has x q ≡ false → has x (p ++ q) ≡ false
has_append x [] q e f = f
has_append x (b ∷ p) q e f = by (eqb b x) e (has_append x p q)
  where
    by : (t : Bool) → (t || has x p) ≡ false → (has x p ≡ false → has x q ≡ false → has x (p ++ q) ≡ false) → (t || has x (p ++ q)) ≡ false
    by true g ih = g
    by false g ih = ih g f

-- ---- a number with a byte behind it

-- both stand there and are read up to what follows
pub record NumberThen (x from : ℕ) (text : List ℕ) (r : Counted) : Type 0 where
  pub inside : r.end ≤ length text
  pub small : r.value < numbers
  pub found : drop from text ≡ decimal r.value ++ (x ∷ drop r.end text)
  pub ends : r.end ≡ place_of x from text + 1

module _ (x from : ℕ) (text : List ℕ) where
  abbrev field : List ℕ
  field = field_to x from text

  abbrev place : ℕ
  place = place_of x from text

  -- what is told, by whether the field is a number, and whether the byte is there
  abbrev told : Bool → Bool → Option Counted
  told t u = pick (t && u) (counted (value field) (place + 1)) None

  pub then_not : None ≡ counted_to x from text → None ≡ counted_then x from text
  then_not e = sym (ap (λ (t : Bool). told t (ltb place (length text))) (number_not x from text e))

  module _ {r : Counted} (e : Some r ≡ counted_to x from text) where
    pub then_last : length text ≤ r.end → None ≡ counted_then x from text
    then_last l =
        let s = number_said x from text e in
        sym (ap₂ told s.0 (le-ltb place (length text) (omega (arith, l, s.2))))

    pub then_found : r.end < length text → counted r.value (r.end + 1) ≡ counted_then x from text
    then_found l =
        let s = number_said x from text e in
        ap₂ (λ (v k : ℕ). counted v (k + 1)) s.1 s.2 ∙ sym (ap₂ told s.0 (lt-ltb place (length text) (omega (arith, l, s.2))))

  module _ (h : from ≤ length text) (n : is_digit x ≡ false) where
    -- a number that stands there is read
    stood : (k : ℕ) (more : List ℕ) → k < numbers → drop from text ≡ decimal k ++ (x ∷ more) → (is_number field && ltb place (length text)) ≡ true
    stood k more l s = joins (is_number field) (ltb place (length text)) (ap is_number piece ∙ number_back k l) (lt-ltb place (length text) far)
      where
        piece : field ≡ decimal k
        piece = ap (before x) s ∙ before_piece x (decimal k) more (decimal_free x k n)

        far : place < length text
        far = omega (arith, h, ap length piece, ap length s, length-append (decimal k) (x ∷ more), length-drop from text)

    -- what is told is there, and where nothing is told there is none
    pub then_read : {r : Counted} → Some r ≡ counted_then x from text → NumberThen x from text r
    then_read {r = r} e = by (is_number field && ltb place (length text)) refl e
      where
        by : (t : Bool) → (is_number field && ltb place (length text)) ≡ t → Some r ≡ pick t (counted (value field) (place + 1)) None → NumberThen x from text r
        by false f g = cc
        by true f g =
            let b = both (is_number field) (ltb place (length text)) f in
            let l = ltb-true place (length text) b.1 in
            let h : r ≡ record { value = value field; end = place + 1 } = cc in
            rw h
            record {
              inside = omega (arith, l);
              small = ltb-true (value field) numbers (both (plain field) (ltb (value field) numbers) b.0).1;
              found =
                  has_whole x (drop from text) (found_has x from text {r = place} refl l)
                  ∙ ap (λ (bs : List ℕ). field ++ (x ∷ bs)) (found_behind x from text {r = place} refl l)
                  ∙ ap (λ (bs : List ℕ). bs ++ (x ∷ drop (place + 1) text)) (sym (number_text field b.0));
              ends = refl;
            }

    pub then_none : None ≡ counted_then x from text → (k : ℕ) (more : List ℕ) → k < numbers → drop from text ≡ decimal k ++ (x ∷ more) → ⊥
    then_none e k more l s = by (is_number field && ltb place (length text)) (stood k more l s) e
      where
        by : (t : Bool) → t ≡ true → None ≡ pick t (counted (value field) (place + 1)) None → ⊥
        by true f g = cc
        by false f g = never (sym f)

-- neither of two
neither : (a b : Bool) → not (a || b) ≡ true → (a ≡ false) × (b ≡ false)
neither true b e = absurd (let z : ◌≡◌ {A = ℕ} 0 1 = cc in omega arith)
neither false true e = absurd (let z : ◌≡◌ {A = ℕ} 0 1 = cc in omega arith)
neither false false e = (refl, refl)

entry_free : (e : Entry) → clean e ≡ true → (has tab (entry_text e) ≡ false) × (has line_feed (entry_text e) ≡ false)
entry_free (name s) c = neither (has tab (letters s)) (has line_feed (letters s)) c
entry_free (number n) c = (decimal_free tab n refl, decimal_free line_feed n refl)

-- ---- a line

-- a line is its fields, joined by tabs, and a line feed
pub line_joined : (e : Entry) (es : List Entry) → line_text e es ≡ joined tab (entry_text e ∷ map entry_text es) ++ (line_feed ∷ [])
line_joined e [] = refl
line_joined e (f ∷ es) =
    ap (λ (l : List ℕ). entry_text e ++ (tab ∷ l)) (line_joined f es)
    ∙ sym (append_assoc (entry_text e) (tab ∷ joined tab (entry_text f ∷ map entry_text es)) (line_feed ∷ []))

no_tabs : (es : List Entry) → all_clean es ≡ true → none_has tab (map entry_text es) ≡ true
no_tabs [] c = refl
no_tabs (e ∷ es) c =
    let g = both (clean e) (all_clean es) c in
    rw (entry_free e g.0).0 (no_tabs es g.1)

no_feeds : (e : Entry) (es : List Entry) → all_clean (e ∷ es) ≡ true → has line_feed (joined tab (entry_text e ∷ map entry_text es)) ≡ false
no_feeds e [] c = (entry_free e (both (clean e) true c).0).1
no_feeds e (f ∷ es) c =
    let g = both (clean e) (all_clean (f ∷ es)) c in
    has_append line_feed (entry_text e) (tab ∷ joined tab (entry_text f ∷ map entry_text es)) (entry_free e g.0).1 (no_feeds f es g.1)

-- the fields of a line are cut apart again
pub fields_back : (l : Line) → all_clean (l.first ∷ l.rest) ≡ true → cut tab (bare l) ≡ fields_of l
fields_back l c = cut_joined tab (entry_text l.first) (map entry_text l.rest) (no_tabs (l.first ∷ l.rest) c)

-- a line is cut from what stands behind it
pub line_back : (l : Line) (more : List ℕ) → all_clean (l.first ∷ l.rest) ≡ true
    → rows_in (line_text l.first l.rest ++ more) ≡ record { bytes = bare l; ended = true } ∷ rows_in more
line_back l more c =
    ap (λ (t : List ℕ). rows_in (t ++ more)) (line_joined l.first l.rest)
    ∙ ap rows_in (append_assoc (bare l) (line_feed ∷ []) more)
    ∙ rows_line (bare l) more (no_feeds l.first l.rest c)
