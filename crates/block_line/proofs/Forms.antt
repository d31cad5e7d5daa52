-- A line of a text as it is written: one of the four shapes that stands at a place is the first line there, and no other line has a shape.
-- Assumes nothing.
use Prim.Native.Nat.{ℕ, ◌+◌, ◌-◌, ◌≤◌, ◌<◌}
use Prim.Native.String.{String}
use mathlib.Core.Path.{◌≡◌, refl, sym, ap, ap₂, ◌∙◌}
use mathlib.Core.Bool.{Bool, true, false}
use mathlib.Core.List.{List, [], ◌∷◌, ◌++◌, map, append_assoc}
use borrow.Author.Tests.{ltb-true}
use lib.Dec.{ltb}
use lib.ListN.{length, take, drop}
use Rattle.text.specs.Cut.{tab, line_feed, cut, rows_in, place_of, joined}
use Rattle.text.specs.Line.{name, number, letters, decimal, Entry, entry_text, line_text, Line as Written}
use Rattle.text.specs.Number.{value, numbers, plain, is_number}
use Rattle.text.proofs.Back.{clean_name, all_clean, number_back, number_text, fields_back, line_back}
use Rattle.text.proofs.Bools.{both, joins}
use Rattle.text.proofs.Cuts.{has_whole, joined_cut, found_has, found_piece, found_behind}
use Rattle.text.proofs.Decimals.{decimal_value}
use Rattle.text.proofs.Rows.{rows_none, rows_next}
use Rattle.fields.specs.Fields.{all_numbers}
use Rattle.nest.specs.declared.Line.{Line}
use Rattle.nest.specs.declared.Line.TheVariants.{Pulse, Repeat, End, Unshaped}
use Rattle.block_line.specs.Line.{pulse_of, line_named, line_in, line_of}
use Rattle.block_line.specs.Taking.{lines_from, line_at, play_name, hold_name, repeat_name, end_name}
use Rattle.block_line.proofs.Shapes.{Shape, none, plays, holds, repeats, ends, shape_of}

-- ---- a line that is written is read

-- what stands behind a name: a number, or two, up to the line's end
abbrev pub one_number : ℕ → List ℕ → List ℕ
one_number a more = decimal a ++ (line_feed ∷ more)

abbrev pub two_numbers : ℕ → ℕ → List ℕ → List ℕ
two_numbers a b more = decimal a ++ (tab ∷ one_number b more)

abbrev AllSmall : List ℕ → Type 0
AllSmall [] = Unit {0}
AllSmall (v ∷ vs) = (v < numbers) × AllSmall vs

abbrev entries : List ℕ → List Entry
entries vs = map number vs

all_clean_lem : (vs : List ℕ) → all_clean (entries vs) ≡ true
all_clean_lem [] = refl
all_clean_lem (v ∷ vs) = all_clean_lem vs

all_numbers_lem : (vs : List ℕ) → AllSmall vs → all_numbers (map entry_text (entries vs)) ≡ true
all_numbers_lem [] h = refl
all_numbers_lem (v ∷ vs) h = joins (is_number (decimal v)) (all_numbers (map entry_text (entries vs))) (number_back v h.0) (all_numbers_lem vs h.1)

all_values : (vs : List ℕ) → map value (map entry_text (entries vs)) ≡ vs
all_values [] = refl
all_values (v ∷ vs) = ap₂ (λ (x : ℕ) (l : List ℕ). x ∷ l) (decimal_value v) (all_values vs)

-- a name and numbers
read_back_lem : (s : String) (vs : List ℕ) (more : List ℕ) → clean_name s ≡ true → AllSmall vs
    → map line_of (rows_in (line_text (name s) (entries vs) ++ more)) ≡ line_named (letters s) vs ∷ map line_of (rows_in more)
unfolding line_of
read_back_lem s vs more c h =
    let l : Written = record { first = name s; rest = entries vs } in
    let clean = joins (clean_name s) (all_clean (entries vs)) c (all_clean_lem vs) in
    ap (map line_of) (line_back l more clean)
    ∙ ap (λ (fs : List (List ℕ)). line_in fs ∷ map line_of (rows_in more)) (fields_back l clean)
    ∙ rw (all_numbers_lem vs h, all_values vs)

-- ---- the four shapes

two_joined : (a b : ℕ) (more : List ℕ) → (decimal a ++ (tab ∷ (decimal b ++ (line_feed ∷ [])))) ++ more ≡ two_numbers a b more
two_joined a b more =
    append_assoc (decimal a) (tab ∷ (decimal b ++ (line_feed ∷ []))) more
    ∙ ap (λ (l : List ℕ). decimal a ++ (tab ∷ l)) (append_assoc (decimal b) (line_feed ∷ []) more)

abbrev lines_of : List ℕ → List Line
lines_of s = map line_of (rows_in s)

module _ (a b : ℕ) (more : List ℕ) (h : a < numbers) (l : b < numbers) where
  pub play_read : lines_of (play_name ++ two_numbers a b more) ≡ Pulse (pulse_of 0 (a ∷ b ∷ [])) ∷ lines_of more
  play_read = ap (λ (s : List ℕ). lines_of (play_name ++ s)) (sym (two_joined a b more)) ∙ read_back_lem "play" (a ∷ b ∷ []) more refl (h, (l, tt))

  pub hold_read : lines_of (hold_name ++ two_numbers a b more) ≡ Pulse (pulse_of 1 (a ∷ b ∷ [])) ∷ lines_of more
  hold_read = ap (λ (s : List ℕ). lines_of (hold_name ++ s)) (sym (two_joined a b more)) ∙ read_back_lem "hold" (a ∷ b ∷ []) more refl (h, (l, tt))

pub repeat_read : (a : ℕ) (more : List ℕ) → a < numbers → lines_of (repeat_name ++ one_number a more) ≡ Repeat a ∷ lines_of more
repeat_read a more h =
    ap (λ (s : List ℕ). lines_of (repeat_name ++ s)) (sym (append_assoc (decimal a) (line_feed ∷ []) more))
    ∙ read_back_lem "repeat" (a ∷ []) more refl (h, tt)

pub end_read : (more : List ℕ) → lines_of (end_name ++ more) ≡ End ∷ lines_of more
end_read more = read_back_lem "end" [] more refl tt

-- ---- the first line of a text

-- it has no shape, or one of the four stands there
pub data First (text : List ℕ) (at : ℕ) : Type 0 where
  unshaped : (rest : List Line) → lines_from text at ≡ Unshaped ∷ rest → First text at
  playing : (a b : ℕ) (more : List ℕ) → a < numbers → b < numbers → drop at text ≡ play_name ++ two_numbers a b more → First text at
  holding : (a b : ℕ) (more : List ℕ) → a < numbers → b < numbers → drop at text ≡ hold_name ++ two_numbers a b more → First text at
  repeating : (a : ℕ) (more : List ℕ) → a < numbers → drop at text ≡ repeat_name ++ one_number a more → First text at
  ending : (more : List ℕ) → drop at text ≡ end_name ++ more → First text at

number_small : (bs : List ℕ) → is_number bs ≡ true → value bs < numbers
number_small bs e = ltb-true (value bs) numbers (both (plain bs) (ltb (value bs) numbers) e).1

pub lines_none : (text : List ℕ) (at : ℕ) → length text ≤ at → lines_from text at ≡ []
lines_none text at h = ap (map line_of) (rows_none text at h)

module _ (text : List ℕ) (at : ℕ) (h : at < length text) where
  abbrev end : ℕ
  end = place_of line_feed at text

  abbrev bytes : List ℕ
  bytes = take (end - at) (drop at text)

  abbrev more : List ℕ
  more = drop (end + 1) text

  pub first_row : lines_from text at ≡ line_at text at ∷ lines_from text (end + 1)
  first_row = ap (map line_of) (rows_next text at {end = end} refl h)

  -- a line whose line feed is missing
  unended : ltb end (length text) ≡ false → line_at text at ≡ Unshaped
  unfolding line_of
  unended e = ap (λ (t : Bool). line_of (record { bytes = bytes; ended = t })) e

  -- a line with a shape has it
  pub feed_inside : (line_at text at ≡ Unshaped → ⊥) → end < length text
  feed_inside n = by (ltb end (length text)) refl
    where
      by : (t : Bool) → ltb end (length text) ≡ t → end < length text
      by true e = ltb-true end (length text) e
      by false e = absurd (n (unended e))

  module _ (e : ltb end (length text) ≡ true) where
    inside : end < length text
    inside = ltb-true end (length text) e

    whole : {fs : List (List ℕ)} → cut tab bytes ≡ fs → drop at text ≡ joined tab fs ++ (line_feed ∷ more)
    whole f =
        has_whole line_feed (drop at text) (found_has line_feed at text {r = end} refl inside)
        ∙ ap₂ (λ (p q : List ℕ). p ++ (line_feed ∷ q)) (sym (found_piece line_feed at text {r = end} refl)) (found_behind line_feed at text {r = end} refl inside)
        ∙ ap (λ (p : List ℕ). p ++ (line_feed ∷ more)) (sym (joined_cut tab bytes) ∙ ap (joined tab) f)

    two_texts : (a b : List ℕ) → is_number a ≡ true → is_number b ≡ true → (a ++ (tab ∷ b)) ++ (line_feed ∷ more) ≡ two_numbers (value a) (value b) more
    two_texts a b n m =
        append_assoc a (tab ∷ b) (line_feed ∷ more)
        ∙ ap₂ (λ (p q : List ℕ). p ++ (tab ∷ (q ++ (line_feed ∷ more)))) (sym (number_text a n)) (sym (number_text b m))

    ended : First text at
    unfolding line_of
    ended = by (shape_of (cut tab bytes))
      where
        by : Shape (cut tab bytes) → First text at
        by (none f) =
            unshaped (lines_from text (end + 1))
            (first_row ∙ ap (λ (t : Bool). line_of (record { bytes = bytes; ended = t }) ∷ lines_from text (end + 1)) e ∙ ap (λ (l : Line). l ∷ lines_from text (end + 1)) f)
        by (plays a b n m f) =
            playing (value a) (value b) more (number_small a n) (number_small b m) (whole f ∙ ap (λ (l : List ℕ). play_name ++ l) (two_texts a b n m))
        by (holds a b n m f) =
            holding (value a) (value b) more (number_small a n) (number_small b m) (whole f ∙ ap (λ (l : List ℕ). hold_name ++ l) (two_texts a b n m))
        by (repeats a n f) =
            repeating (value a) more (number_small a n) (whole f ∙ ap (λ (p : List ℕ). repeat_name ++ (p ++ (line_feed ∷ more))) (sym (number_text a n)))
        by (ends f) = ending more (whole f)

  pub first_line : First text at
  first_line = by (ltb end (length text)) refl
    where
      by : (t : Bool) → ltb end (length text) ≡ t → First text at
      by true e = ended e
      by false e = unshaped (lines_from text (end + 1)) (first_row ∙ ap (λ (l : Line). l ∷ lines_from text (end + 1)) (unended e))
