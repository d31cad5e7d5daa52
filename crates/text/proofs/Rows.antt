-- Laws of lines and fields: the first, and the rest; and none where nothing stands.
-- Assumes nothing.
use Prim.Native.Nat.{ℕ, ◌+◌, ◌-◌, ◌≤◌, ◌<◌}
use mathlib.Core.Path.{◌≡◌, refl, sym, ap, ◌∙◌}
use mathlib.Core.Bool.{Bool, true, false}
use mathlib.Core.List.{List, [], ◌∷◌, ◌++◌}
use native.Mathlib.Omega.{arith}
use native.Mathlib.Decide.{dec_lt}
use borrow.Author.Tests.{lt-ltb, le-ltb}
use lib.ListN.{length, take, drop, drop_of_length-le, length-drop}
use lib.Seq.{take_all}
use Rattle.instruction.specs.Bits.{pick}
use Rattle.text.specs.Cut.{tab, line_feed, cut, place_of, Row, rows_of, rows_in, row_at, fields_after, has}
use Rattle.text.proofs.Cuts.{behind, cut_first, cut_piece, cut_found, cut_last_found}

abbrev row : List ℕ → Bool → Row
row bs e = record { bytes = bs; ended = e }

-- lines behind a piece that has its line feed
rows_more : (p bs : List ℕ) → rows_of (p ∷ cut line_feed bs) ≡ row p true ∷ rows_of (cut line_feed bs)
rows_more p bs =
    let rest = pick (has line_feed bs) (cut line_feed (behind line_feed bs)) [] in
    ap (λ (ps : List (List ℕ)). rows_of (p ∷ ps)) (cut_first line_feed bs)
    ∙ ap (λ (ps : List (List ℕ)). row p true ∷ rows_of ps) (sym (cut_first line_feed bs))

-- a line with its line feed, and more
pub rows_line : (p bs : List ℕ) → has line_feed p ≡ false → rows_in (p ++ (line_feed ∷ bs)) ≡ row p true ∷ rows_in bs
rows_line p bs e = ap rows_of (cut_piece line_feed p bs e) ∙ rows_more p bs

module _ (text : List ℕ) (at : ℕ) where
  pub rows_none : length text ≤ at → rows_in (drop at text) ≡ []
  rows_none h = ap rows_in (drop_of_length-le text h)

  module _ {end : ℕ} (f : end ≡ place_of line_feed at text) (h : at < length text) where
    whole : end < length text → rows_in (drop at text) ≡ row_at text at end ∷ rows_in (drop (end + 1) text)
    whole l =
        ap rows_of (cut_found line_feed at text f l)
        ∙ rows_more (take (end - at) (drop at text)) (drop (end + 1) text)
        ∙ ap (λ (t : Bool). row (take (end - at) (drop at text)) t ∷ rows_in (drop (end + 1) text)) (sym (lt-ltb end (length text) l))

    alone : (bs : List ℕ) → 0 < length bs → rows_of (bs ∷ []) ≡ row bs false ∷ []
    alone [] k = absurd (omega arith)
    alone (b ∷ bs) k = refl

    last : length text ≤ end → rows_in (drop at text) ≡ row_at text at end ∷ rows_in (drop (end + 1) text)
    last l =
        ap rows_of (cut_last_found line_feed at text f l (omega arith))
        ∙ alone (drop at text) (omega (arith, length-drop at text))
        ∙ ap (λ (bs : List ℕ). row bs false ∷ []) (sym (take_all (end - at) (drop at text) (omega (arith, length-drop at text))))
        ∙ ap (λ (t : Bool). row (take (end - at) (drop at text)) t ∷ []) (sym (le-ltb end (length text) l))
        ∙ ap (λ (bs : List ℕ). row_at text at end ∷ rows_in bs) (sym (drop_of_length-le text {i = end + 1} (omega arith)))

    -- the first line, and the rest
    pub rows_next : rows_in (drop at text) ≡ row_at text at end ∷ rows_in (drop (end + 1) text)
    rows_next = by (dec_lt end (length text))
      where
        by : Dec (end < length text) → rows_in (drop at text) ≡ row_at text at end ∷ rows_in (drop (end + 1) text)
        by (yes l) = whole l
        by (no l) = last (omega arith)

-- ---- fields

module _ (line : List ℕ) where
  pub after_last : (end : ℕ) → length line ≤ end → fields_after end line ≡ []
  after_last end h = rw (le-ltb end (length line) h)

  -- a field, and those behind it
  module _ (at : ℕ) {end : ℕ} (f : end ≡ place_of tab at line) (h : at ≤ length line) where
    pub field_next : cut tab (drop at line) ≡ take (end - at) (drop at line) ∷ fields_after end line
    field_next = by (dec_lt end (length line))
      where
        by : Dec (end < length line) → cut tab (drop at line) ≡ take (end - at) (drop at line) ∷ fields_after end line
        by (yes l) = cut_found tab at line f l ∙ ap (λ (t : Bool). take (end - at) (drop at line) ∷ pick t (cut tab (drop (end + 1) line)) []) (sym (lt-ltb end (length line) l))
        by (no l) =
            cut_last_found tab at line f (omega arith) h
            ∙ ap (λ (bs : List ℕ). bs ∷ []) (sym (take_all (end - at) (drop at line) (omega (arith, length-drop at line))))
            ∙ ap (λ (fs : List (List ℕ)). take (end - at) (drop at line) ∷ fs) (sym (after_last end (omega arith)))

  pub after_next : (at : ℕ) {end : ℕ} → at < length line → end ≡ place_of tab (at + 1) line
      → fields_after at line ≡ take (end - (at + 1)) (drop (at + 1) line) ∷ fields_after end line
  after_next at h f = ap (λ (t : Bool). pick t (cut tab (drop (at + 1) line)) []) (lt-ltb at (length line) h) ∙ field_next (at + 1) f (omega arith)
