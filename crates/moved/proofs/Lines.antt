-- Lines made of fields: what was made of clean fields is cut into the same line and the same fields again.
-- Assumes nothing.
use Prim.Native.Nat.{ℕ}
use mathlib.Core.Path.{◌≡◌, refl, sym, ap, ◌∙◌}
use mathlib.Core.Bool.{Bool, true, false, not, ◌||◌, ◌&&◌}
use mathlib.Core.List.{List, [], ◌∷◌, ◌++◌, append_assoc}
use lib.Seq.{take-append_seam, drop-append_seam}
use Rattle.instruction.specs.Bits.{pick}
use Rattle.text.specs.Cut.{tab, line_feed, Row, rows_in, fields_in, has, joined, same_text}
use Rattle.text.proofs.Alike.{same_self}
use Rattle.text.proofs.Back.{has_append}
use Rattle.text.proofs.Bools.{both, never}
use Rattle.text.proofs.Cuts.{none_has, cut_joined}
use Rattle.text.proofs.Rows.{rows_line}
use Rattle.listing.specs.Listing.{head_of}
use Rattle.listing_reader.specs.ReadBack.{is_edition, rows_behind}
use Rattle.editions.specs.Editions.{line_of}

-- neither a tab nor a line feed
abbrev pub clean_field : List ℕ → Bool
clean_field f = not (has tab f || has line_feed f)

abbrev pub clean_fields : List (List ℕ) → Bool
clean_fields [] = true
clean_fields (f ∷ fs) = clean_field f && clean_fields fs

-- a line that was made of fields
abbrev pub row_of : List (List ℕ) → Row
row_of fs = record { bytes = joined tab fs; ended = true }

clean_not : (f : List ℕ) → clean_field f ≡ true → (has tab f ≡ false) × (has line_feed f ≡ false)
clean_not f e = by (has tab f) (has line_feed f) refl refl e
  where
    by : (t u : Bool) → has tab f ≡ t → has line_feed f ≡ u → not (t || u) ≡ true → (has tab f ≡ false) × (has line_feed f ≡ false)
    by false false p q g = (p, q)
    by false true p q g = never (sym g)
    by true u p q g = never (sym g)

-- a field that has neither is clean
pub clean_is : (f : List ℕ) → has tab f ≡ false → has line_feed f ≡ false → clean_field f ≡ true
clean_is f e g = rw (e, g)

-- what clean fields have not, and a line of them
no_tabs : (fs : List (List ℕ)) → clean_fields fs ≡ true → none_has tab fs ≡ true
no_tabs [] c = refl
no_tabs (f ∷ fs) c =
    let g = both (clean_field f) (clean_fields fs) c in
    ap (λ (t : Bool). pick t false (none_has tab fs)) (clean_not f g.0).0 ∙ no_tabs fs g.1

no_feeds : (f : List ℕ) (fs : List (List ℕ)) → clean_fields (f ∷ fs) ≡ true → has line_feed (joined tab (f ∷ fs)) ≡ false
no_feeds f [] c = (clean_not f (both (clean_field f) true c).0).1
no_feeds f (g ∷ fs) c =
    let h = both (clean_field f) (clean_fields (g ∷ fs)) c in
    has_append line_feed f (tab ∷ joined tab (g ∷ fs)) (clean_not f h.0).1 (no_feeds g fs h.1)

-- the fields of a line are cut apart again
pub fields_again : (f : List ℕ) (fs : List (List ℕ)) → clean_fields (f ∷ fs) ≡ true → fields_in (row_of (f ∷ fs)) ≡ f ∷ fs
fields_again f fs c = cut_joined tab f fs (no_tabs (f ∷ fs) c)

-- a line is cut from what stands behind it
pub line_again : (f : List ℕ) (fs : List (List ℕ)) (more : List ℕ) → clean_fields (f ∷ fs) ≡ true → rows_in (line_of (f ∷ fs) ++ more) ≡ row_of (f ∷ fs) ∷ rows_in more
line_again f fs more c =
    ap rows_in (append_assoc (joined tab (f ∷ fs)) (line_feed ∷ []) more)
    ∙ rows_line (joined tab (f ∷ fs)) more (no_feeds f fs c)

-- ---- the header before lines

-- the text has the edition of its header, and its lines stand behind that
pub edition_again : (edition : ℕ) (more : List ℕ) → is_edition edition (head_of edition ++ more) ≡ true
edition_again edition more = ap (λ (t : List ℕ). same_text t (head_of edition)) (take-append_seam (head_of edition) more) ∙ same_self (head_of edition)

pub behind_again : (edition : ℕ) (more : List ℕ) → rows_behind edition (head_of edition ++ more) ≡ rows_in more
behind_again edition more = ap rows_in (drop-append_seam (head_of edition) more)
