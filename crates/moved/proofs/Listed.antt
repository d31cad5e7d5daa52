-- `listing_moves`: a listing moves to labels, but for the first word that is refused.
-- Assumes nothing.
use Prim.Native.Nat.{ℕ, suc, ◌+◌, ◌≤◌, ◌<◌}
use mathlib.Core.Path.{◌≡◌, refl, ap, ap₂, ◌∙◌}
use mathlib.Core.Bool.{Bool}
use mathlib.Core.List.{List, [], ◌∷◌, ◌++◌, map}
use native.Mathlib.Omega.{arith}
use lib.ListN.{length}
use Rattle.instruction.specs.Bits.{pick}
use Rattle.instruction.specs.declared.Rules.{Rules}
use Rattle.reader.specs.Reading.{Reading, reading_of}
use Rattle.std.specs.declared.result.Result.TheVariants.{Ok, Err}
use Rattle.text.specs.Cut.{Row, rows_in}
use Rattle.text.specs.Line.{number, decimal, entry_text, line_text, text_of}
use Rattle.text.specs.Number.{numbers}
use Rattle.text.proofs.Back.{line_joined}
use Rattle.names.specs.Names.{name_at}
use Rattle.listing.specs.Listing.{entries_in, word_lines, listed}
use Rattle.editions.specs.Editions.{line_of, number_one}
use Rattle.editions.specs.Moves.{refused_at, told_of, judged_one, lines_judged, labelled}
use Rattle.editions.specs.declared.Moved.{Moved}
use Rattle.moved.specs.Moved.{Aims, AllAim, bad_reading, bad_line, ListingMoves}
use Rattle.moved.proofs.Lines.{row_of, line_again, edition_again, behind_again}
use Rattle.moved.proofs.Words.{numerals, fields_one, clean_one}
use Rattle.moved.proofs.One.{one_good, judged_next, judged_bad, judged_none}
use Rattle.moved.proofs.Shown.{accepted_word, clean_bad, bad_63}

-- ---- the line of a word

-- the number of what is read
abbrev number_in : Reading → ℕ
number_in (Ok i) = 0
number_in (Err r) = 63

-- a line, with what stands behind it, is cut off, and has this number
record Lined (n a : ℕ) (x : Reading) (more : List ℕ) : Type 0 where
  row : Row
  first : rows_in (line_text (number a) (entries_in x) ++ more) ≡ row ∷ rows_in more
  number : number_one n a row ≡ number_in x

-- the line of an accepted word is good, and that of a refused one is 63
lined : (rules : Rules) (n a w : ℕ) (more : List ℕ) → a < numbers → Aims rules n w → (x : Reading) → reading_of rules w ≡ x → Lined n a x more
lined rules n a w more h aim (Ok i) e =
    let r = accepted_word rules n a w i e aim in
    record {
      row = row_of (fields_one a r.word);
      first =
          ap (λ (l : List ℕ). rows_in (l ++ more)) (line_joined (number a) (entries_in (Ok i)) ∙ ap line_of r.fields)
          ∙ line_again (decimal a) (name_at r.word.row ∷ numerals r.word) more (clean_one a r.word r.fine);
      number = one_good a h r.word r.fine;
    }
lined rules n a w more h aim (Err r) e =
    record {
      row = row_of (decimal a ∷ map entry_text (entries_in (Err r)));
      first =
          ap (λ (l : List ℕ). rows_in (l ++ more)) (line_joined (number a) (entries_in (Err r)))
          ∙ line_again (decimal a) (map entry_text (entries_in (Err r))) more (clean_bad a r);
      number = bad_63 a r n h;
    }

-- what is judged of it and of those behind it
judged_line : (n a : ℕ) (x : Reading) (row : Row) (rows : List Row) → number_one n a row ≡ number_in x → judged_one n a (row ∷ rows) ≡ bad_reading x a (judged_one n (a + 1) rows)
judged_line n a (Ok i) row rows e = judged_next n a row rows e
judged_line n a (Err r) row rows e = judged_bad n a row rows (λ z. omega arith) ∙ ap (λ (k : ℕ). refused_at k (a + 2)) e

-- ---- lines, one after the other

record Judged (rules : Rules) (n a : ℕ) (words : List ℕ) (rows : List Row) : Type 0 where
  size : length rows ≡ length words
  told : judged_one n a rows ≡ bad_line rules a words

-- as many lines as words, and the first refused word is the first bad line
lines_judged_lem : (rules : Rules) (n a : ℕ) (words : List ℕ) → AllAim rules n words → a + length words ≤ numbers → Judged rules n a words (rows_in (text_of (word_lines rules a words)))
lines_judged_lem rules n a [] aim h = record { size = refl; told = judged_none n a }
lines_judged_lem rules n a (w ∷ words) aim h =
    let x = reading_of rules w in
    let more = text_of (word_lines rules (a + 1) words) in
    let l = lined rules n a w more (omega arith) aim.0 x refl in
    let ih = lines_judged_lem rules n (a + 1) words aim.1 (omega arith) in
    record {
      size = ap length l.first ∙ ap suc ih.size;
      told = ap (judged_one n a) l.first ∙ judged_line n a x l.row (rows_in more) l.number ∙ ap (bad_reading x a) ih.told;
    }

-- ---- a listing

pub listing_moves : ListingMoves
unfolding lines_judged
listing_moves rules words before after r aim h p =
    let rest = text_of (word_lines rules 0 words) in
    let j = lines_judged_lem rules (length words) 0 words aim (omega arith) in
    let judged : lines_judged (listed rules words) ≡ bad_line rules 0 words =
    ap₂ (λ (t : Bool) (l : List Row). pick t (judged_one (length l) 0 l) (refused_at 60 1)) (edition_again 1 rest) (behind_again 1 rest)
    ∙ ap (λ (n : ℕ). judged_one n 0 (rows_in rest)) j.size
    ∙ j.told in
    p.answer ∙ ap (λ (m : Moved). told_of (length before) m (labelled (listed rules words))) judged
