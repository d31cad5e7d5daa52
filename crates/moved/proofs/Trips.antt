-- There and back: `there_and_back`, `back_and_there`, `labels_keep_words`.
-- Assumes nothing.
use Prim.Native.Nat.{ℕ, ◌≤◌}
use mathlib.Core.Path.{◌≡◌, refl, sym, ap, ap₂, subst, ◌∙◌}
use mathlib.Core.List.{List, ◌++◌}
use native.Mathlib.Omega.{arith}
use lib.ListN.{length, take}
use Rattle.listing.specs.Listing.{head_of}
use Rattle.listing_reader.specs.ReadBack.{ReadsBack}
use Rattle.listing_reader.proofs.Unique.{one_answer_read_listing}
use Rattle.editions.specs.Moves.{moved, told_of, lines_judged, labelled, ToLabels, labels_judged, addressed, ToAddresses}
use Rattle.editions.specs.declared.Moved.{Moved}
use Rattle.moved.specs.Moved.{named_lines, ThereAndBack, BackAndThere, LabelsKeepWords}
use Rattle.moved.proofs.Told.{told_room, told_good, told_short, moved_text}
use Rattle.moved.proofs.Words.{Word, AllFine, text_one, text_two, aims_of}
use Rattle.moved.proofs.One.{one_text}
use Rattle.moved.proofs.There.{words_judged, words_labelled}
use Rattle.moved.proofs.Two.{labels_judged_lem, labels_addressed}
use Rattle.moved.proofs.Placed.{two_text}

-- the text of words in edition 2 moves back where there is room
module _ (ws : List Word) (f : AllFine (length ws) ws) (h : length ws ≤ named_lines) where
  abbrev one : List ℕ
  one = head_of 1 ++ text_one 0 ws

  abbrev two : List ℕ
  two = head_of 2 ++ text_two (aims_of ws) 0 ws

  comes_back : (text back addresses : List ℕ) (s : Moved) → text ≡ two → ToAddresses text back addresses s → length one ≤ length back
      → (s ≡ moved (length one)) × (take s.size addresses ≡ one)
  comes_back text back addresses s e q room =
      let written : addressed text ≡ one = ap addressed e ∙ labels_addressed ws f h in
      let told : s ≡ moved (length one) =
      q.answer ∙ ap₂ (told_of (length back)) (ap labels_judged e ∙ labels_judged_lem ws f h) written ∙ told_room (length back) (moved 0) one refl room in
      (told, (moved_text (labels_judged text) (addressed text) back addresses s q (ap (λ (m : Moved). m.number) told)).1 ∙ written)

-- what was told of the lines, where a move told number 0
module _ (text before after : List ℕ) (r : Moved) (z : r.number ≡ 0) where
  -- nothing is wrong with the lines of what was moved to labels, or to addresses
  good_lines : ToLabels text before after r → (lines_judged text).number ≡ 0
  good_lines p = (told_good (length before) (lines_judged text) (labelled text) (ap (λ (m : Moved). m.number) (sym p.answer) ∙ z)).0

  good_labels : ToAddresses text before after r → (labels_judged text).number ≡ 0
  good_labels p = (told_good (length before) (labels_judged text) (addressed text) (ap (λ (m : Moved). m.number) (sym p.answer) ∙ z)).0

-- from edition 1: the words of the text are those of what it moved to, and that moves back to their text
pub there_and_back : ThereAndBack
there_and_back text out labels back addresses r s few p z q room =
    let t = one_text text (good_lines text out labels r z p) in
    let ws = t.0.words in
    let fine : AllFine (length ws) ws = subst (λ (n : ℕ). AllFine n ws) (sym t.0.size) t.0.fine in
    let there : take r.size labels ≡ head_of 2 ++ text_two (aims_of ws) 0 ws =
    (moved_text (lines_judged text) (labelled text) out labels r p z).1 ∙ ap labelled t.1 ∙ words_labelled ws fine in
    let n : length ws ≤ named_lines = subst (λ (k : ℕ). k ≤ named_lines) (sym t.0.size) few in
    let b = comes_back ws fine n (take r.size labels) back addresses s there q (subst (λ (l : List ℕ). length l ≤ length back) t.1 room) in
    (b.0 ∙ ap (λ (l : List ℕ). moved (length l)) (sym t.1), b.1 ∙ sym t.1)

-- from edition 2: what it moved to is the text of words, which goes there and back
pub back_and_there : BackAndThere
back_and_there text out addresses there labels back again r s t few p z q n u room =
    let b = two_text text (omega arith) (good_labels text out addresses r z p) in
    let ws = b.words in
    let h : length ws ≤ named_lines = omega (arith, few, b.few) in
    let told = moved_text (labels_judged text) (addressed text) out addresses r p z in
    let first : take r.size addresses ≡ head_of 1 ++ text_one 0 ws = told.1 ∙ b.same in
    let good : (lines_judged (take r.size addresses)).number ≡ 0 = ap (λ (m : Moved). m.number) (ap lines_judged first ∙ words_judged ws b.fine (omega arith)) in
    let zero : s.number ≡ 0 =
    ap (λ (m : Moved). m.number) q.answer
    ∙ told_short (length there) (lines_judged (take r.size addresses)) (labelled (take r.size addresses)) good (λ e. n (ap (λ (m : Moved). m.number) q.answer ∙ e)) in
    let shown : take s.size labels ≡ head_of 2 ++ text_two (aims_of ws) 0 ws =
    (moved_text (lines_judged (take r.size addresses)) (labelled (take r.size addresses)) there labels s q zero).1 ∙ ap labelled first ∙ words_labelled ws b.fine in
    let size : r.size ≡ length (head_of 1 ++ text_one 0 ws) = ap (λ (m : Moved). m.size) told.0 ∙ ap length b.same in
    let c = comes_back ws b.fine h (take s.size labels) back again t shown u (subst (λ (k : ℕ). k ≤ length back) size room) in
    (zero, (c.0 ∙ sym (told.0 ∙ ap (λ (l : List ℕ). moved (length l)) b.same), c.1 ∙ sym first))

-- the text that comes back is the text, and that reads back in one way
pub labels_keep_words : LabelsKeepWords
labels_keep_words rules text out labels back addresses before words words' r s w w' few p z q room c c' =
    let same = (there_and_back text out labels back addresses r s few p z q room).1 in
    one_answer_read_listing rules text before (subst (λ (l : List ℕ). ReadsBack rules l before words' w') same c') c
