-- What a word's line moves to, byte by byte: its address, a tab, and the line itself, with an address in place of its label where it jumps.
-- Assumes nothing.
use Prim.Native.Nat.{ℕ, suc, ◌+◌, ◌-◌, ◌≤◌}
use mathlib.Core.Path.{◌≡◌, refl, sym, ap, ap₂, ◌∙◌}
use mathlib.Core.Bool.{Bool, true, false, ◌&&◌}
use mathlib.Core.List.{List, [], ◌∷◌, ◌++◌, append_assoc}
use native.Mathlib.Omega.{arith}
use borrow.Author.Tests.{eqb-true}
use lib.Dec.{eqb}
use lib.ListN.{length, get_or, take, drop, length-append, length-drop}
use lib.Seq.{take-append_seam, drop-append_seam, length-take-le}
use Rattle.instruction.specs.Bits.{pick}
use Rattle.text.specs.Cut.{tab, line_feed, cut, joined}
use Rattle.text.specs.Line.{decimal}
use Rattle.text.proofs.Bools.{both}
use Rattle.text.proofs.Cuts.{joined_cut, cut_first}
use Rattle.fields.specs.Fields.{all_numbers}
use Rattle.label.specs.Label.{is_label}
use Rattle.editions.specs.Editions.{line_of, aimed, name_two, fields_two, jumps_two, target_two}
use Rattle.editions.specs.Moves.{Definition, meaning_in, fields_placed}
use Rattle.editions.specs.Told.{has_target, final, final_from}

-- ---- three fields behind a name

-- all but the last
front : List ℕ → List ℕ → List ℕ → List ℕ
front n e w = n ++ (tab ∷ (e ++ (tab ∷ (w ++ (tab ∷ [])))))

four : (n e w y : List ℕ) → joined tab (n ∷ e ∷ w ∷ y ∷ []) ≡ front n e w ++ y
unfolding front
four n e w y =
    ap (λ (l : List ℕ). n ++ (tab ∷ (e ++ (tab ∷ l)))) (sym (append_assoc w (tab ∷ []) y))
    ∙ ap (λ (l : List ℕ). n ++ (tab ∷ l)) (sym (append_assoc e (tab ∷ (w ++ (tab ∷ []))) y))
    ∙ sym (append_assoc n (tab ∷ (e ++ (tab ∷ (w ++ (tab ∷ []))))) y)

-- what stands before the last field
front_is : (p t line : List ℕ) (from : ℕ) → p ++ t ≡ line → drop from line ≡ t → from ≤ length line → take from line ≡ p
front_is p t line from e d l =
    let s : from ≡ length p = omega (arith, ap length e, length-append p t, ap length d, length-drop from line) in
    ap₂ (λ (k : ℕ) (x : List ℕ). take k x) s (sym e) ∙ take-append_seam p t

-- with another target
aimed_line : (fs : List (List ℕ)) (x line : List ℕ) (from : ℕ) → joined tab fs ≡ line → length (fields_two fs) ≡ 3 → drop from line ≡ target_two fs → from ≤ length line
    → joined tab (name_two fs ∷ aimed x (fields_two fs)) ≡ take from line ++ x
aimed_line [] x line from j n d l = absurd (omega (arith, n))
aimed_line (f ∷ []) x line from j n d l = absurd (omega (arith, n))
aimed_line (f ∷ g ∷ []) x line from j n d l = absurd (omega (arith, n))
aimed_line (f ∷ g ∷ h ∷ []) x line from j n d l = absurd (omega (arith, n))
aimed_line (f ∷ g ∷ h ∷ t ∷ []) x line from j n d l = four f g h x ∙ ap (λ (p : List ℕ). p ++ x) (sym (front_is (front f g h) t line from (sym (four f g h t) ∙ j) d l))
aimed_line (f ∷ g ∷ h ∷ t ∷ u ∷ us) x line from j n d l = absurd (omega (arith, n))

-- ---- a line

-- a line is its fields
whole : (line : List ℕ) → joined tab (name_two (cut tab line) ∷ fields_two (cut tab line)) ≡ line
whole line = ap (joined tab) (some (cut tab line) (ap length (cut_first tab line))) ∙ joined_cut tab line
  where
    some : (fs : List (List ℕ)) {n : ℕ} → length fs ≡ suc n → name_two fs ∷ fields_two fs ≡ fs
    some [] e = absurd (omega (arith, e))
    some (f ∷ fs) e = refl

module _ (ds : List Definition) (a : ℕ) (line : List ℕ) where
  -- behind the address
  behind_address : (gs : List (List ℕ)) (rest : List ℕ) → joined tab (name_two (cut tab line) ∷ gs) ≡ rest
      → line_of (decimal a ∷ name_two (cut tab line) ∷ gs) ≡ decimal a ++ (tab ∷ (rest ++ (line_feed ∷ [])))
  behind_address gs rest e =
      append_assoc (decimal a) (tab ∷ joined tab (name_two (cut tab line) ∷ gs)) (line_feed ∷ [])
      ∙ ap (λ (l : List ℕ). decimal a ++ (tab ∷ (l ++ (line_feed ∷ [])))) e

  placed_by : {t : Bool} → jumps_two (cut tab line) ≡ t
      → line_of (fields_placed ds a (cut tab line))
      ≡ line_of (decimal a ∷ name_two (cut tab line) ∷ pick t (aimed (decimal (meaning_in ds (target_two (cut tab line)))) (fields_two (cut tab line))) (fields_two (cut tab line)))
  placed_by j = ap (λ (t : Bool). line_of (decimal a ∷ name_two (cut tab line) ∷ pick t (aimed (decimal (meaning_in ds (target_two (cut tab line)))) (fields_two (cut tab line))) (fields_two (cut tab line)))) j

  pub placed_plain : jumps_two (cut tab line) ≡ false → line_of (fields_placed ds a (cut tab line)) ≡ decimal a ++ (tab ∷ (line ++ (line_feed ∷ [])))
  placed_plain j = placed_by j ∙ behind_address (fields_two (cut tab line)) line (whole line)

  pub plain_size : jumps_two (cut tab line) ≡ false → length (line_of (fields_placed ds a (cut tab line))) ≡ length (decimal a) + 2 + length line
  plain_size j =
      let e = ap length (placed_plain j) in
      let f = length-append (decimal a) (tab ∷ (line ++ (line_feed ∷ []))) in
      let g = length-append line (line_feed ∷ []) in
      omega (arith, e, f, g)

  module _ (j : jumps_two (cut tab line) ≡ true) (h : has_target (fields_two (cut tab line)) ≡ true) {from : ℕ} (d : drop from line ≡ target_two (cut tab line)) (l : from ≤ length line) where
    three : length (fields_two (cut tab line)) ≡ 3
    three = eqb-true (length (fields_two (cut tab line))) 3 (both (eqb (length (fields_two (cut tab line))) 3) (all_numbers (take 2 (fields_two (cut tab line))) && is_label (get_or (fields_two (cut tab line)) 2 [])) h).0

    pub placed_jump : line_of (fields_placed ds a (cut tab line)) ≡ decimal a ++ (tab ∷ (take from line ++ (decimal (meaning_in ds (target_two (cut tab line))) ++ (line_feed ∷ []))))
    placed_jump =
        placed_by j
        ∙ behind_address (aimed (decimal (meaning_in ds (target_two (cut tab line)))) (fields_two (cut tab line))) (take from line ++ decimal (meaning_in ds (target_two (cut tab line))))
        (aimed_line (cut tab line) (decimal (meaning_in ds (target_two (cut tab line)))) line from (joined_cut tab line) three d l)
        ∙ ap (λ (l : List ℕ). decimal a ++ (tab ∷ l)) (append_assoc (take from line) (decimal (meaning_in ds (target_two (cut tab line)))) (line_feed ∷ []))

    pub jump_size : length (line_of (fields_placed ds a (cut tab line))) ≡ length (decimal a) + 2 + length (decimal (meaning_in ds (target_two (cut tab line)))) + from
    jump_size =
        let m = decimal (meaning_in ds (target_two (cut tab line))) in
        let e = ap length placed_jump in
        let f = length-append (decimal a) (tab ∷ (take from line ++ (decimal (meaning_in ds (target_two (cut tab line))) ++ (line_feed ∷ [])))) in
        let g = length-append (take from line) (decimal (meaning_in ds (target_two (cut tab line))) ++ (line_feed ∷ [])) in
        let i = length-append (decimal (meaning_in ds (target_two (cut tab line)))) (line_feed ∷ []) in
        let k = length-take-le from line l in
        omega (arith, e, f, g, i, k)

-- ---- the last field

-- of a line with three fields behind its name it is the target
last_four : (fs : List (List ℕ)) (line : List ℕ) → joined tab fs ≡ line → length (fields_two fs) ≡ 3 → drop (length line - length (final fs)) line ≡ target_two fs
last_four [] line j n = absurd (omega (arith, n))
last_four (f ∷ []) line j n = absurd (omega (arith, n))
last_four (f ∷ g ∷ []) line j n = absurd (omega (arith, n))
last_four (f ∷ g ∷ h ∷ []) line j n = absurd (omega (arith, n))
last_four (f ∷ g ∷ h ∷ t ∷ []) line j n =
    let whole = sym (four f g h t) ∙ j in
    let s : length line - length t ≡ length (front f g h) = omega (arith, ap length whole, length-append (front f g h) t) in
    ap₂ (λ (k : ℕ) (x : List ℕ). drop k x) s (sym whole) ∙ drop-append_seam (front f g h) t
last_four (f ∷ g ∷ h ∷ t ∷ u ∷ us) line j n = absurd (omega (arith, n))

pub final_target : (line : List ℕ) → has_target (fields_two (cut tab line)) ≡ true → drop (final_from line) line ≡ target_two (cut tab line)
final_target line h =
    last_four (cut tab line) line (joined_cut tab line)
    (eqb-true (length (fields_two (cut tab line))) 3 (both (eqb (length (fields_two (cut tab line))) 3) (all_numbers (take 2 (fields_two (cut tab line))) && is_label (get_or (fields_two (cut tab line)) 2 [])) h).0)
