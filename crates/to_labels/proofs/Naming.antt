-- Laws of a line moved to edition 2: what stands from its name on, with an `L` before the last field of a jump.
-- Assumes nothing.
use Prim.Native.Nat.{ℕ, suc, ◌+◌, ◌-◌, ◌≤◌, ◌<◌}
use mathlib.Core.Path.{◌≡◌, refl, sym, ap, ap₂, ◌∙◌}
use mathlib.Core.Bool.{Bool, true, false, not, ◌&&◌}
use mathlib.Core.List.{List, [], ◌∷◌, ◌++◌, append_assoc}
use native.Mathlib.Omega.{arith}
use borrow.Author.Tests.{eq-eqb, ne_eqb, eqb-true}
use lib.Dec.{eqb}
use lib.ListN.{length, get_or, take, drop, length-append, length-drop}
use lib.Seq.{drop-drop, take_at, drop_at, take_all, length-take-le}
use Rattle.instruction.specs.Bits.{pick}
use Rattle.text.specs.Cut.{tab, line_feed, cut, joined}
use Rattle.text.specs.Line.{letters, decimal}
use Rattle.text.specs.Number.{is_number}
use Rattle.text.proofs.Bools.{both}
use Rattle.text.proofs.Back.{number_text}
use Rattle.text.proofs.Cuts.{joined_cut}
use Rattle.fields.specs.Fields.{all_numbers}
use Rattle.page.proofs.Decimal.{decimal_some}
use Rattle.listing_reader.specs.ReadBack.{address_in, name_in, numbers_in}
use Rattle.editions.specs.Editions.{aimed, line_of, jumps_one, target_one, fields_number_one}
use Rattle.editions.specs.Moves.{label_of}
use Rattle.editions.specs.Told.{nowhere, aim_one, final, final_from, TellsOne}
use Rattle.editions.specs.declared.LineOne.{LineOne}
use Rattle.to_labels.specs.Loops.{named_line, named_text, is_plain, Named}
use Rattle.to_labels.proofs.Judging.{good_aim, good_two, good_numbers, good_three}

-- the fields from the name on
abbrev name_on : List (List ℕ) → List ℕ
name_on fs = joined tab (name_in fs ∷ numbers_in fs)

-- what stands behind the first field and its tab
behind_first : (fs : List (List ℕ)) → 2 ≤ length fs → joined tab fs ≡ address_in fs ++ (tab ∷ name_on fs)
behind_first [] h = absurd (omega arith)
behind_first (f ∷ []) h = absurd (omega arith)
behind_first (f ∷ g ∷ fs) h = refl

-- engine select, write flag and target behind a name
three : (ns : List (List ℕ)) → length ns ≡ 3 → ns ≡ get_or ns 0 [] ∷ get_or ns 1 [] ∷ get_or ns 2 [] ∷ []
three [] e = absurd (omega arith)
three (x ∷ []) e = absurd (omega arith)
three (x ∷ y ∷ []) e = absurd (omega arith)
three (x ∷ y ∷ z ∷ []) e = refl
three (x ∷ y ∷ z ∷ w ∷ ns) e = absurd (omega arith)

-- what stands before the target
abbrev front : List ℕ → List ℕ → List ℕ → List ℕ
front name x y = name ++ (tab ∷ (x ++ (tab ∷ (y ++ (tab ∷ [])))))

front_on : (name x y more : List ℕ) → name ++ (tab ∷ (x ++ (tab ∷ (y ++ (tab ∷ more))))) ≡ front name x y ++ more
front_on name x y more =
    sym (append_assoc name (tab ∷ (x ++ (tab ∷ (y ++ (tab ∷ []))))) more
    ∙ ap (λ (l : List ℕ). name ++ (tab ∷ l)) (append_assoc x (tab ∷ (y ++ (tab ∷ []))) more
    ∙ ap (λ (l : List ℕ). x ++ (tab ∷ l)) (append_assoc y (tab ∷ []) more)))

final_on : (fs : List (List ℕ)) → 2 ≤ length fs → final fs ≡ final (name_in fs ∷ numbers_in fs)
final_on [] h = absurd (omega arith)
final_on (f ∷ []) h = absurd (omega arith)
final_on (f ∷ g ∷ fs) h = refl

number_at : (ns : List (List ℕ)) → length ns ≡ 3 → all_numbers ns ≡ true → is_number (get_or ns 2 []) ≡ true
number_at ns l e =
    let x = is_number (get_or ns 0 []) in
    let y = is_number (get_or ns 1 []) in
    let z = is_number (get_or ns 2 []) in
    let q : (x && (y && (z && true))) ≡ true = sym (ap all_numbers (three ns l)) ∙ e in
    (both z true (both y (z && true) (both x (y && (z && true)) q).1).1).0

-- a target is an address, and no line that does not jump has one
pub plain_told : (n a : ℕ) (fs : List (List ℕ)) → n < nowhere → {told : LineOne} → TellsOne n a fs told → told.number ≡ 0 → is_plain told ≡ not (jumps_one fs)
plain_told n a fs few {told = told} t z = ap (λ (k : ℕ). eqb k nowhere) (t.target z) ∙ by (jumps_one fs) refl
  where
    by : (s : Bool) → jumps_one fs ≡ s → eqb (pick s (target_one fs) nowhere) nowhere ≡ not s
    by true j = ne_eqb (target_one fs) nowhere (λ q. omega (arith, q, good_aim n a true fs (sym t.number ∙ z) j))
    by false j = eq-eqb nowhere nowhere refl

-- a line with which nothing is wrong, by whether it has a target and where its name starts
module _ (n a : ℕ) (line : List ℕ) (well : fields_number_one n a true (cut tab line) ≡ 0) (told : LineOne)
    (from : told.from ≡ length (address_in (cut tab line)) + 1) (plain-is : is_plain told ≡ not (jumps_one (cut tab line))) where
  abbrev fs : List (List ℕ)
  fs = cut tab line

  abbrev ns : List (List ℕ)
  ns = numbers_in fs

  two : 2 ≤ length fs
  two = good_two n a true fs well

  whole : line ≡ address_in fs ++ (tab ∷ name_on fs)
  whole = sym (joined_cut tab line) ∙ behind_first fs two

  start : told.from ≡ suc (length (address_in fs))
  start = from ∙ omega arith

  size : length line ≡ told.from + length (name_on fs)
  size = ap length whole ∙ length-append (address_in fs) (tab ∷ name_on fs) ∙ sum (length (address_in fs)) (length (name_on fs)) told.from start
    where
      sum : (x y k : ℕ) → k ≡ suc x → x + suc y ≡ k + y
      sum x y k e = omega arith

  -- from its name on
  named_on : drop told.from line ≡ name_on fs
  named_on =
      ap₂ (λ (k : ℕ) (l : List ℕ). drop k l) start (whole ∙ sym (append_assoc (address_in fs) (tab ∷ []) (name_on fs)))
      ∙ drop_at (address_in fs ++ (tab ∷ [])) (name_on fs) (suc (length (address_in fs))) (length-append (address_in fs) (tab ∷ []) ∙ omega arith)

  plain_text : jumps_one fs ≡ false → named_line line ≡ drop told.from line ++ (line_feed ∷ [])
  plain_text j =
      ap (λ (s : Bool). line_of (name_in fs ∷ pick s (aimed (label_of (target_one fs)) ns) ns)) j
      ∙ ap (λ (l : List ℕ). l ++ (line_feed ∷ [])) (sym named_on)

  module _ (j : jumps_one fs ≡ true) where
    abbrev x : List ℕ
    x = get_or ns 0 []

    abbrev y : List ℕ
    y = get_or ns 1 []

    abbrev target : List ℕ
    target = get_or ns 2 []

    split : ns ≡ x ∷ y ∷ target ∷ []
    split = three ns (good_three n a true fs well j)

    rest : name_on fs ≡ front (name_in fs) x y ++ target
    rest = ap (λ (l : List (List ℕ)). joined tab (name_in fs ∷ l)) split ∙ front_on (name_in fs) x y target

    last_is : final fs ≡ target
    last_is = final_on fs two ∙ ap (λ (l : List (List ℕ)). final (name_in fs ∷ l)) split

    -- where the target starts
    from_is : final_from line ≡ told.from + length (front (name_in fs) x y)
    from_is = sum (length line) (length (final fs)) (length (name_on fs)) (length (front (name_in fs) x y)) (length target) size (ap length last_is) (ap length rest ∙ length-append (front (name_in fs) x y) target)
      where
        sum : (l f m p q : ℕ) → l ≡ told.from + m → f ≡ q → m ≡ p + q → l - f ≡ told.from + p
        sum l f m p q e g h = omega arith

    front_is : take (final_from line - told.from) (drop told.from line) ≡ front (name_in fs) x y
    front_is =
        ap₂ (λ (k : ℕ) (l : List ℕ). take k l) (less (final_from line) told.from (length (front (name_in fs) x y)) from_is) (named_on ∙ rest)
        ∙ take_at (front (name_in fs) x y) target (length (front (name_in fs) x y)) refl
      where
        less : (l f p : ℕ) → l ≡ f + p → l - f ≡ p
        less l f p e = omega arith

    target_is : drop (final_from line) line ≡ target
    target_is =
        ap (λ (k : ℕ). drop k line) from_is
        ∙ sym (drop-drop (length (front (name_in fs) x y)) told.from line)
        ∙ ap (drop (length (front (name_in fs) x y))) (named_on ∙ rest)
        ∙ drop_at (front (name_in fs) x y) target (length (front (name_in fs) x y)) refl

    ordered : told.from ≤ final_from line
    ordered = omega (arith, from_is)

    -- a plain decimal is the text of its number
    digits : decimal (target_one fs) ≡ target
    digits = number_text target (number_at ns (good_three n a true fs well j) (good_numbers n a true fs well))

    -- how long it is
    target_size_lem : final_from line + length (decimal (target_one fs)) ≡ length line
    target_size_lem = omega (arith, from_is, size, ap length rest, length-append (front (name_in fs) x y) target, ap length digits)

    aim : label_of (target_one fs) ≡ letters "L" ++ target
    aim = ap (λ (l : List ℕ). letters "L" ++ l) digits

    jump_text : named_line line ≡ take (final_from line - told.from) (drop told.from line) ++ (letters "L" ++ (drop (final_from line) line ++ (line_feed ∷ [])))
    jump_text =
        ap (λ (s : Bool). line_of (name_in fs ∷ pick s (aimed (label_of (target_one fs)) ns) ns)) j
        ∙ ap (λ (l : List (List ℕ)). line_of (name_in fs ∷ aimed (label_of (target_one fs)) l)) split
        ∙ ap (λ (l : List ℕ). line_of (name_in fs ∷ x ∷ y ∷ l ∷ [])) aim
        ∙ ap (λ (l : List ℕ). l ++ (line_feed ∷ [])) (front_on (name_in fs) x y (letters "L" ++ target))
        ∙ append_assoc (front (name_in fs) x y) (letters "L" ++ target) (line_feed ∷ [])
        ∙ ap₂ (λ (p q : List ℕ). p ++ (letters "L" ++ (q ++ (line_feed ∷ [])))) (sym front_is) (sym target_is)

  pub named_well : Named line told
  named_well =
      record {
        text = by (jumps_one fs) refl plain-is;
        some = omega (arith, start);
        inside = omega (arith, size);
        order = λ q. order (jumps_one fs) refl q;
        target = λ q. some (jumps_one fs) refl q;
      }
    where
      by : (s : Bool) → jumps_one fs ≡ s → is_plain told ≡ not s → named_line line ≡ named_text line (is_plain told) told.from
      by true j e = jump_text j ∙ sym (ap (λ (p : Bool). named_text line p told.from) e)
      by false j e = plain_text j ∙ sym (ap (λ (p : Bool). named_text line p told.from) e)

      order : (s : Bool) → jumps_one fs ≡ s → (told.target ≡ nowhere → ⊥) → told.from ≤ final_from line
      order true j q = ordered j
      order false j q = absurd (q (eqb-true told.target nowhere (plain-is ∙ ap not j)))

      some : (s : Bool) → jumps_one fs ≡ s → (told.target ≡ nowhere → ⊥) → final_from line < length line
      some true j q = omega (arith, target_size_lem j, decimal_some (target_one fs))
      some false j q = absurd (q (eqb-true told.target nowhere (plain-is ∙ ap not j)))

  -- the target of a jump is as long as its digits
  pub aim_size : told.target ≡ aim_one fs → (told.target ≡ nowhere → ⊥) → final_from line + length (decimal told.target) ≡ length line
  aim_size t q = by (jumps_one fs) refl
    where
      by : (s : Bool) → jumps_one fs ≡ s → final_from line + length (decimal told.target) ≡ length line
      by true j = ap (λ (k : ℕ). final_from line + length (decimal k)) (t ∙ ap (λ (s : Bool). pick s (target_one fs) nowhere) j) ∙ target_size_lem j
      by false j = absurd (q (t ∙ ap (λ (s : Bool). pick s (target_one fs) nowhere) j))

-- how long it is
pub named_length : (line : List ℕ) (told : LineOne) → Named line told → length (named_line line) ≡ length line + 1 - told.from + pick (is_plain told) 0 1
named_length line told m = ap length m.text ∙ by (is_plain told) refl
  where
    by : (s : Bool) → is_plain told ≡ s → length (named_text line s told.from) ≡ length line + 1 - told.from + pick s 0 1
    by true e = omega (arith, length-append (drop told.from line) (line_feed ∷ []), length-drop told.from line, m.inside)
    by false e =
        let o : told.from ≤ final_from line = m.order (λ q. z (sym e ∙ eq-eqb told.target nowhere q)) in
        omega (
          arith,
          o,
          length-append (take (final_from line - told.from) (drop told.from line)) (letters "L" ++ (drop (final_from line) line ++ (line_feed ∷ []))),
          length-take-le (final_from line - told.from) (drop told.from line) (omega (arith, o, length-drop told.from line)),
          length-append (drop (final_from line) line) (line_feed ∷ []),
          length-drop (final_from line) line,
          length-drop told.from line,
        )
      where
        z : false ≡ true → ⊥
        z q = let y : ◌≡◌ {A = ℕ} 0 1 = cc in omega arith

-- as its parts are lent
module _ (line : List ℕ) (told : LineOne) (m : Named line told) where
  pub plain_lent : told.target ≡ nowhere → named_line line ≡ take (length line - told.from) (drop told.from line) ++ (line_feed ∷ [])
  plain_lent e =
      m.text
      ∙ ap (λ (p : Bool). named_text line p told.from) (eq-eqb told.target nowhere e)
      ∙ ap (λ (l : List ℕ). l ++ (line_feed ∷ [])) (sym (take_all (length line - told.from) (drop told.from line) (omega (arith, length-drop told.from line))))

  module _ (n : told.target ≡ nowhere → ⊥) {last : ℕ} (e : last ≡ final_from line) where
    pub jump_lent : named_line line
        ≡ take (last - told.from) (drop told.from line) ++ (letters "L" ++ (take (length line - last) (drop last line) ++ (line_feed ∷ [])))
    jump_lent =
        m.text
        ∙ ap (λ (p : Bool). named_text line p told.from) (ne_eqb told.target nowhere n)
        ∙ ap (λ (k : ℕ). take (k - told.from) (drop told.from line) ++ (letters "L" ++ (drop k line ++ (line_feed ∷ [])))) (sym e)
        ∙ ap (λ (l : List ℕ). take (last - told.from) (drop told.from line) ++ (letters "L" ++ (l ++ (line_feed ∷ []))))
        (sym (take_all (length line - last) (drop last line) (omega (arith, length-drop last line))))
