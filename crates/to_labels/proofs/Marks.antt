-- Laws of marks: one more target marked, all of them marked from a base on, and what a mark tells of an address.
-- Assumes nothing.
use Prim.Native.Nat.{ℕ, ◌+◌, ◌-◌, ◌≤◌, ◌<◌}
use mathlib.Core.Path.{◌≡◌, refl, sym, ap, ◌∙◌}
use mathlib.Core.Bool.{Bool, true, false, ◌||◌}
use mathlib.Core.List.{List, [], ◌∷◌}
use native.Mathlib.Omega.{arith}
use native.Mathlib.Decide.{ℕ_discrete}
use borrow.Author.Tests.{eq-eqb, ne_eqb, le-leb, lt-leb, leb-true}
use lib.Dec.{eqb, leb}
use lib.ListN.{length, get_or, set, length-set, get_or-replicate, replicate, length-replicate}
use lib.Seq.{set_out, get_or-set_same, get_or-set_other}
use Rattle.instruction.specs.Bits.{pick}
use Rattle.instruction.specs.Form.{filled}
use Rattle.text.specs.Cut.{Row, fields_in, has}
use Rattle.editions.specs.Editions.{jumps_one, target_one, number_one}
use Rattle.editions.specs.Moves.{judged_one, targets_in}
use Rattle.editions.specs.Told.{nowhere, aim_one}
use Rattle.editions.specs.declared.LineOne.{LineOne}
use Rattle.to_labels.specs.Loops.{TellsRow, mark_count, Marked, marked_of, Based, Known, Near}
use Rattle.to_labels.proofs.Judging.{judged_good}

-- ---- one mark

module _ (base target : ℕ) (marks : List ℕ) where
  abbrev chosen : Bool → List ℕ
  chosen t = pick t (set marks (target - base) 1) marks

  pub mark_below : target < base → marks ≡ marked_of base target marks
  mark_below h = sym (ap chosen (lt-leb base target h))

  pub mark_here : base ≤ target → set marks (target - base) 1 ≡ marked_of base target marks
  mark_here h = sym (ap chosen (le-leb base target h))

  pub mark_far : base ≤ target → length marks ≤ target - base → marks ≡ marked_of base target marks
  mark_far h l = sym (set_out marks (target - base) 1 l) ∙ mark_here h

  pub marked_length : length (marked_of base target marks) ≡ length marks
  marked_length = by (leb base target)
    where
      by : (t : Bool) → length (chosen t) ≡ length marks
      by true = length-set marks (target - base) 1
      by false = refl

-- ---- clear marks

pub clear_marks : (n base : ℕ) → Marked [] base (replicate n 0)
clear_marks n base a h = ap filled (get_or-replicate n a 0 0 (omega (arith, length-replicate {A = ℕ} n 0)))

-- marks that are all cleared
pub clear_filled : (n : ℕ) {marks : List ℕ} → marks ≡ replicate n 0 → Marked [] 0 marks
clear_filled n {marks = marks} e b l = ap filled (ap (λ (l : List ℕ). get_or l b 0) e ∙ get_or-replicate n b 0 0 (omega (arith, l, ap length e, length-replicate {A = ℕ} n 0)))

-- ---- marked so far

-- a mark for each target but those of the lines that are left
abbrev pub MarkedYet : ℕ → List Row → List Row → List ℕ → Type 0
MarkedYet base rows left marks = (b : ℕ) → b < length marks → (filled (get_or marks b 0) || has (base + b) (targets_in left)) ≡ has (base + b) (targets_in rows)

pub yet_start : (base : ℕ) (rows : List Row) (marks : List ℕ) → Marked [] base marks → MarkedYet base rows rows marks
yet_start base rows marks m b l = ap (λ (t : Bool). t || has (base + b) (targets_in rows)) (m b l)

pub yet_end : (base : ℕ) (rows left : List Row) (marks : List ℕ) → MarkedYet base rows left marks → left ≡ [] → Marked (targets_in rows) base marks
yet_end base rows left marks y e b l =
    last (filled (get_or marks b 0))
    ∙ ap (λ (ls : List Row). filled (get_or marks b 0) || has (base + b) (targets_in ls)) (sym e)
    ∙ y b l
  where
    last : (t : Bool) → t ≡ (t || false)
    last true = refl
    last false = refl

-- one more mark, for the target of one more line
module _ (base : ℕ) (marks : List ℕ) (m : base + length marks ≤ nowhere) (row : Row) (rows : List Row) (b : ℕ) (l : b < length marks) where
  abbrev later : Bool
  later = has (base + b) (targets_in rows)

  abbrev now : Bool
  now = filled (get_or marks b 0)

  late : (t u : Bool) → true ≡ (t || (true || u))
  late true u = refl
  late false u = refl

  told : (t : ℕ) → Dec (base + b ≡ t) → (filled (get_or (marked_of base t marks) b 0) || later) ≡ (now || (eqb t (base + b) || later))
  told t (yes e) =
      ap (λ (ms : List ℕ). filled (get_or ms b 0) || later) (sym (mark_here base t marks (omega arith)) ∙ ap (λ (k : ℕ). set marks k 1) (place t e))
      ∙ ap (λ (k : ℕ). filled k || later) (get_or-set_same marks b 1 0 l)
      ∙ late now later
      ∙ ap (λ (s : Bool). now || (s || later)) (sym (eq-eqb t (base + b) (sym e)))
    where
      place : (t : ℕ) → base + b ≡ t → t - base ≡ b
      place t e = omega arith
  told t (no e) =
      ap (λ (k : ℕ). filled k || later) (by (leb base t) refl)
      ∙ ap (λ (s : Bool). now || (s || later)) (sym (ne_eqb t (base + b) (λ q. e (sym q))))
    where
      by : (s : Bool) → leb base t ≡ s → get_or (pick s (set marks (t - base) 1) marks) b 0 ≡ get_or marks b 0
      by true f = get_or-set_other marks (t - base) b 1 0 (λ q. e (omega (arith, q, leb-true base t f)))
      by false f = refl

  more : (filled (get_or (marked_of base (aim_one (fields_in row)) marks) b 0) || later) ≡ (now || has (base + b) (targets_in (row ∷ rows)))
  more = by (jumps_one (fields_in row))
    where
      by : (j : Bool)
          → (filled (get_or (marked_of base (pick j (target_one (fields_in row)) nowhere) marks) b 0) || later)
          ≡ (now || has (base + b) (pick j (target_one (fields_in row) ∷ targets_in rows) (targets_in rows)))
      by true = told (target_one (fields_in row)) (ℕ_discrete (base + b) (target_one (fields_in row)))
      by false = ap (λ (ms : List ℕ). filled (get_or ms b 0) || later) (sym (mark_far base nowhere marks (omega (arith, m)) (omega (arith, m))))

pub yet_next : (base : ℕ) (rows left : List Row) (marks : List ℕ) → base + length marks ≤ nowhere → MarkedYet base rows left marks
    → {row : Row} {rest : List Row} → left ≡ row ∷ rest → {target : ℕ} → target ≡ aim_one (fields_in row)
    → {after : List ℕ} → after ≡ marked_of base target marks → MarkedYet base rows rest after
yet_next base rows left marks m y {row = row} {rest = rest} e {target = target} t {after = after} w b l =
    ap (λ (ms : List ℕ). filled (get_or ms b 0) || has (base + b) (targets_in rest)) (w ∙ ap (λ (k : ℕ). marked_of base k marks) t)
    ∙ more base marks m row rest b low
    ∙ ap (λ (ls : List Row). filled (get_or marks b 0) || has (base + b) (targets_in ls)) (sym e)
    ∙ y b low
  where
    low : b < length marks
    low = omega (arith, l, ap length w, marked_length base target marks)

-- ---- all marked anew

pub record Remarking (n : ℕ) (rows : List Row) (base a : ℕ) (left : List Row) (marks : List ℕ) : Type 0 where
  pub count : a + length left ≡ n
  pub well : (judged_one n a left).number ≡ 0
  pub size : length marks ≡ mark_count
  pub yet : MarkedYet base rows left marks

module _ (n : ℕ) (rows : List Row) (base : ℕ) {before : List ℕ} (based : Based n rows base before) where
  pub remarking_start : {marks : List ℕ} → length marks ≡ length before → Marked [] base marks → Remarking n rows base 0 rows marks
  remarking_start {marks = marks} s m = record { count = omega (arith, based.all.lines.count); well = based.all.well; size = s ∙ based.size; yet = yet_start base rows marks m }

  module _ {a : ℕ} {left : List Row} {marks : List ℕ} (r : Remarking n rows base a left marks) where
    pub remarking_end : left ≡ [] → Known n rows base marks
    remarking_end e = record { all = based.all; size = r.size; marked = yet_end base rows left marks r.yet e }

    module _ {row : Row} {rest : List Row} (e : left ≡ row ∷ rest) where
      pub remarking_below : a < n
      remarking_below = omega (arith, ap length e, r.count)

      good : (number_one n a row ≡ 0) × ((judged_one n (a + 1) rest).number ≡ 0)
      good = judged_good n a row rest (ap (λ (ls : List Row). (judged_one n a ls).number) (sym e) ∙ r.well)

      pub remarking_next : {told : LineOne} → TellsRow n a row told → {after : List ℕ} → after ≡ marked_of base told.target marks
          → Remarking n rows base (a + 1) rest after
      remarking_next {told = told} t w =
          record {
            count = omega (arith, ap length e, r.count);
            well = good.1;
            size = ap length w ∙ marked_length base told.target marks ∙ r.size;
            yet =
                yet_next base rows left marks (omega (arith, based.low, based.all.lines.few, r.size)) r.yet e
                (t.target (t.number ∙ good.0)) w;
          }

-- ---- the mark of an address

module _ (n : ℕ) (rows : List Row) (a : ℕ) {marks : List ℕ} {base : ℕ} where
  pub near_place : Near n rows a marks base → a - base < length marks
  near_place m = omega (arith, m.low, m.high, m.known.size)

  pub near_told : Near n rows a marks base → filled (get_or marks (a - base) 0) ≡ has a (targets_in rows)
  near_told m = m.known.marked (a - base) (near_place m) ∙ ap (λ (k : ℕ). has k (targets_in rows)) (sum m.low)
    where
      sum : base ≤ a → base + (a - base) ≡ a
      sum h = omega arith
