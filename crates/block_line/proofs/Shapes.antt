-- Laws of what a line says: which fields have a shape, and that a play or hold plays.
-- Assumes nothing.
use Prim.Native.Nat.{ℕ, ◌≤◌}
use mathlib.Core.Path.{◌≡◌, refl, ap}
use mathlib.Core.Bool.{Bool, true, false}
use mathlib.Core.List.{List, [], ◌∷◌, map}
use native.Mathlib.Omega.{arith}
use borrow.Author.Tests.{ne_eqb}
use lib.Dec.{eqb}
use lib.ListN.{length, get_or, length-map}
use Rattle.instruction.specs.Bits.{pick}
use Rattle.text.specs.Cut.{tab, cut, Row, same_text}
use Rattle.text.specs.Line.{letters}
use Rattle.text.specs.Number.{value, is_number}
use Rattle.text.proofs.Alike.{same_text_lem}
use Rattle.fields.specs.Fields.{all_numbers}
use Rattle.nest.specs.declared.Line.{Line}
use Rattle.nest.specs.declared.Line.TheVariants.{Pulse, Repeat, End, Unshaped}
use Rattle.block_line.specs.Line.{pulse_of, having, line_named, line_in, line_of}

-- ---- fields that have a shape

-- one of the four shapes, or no line
pub data Shape (fs : List (List ℕ)) : Type 0 where
  none : line_in fs ≡ Unshaped → Shape fs
  plays : (a b : List ℕ) → is_number a ≡ true → is_number b ≡ true → fs ≡ letters "play" ∷ a ∷ b ∷ [] → Shape fs
  holds : (a b : List ℕ) → is_number a ≡ true → is_number b ≡ true → fs ≡ letters "hold" ∷ a ∷ b ∷ [] → Shape fs
  repeats : (a : List ℕ) → is_number a ≡ true → fs ≡ letters "repeat" ∷ a ∷ [] → Shape fs
  ends : fs ≡ letters "end" ∷ [] → Shape fs

-- by whether the name is each of the four
abbrev named_by : Bool → Bool → Bool → Bool → List ℕ → Line
named_by a b c d vs =
    pick a (having 2 vs (Pulse (pulse_of 0 vs)))
    (pick b (having 2 vs (Pulse (pulse_of 1 vs)))
    (pick c (having 1 vs (Repeat (get_or vs 0 0)))
    (pick d (having 0 vs End)
    Unshaped)))

module _ (name : List ℕ) where
  -- no numbers
  bare : Shape (name ∷ [])
  bare = by (same_text name (letters "play")) refl (same_text name (letters "hold")) refl (same_text name (letters "repeat")) refl (same_text name (letters "end")) refl
    where
      by : (a : Bool) → same_text name (letters "play") ≡ a → (b : Bool) → same_text name (letters "hold") ≡ b
          → (c : Bool) → same_text name (letters "repeat") ≡ c → (d : Bool) → same_text name (letters "end") ≡ d → Shape (name ∷ [])
      by true p b q c r d s = none (rw p)
      by false p true q c r d s = none (rw (p, q))
      by false p false q true r d s = none (rw (p, q, r))
      by false p false q false r true s = ends (ap (λ (n : List ℕ). n ∷ []) (same_text_lem name (letters "end") s))
      by false p false q false r false s = none (rw (p, q, r, s))

  -- a number
  one : (f : List ℕ) → Shape (name ∷ f ∷ [])
  one f = by (is_number f) refl (same_text name (letters "play")) refl (same_text name (letters "hold")) refl (same_text name (letters "repeat")) refl (same_text name (letters "end")) refl
    where
      by : (t : Bool) → is_number f ≡ t → (a : Bool) → same_text name (letters "play") ≡ a → (b : Bool) → same_text name (letters "hold") ≡ b
          → (c : Bool) → same_text name (letters "repeat") ≡ c → (d : Bool) → same_text name (letters "end") ≡ d → Shape (name ∷ f ∷ [])
      by false n a p b q c r d s = none (rw n)
      by true n true p b q c r d s = none (rw (n, p))
      by true n false p true q c r d s = none (rw (n, p, q))
      by true n false p false q true r d s = repeats f n (ap (λ (x : List ℕ). x ∷ f ∷ []) (same_text_lem name (letters "repeat") r))
      by true n false p false q false r true s = none (rw (n, p, q, r, s))
      by true n false p false q false r false s = none (rw (n, p, q, r, s))

  -- two
  two : (f g : List ℕ) → Shape (name ∷ f ∷ g ∷ [])
  two f g = by (is_number f) refl (is_number g) refl (same_text name (letters "play")) refl (same_text name (letters "hold")) refl (same_text name (letters "repeat")) refl (same_text name (letters "end")) refl
    where
      by : (t : Bool) → is_number f ≡ t → (u : Bool) → is_number g ≡ u → (a : Bool) → same_text name (letters "play") ≡ a → (b : Bool) → same_text name (letters "hold") ≡ b
          → (c : Bool) → same_text name (letters "repeat") ≡ c → (d : Bool) → same_text name (letters "end") ≡ d → Shape (name ∷ f ∷ g ∷ [])
      by false n u m a p b q c r d s = none (rw n)
      by true n false m a p b q c r d s = none (rw (n, m))
      by true n true m true p b q c r d s = plays f g n m (ap (λ (x : List ℕ). x ∷ f ∷ g ∷ []) (same_text_lem name (letters "play") p))
      by true n true m false p true q c r d s = holds f g n m (ap (λ (x : List ℕ). x ∷ f ∷ g ∷ []) (same_text_lem name (letters "hold") q))
      by true n true m false p false q true r d s = none (rw (n, m, p, q, r))
      by true n true m false p false q false r true s = none (rw (n, m, p, q, r, s))
      by true n true m false p false q false r false s = none (rw (n, m, p, q, r, s))

  -- more are too many
  named_many : (vs : List ℕ) → 3 ≤ length vs → line_named name vs ≡ Unshaped
  named_many vs h =
      rw (ne_eqb (length vs) 2 (λ e. omega arith), ne_eqb (length vs) 1 (λ e. omega arith), ne_eqb (length vs) 0 (λ e. omega arith))
      (by (same_text name (letters "play")) (same_text name (letters "hold")) (same_text name (letters "repeat")) (same_text name (letters "end")))
    where
      by : (a b c d : Bool) → pick a Unshaped (pick b Unshaped (pick c Unshaped (pick d Unshaped Unshaped))) ≡ Unshaped
      by true b c d = refl
      by false true c d = refl
      by false false true d = refl
      by false false false true = refl
      by false false false false = refl

  many : (ns : List (List ℕ)) → 3 ≤ length ns → line_in (name ∷ ns) ≡ Unshaped
  many ns h = by (all_numbers ns) (named_many (map value ns) (omega (arith, h, length-map ns value)))
    where
      by : (t : Bool) → line_named name (map value ns) ≡ Unshaped → pick t (line_named name (map value ns)) Unshaped ≡ Unshaped
      by true e = e
      by false e = refl

pub shape_of : (fs : List (List ℕ)) → Shape fs
shape_of [] = none refl
shape_of (name ∷ []) = bare name
shape_of (name ∷ f ∷ []) = one name f
shape_of (name ∷ f ∷ g ∷ []) = two name f g
shape_of (name ∷ f ∷ g ∷ h ∷ fs) = none (many name (f ∷ g ∷ h ∷ fs) (omega arith))

-- ---- a play or hold plays

abbrev pub op_in : Line → ℕ
op_in (Pulse f) = f.op
op_in (Repeat n) = 0
op_in End = 0
op_in Unshaped = 0

pub line_plays : (row : Row) → op_in (line_of row) ≡ 0
unfolding line_of
line_plays row = by row.ended (cut tab row.bytes)
  where
    had : (t : Bool) (line : Line) → op_in line ≡ 0 → op_in (pick t line Unshaped) ≡ 0
    had true line e = e
    had false line e = refl

    named : (a b c d : Bool) (vs : List ℕ) → op_in (named_by a b c d vs) ≡ 0
    named true b c d vs = had (eqb (length vs) 2) (Pulse (pulse_of 0 vs)) refl
    named false true c d vs = had (eqb (length vs) 2) (Pulse (pulse_of 1 vs)) refl
    named false false true d vs = had (eqb (length vs) 1) (Repeat (get_or vs 0 0)) refl
    named false false false true vs = had (eqb (length vs) 0) End refl
    named false false false false vs = refl

    by : (t : Bool) (fs : List (List ℕ)) → op_in (pick t (line_in fs) Unshaped) ≡ 0
    by t [] = had t Unshaped refl
    by t (name ∷ ns) =
        had t (line_in (name ∷ ns))
        (had (all_numbers ns) (line_named name (map value ns))
        (named (same_text name (letters "play")) (same_text name (letters "hold")) (same_text name (letters "repeat")) (same_text name (letters "end")) (map value ns)))
