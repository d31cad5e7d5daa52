-- Laws of a line that is taken: the lines go on behind it; and its name stands there, then its numbers, or it has no shape.
-- Assumes nothing.
use Prim.Native.Nat.{ℕ, ◌+◌, ◌≤◌, ◌<◌}
use mathlib.Core.Path.{◌≡◌, refl, sym, ap, subst, ◌∙◌}
use mathlib.Core.Bool.{Bool, true, false}
use mathlib.Core.List.{List, [], ◌∷◌, ◌++◌, map, append_assoc}
use native.Mathlib.Omega.{arith}
use lib.ListN.{length, drop, length-append, length-drop}
use lib.Seq.{drop-drop}
use Rattle.std.specs.Prelude.{Option, Some, None}
use Rattle.instruction.specs.Bits.{pick}
use Rattle.text.specs.Cut.{tab, line_feed, before, rows_in, place_of, starts_with, has}
use Rattle.text.specs.Line.{decimal}
use Rattle.text.specs.Number.{numbers, counted_then}
use Rattle.text.specs.declared.Counted.{Counted}
use Rattle.text.proofs.Alike.{starts_text}
use Rattle.text.proofs.Back.{decimal_free, has_append, NumberThen, then_read, then_none}
use Rattle.text.proofs.Bools.{never}
use Rattle.text.proofs.Cuts.{behind, behind_piece, place_past}
use Rattle.nest.specs.declared.Line.{Line}
use Rattle.nest.specs.declared.Line.TheVariants.{Pulse, Repeat, End, Unshaped}
use Rattle.block_line.specs.Line.{pulse_of, line_of}
use Rattle.block_line.specs.Taking.{lines_from, line_at, next_after, taken, taken_at, play_name, hold_name, repeat_name, end_name, held_in}
use Rattle.block_line.specs.declared.Taken.{Taken}
use Rattle.block_line.proofs.Forms.{one_number, two_numbers, play_read, hold_read, repeat_read, end_read, First, unshaped, playing, holding, repeating, ending, first_line, first_row, feed_inside}

-- ---- a line that is taken

-- it is the first of the lines, and they go on behind it if it has a shape
pub record Takes (text : List ℕ) (at : ℕ) (line : Line) (next : ℕ) : Type 0 where
  pub later : at < next
  pub far : next ≤ length text
  pub rest : List Line
  pub lines : lines_from text at ≡ line ∷ rest
  pub goes : (line ≡ Unshaped → ⊥) → rest ≡ lines_from text next
  pub long : (line ≡ Unshaped → ⊥) → at + 4 ≤ next

abbrev first_of : List Line → Line
first_of [] = Unshaped
first_of (line ∷ lines) = line

module _ (text : List ℕ) (at : ℕ) (h : at < length text) where
  abbrev feed : ℕ
  feed = place_of line_feed at text

  line_is : {line : Line} {rest : List Line} → lines_from text at ≡ line ∷ rest → line ≡ line_at text at
  line_is e = ap first_of (sym e ∙ first_row text at h)

  taken_is : {line : Line} {next : ℕ} {rest : List Line} → lines_from text at ≡ line ∷ rest → next ≡ next_after line feed (length text) → taken line next ≡ taken_at text at
  taken_is {line = line} e f = ap (taken line) f ∙ ap (λ (l : Line). taken l (next_after l feed (length text))) (line_is e)

  -- the shortest shape is an end's
  three : (line_at text at ≡ Unshaped → ⊥) → 3 ≤ length (before line_feed (drop at text))
  three n = by (first_line text at h)
    where
      by : First text at → 3 ≤ length (before line_feed (drop at text))
      by (unshaped rest e) = absurd (n (sym (line_is e)))
      by (playing a b more k l e) = omega (arith, ap (λ (s : List ℕ). length (before line_feed s)) e)
      by (holding a b more k l e) = omega (arith, ap (λ (s : List ℕ). length (before line_feed s)) e)
      by (repeating a more k e) = omega (arith, ap (λ (s : List ℕ). length (before line_feed s)) e)
      by (ending more e) = omega (arith, ap (λ (s : List ℕ). length (before line_feed s)) e)

  shape_taken : (line : Line) → next_after line 0 0 ≡ 1 → line_at text at ≡ line → Takes text at line (feed + 1)
  shape_taken line s e =
      let m : line_at text at ≡ Unshaped → ⊥ = λ z. omega (arith, s, ap (λ (l : Line). next_after l 0 0) (sym e ∙ z)) in
      record {
        later = omega arith;
        far = omega (arith, feed_inside text at h m);
        rest = lines_from text (feed + 1);
        lines = first_row text at h ∙ ap (λ (l : Line). l ∷ lines_from text (feed + 1)) e;
        goes = λ z. refl;
        long = λ z. omega (arith, three m);
      }

  pub takes : {t : Taken} → t ≡ taken_at text at → Takes text at t.line t.next
  takes e = rw e (by (line_at text at) refl)
    where
      by : (line : Line) → line_at text at ≡ line → Takes text at line (next_after line feed (length text))
      by (Pulse f) g = shape_taken (Pulse f) refl g
      by (Repeat n) g = shape_taken (Repeat n) refl g
      by End g = shape_taken End refl g
      by Unshaped g =
          record {
            later = h;
            far = omega arith;
            rest = lines_from text (feed + 1);
            lines = first_row text at h ∙ ap (λ (l : Line). l ∷ lines_from text (feed + 1)) g;
            goes = λ z. absurd (z refl);
            long = λ z. absurd (z refl);
          }

-- ---- what a name tells

module _ (name text : List ℕ) (at : ℕ) (e : starts_with name (drop at text) ≡ true) where
  name_text : drop at text ≡ name ++ drop (at + length name) text
  name_text = starts_text name (drop at text) e ∙ ap (λ (l : List ℕ). name ++ l) (drop-drop (length name) at text)

  name_inside : 0 < length name → at + length name ≤ length text
  name_inside h = omega (arith, h, ap length name_text, length-append name (drop (at + length name) text), length-drop at text)

-- which of the two names stands there
pub held_play : (bs : List ℕ) → starts_with play_name bs ≡ true → Some 0 ≡ held_in bs
held_play bs p = rw p

module _ (bs : List ℕ) (p : starts_with play_name bs ≡ false) where
  pub held_hold : starts_with hold_name bs ≡ true → Some 1 ≡ held_in bs
  held_hold q = rw (p, q)

  pub held_none : starts_with hold_name bs ≡ false → None ≡ held_in bs
  held_none q = rw (p, q)

-- ---- no shape

module _ (text : List ℕ) (at : ℕ) (h : at < length text) {t : Taken} (u : t ≡ taken Unshaped (length text)) where
  none_taken : {rest : List Line} → lines_from text at ≡ Unshaped ∷ rest → t ≡ taken_at text at
  none_taken e = u ∙ taken_is text at h e refl

  pub nameless : None ≡ held_in (drop at text) → starts_with repeat_name (drop at text) ≡ false → starts_with end_name (drop at text) ≡ false → t ≡ taken_at text at
  nameless z r s = by (first_line text at h)
    where
      by : First text at → t ≡ taken_at text at
      by (unshaped rest e) = none_taken e
      by (playing a b more k l e) = let f : ◌≡◌ {A = Option ℕ} (Some 0) None = sym (z ∙ ap held_in e) in cc
      by (holding a b more k l e) = let f : ◌≡◌ {A = Option ℕ} (Some 1) None = sym (z ∙ ap held_in e) in cc
      by (repeating a more k e) = never (sym (ap (starts_with repeat_name) e) ∙ r)
      by (ending more e) = never (sym (ap (starts_with end_name) e) ∙ s)

-- ---- an end

pub end_taken : (text : List ℕ) (at : ℕ) → starts_with end_name (drop at text) ≡ true → taken End (at + 4) ≡ taken_at text at
end_taken text at e = taken_is text at (omega (arith, name_inside end_name text at e (omega arith))) lines feed_is
  where
    at_name : drop at text ≡ end_name ++ drop (at + 4) text
    at_name = name_text end_name text at e

    lines : lines_from text at ≡ End ∷ lines_from text (at + 4)
    lines = ap (λ (s : List ℕ). map line_of (rows_in s)) at_name ∙ end_read (drop (at + 4) text)

    feed_is : at + 4 ≡ place_of line_feed at text + 1
    feed_is = omega (arith, ap (λ (s : List ℕ). length (before line_feed s)) at_name)

-- ---- a repeat

module _ (text : List ℕ) (at : ℕ) (e : starts_with repeat_name (drop at text) ≡ true) where
  pub repeat_inside : at + 7 ≤ length text
  repeat_inside = name_inside repeat_name text at e (omega arith)

  at_repeat : drop at text ≡ repeat_name ++ drop (at + 7) text
  at_repeat = name_text repeat_name text at e

  pub repeat_none : None ≡ counted_then line_feed (at + 7) text → {t : Taken} → t ≡ taken Unshaped (length text) → t ≡ taken_at text at
  repeat_none c {t = t} u = by (first_line text at (omega (arith, repeat_inside)))
    where
      by : First text at → t ≡ taken_at text at
      by (unshaped rest f) = none_taken text at (omega (arith, repeat_inside)) u f
      by (playing a b more k l f) = never (sym e ∙ ap (starts_with repeat_name) f)
      by (holding a b more k l f) = never (sym e ∙ ap (starts_with repeat_name) f)
      by (repeating a more k f) = absurd (then_none line_feed (at + 7) text repeat_inside refl c a more k (sym (drop-drop 7 at text) ∙ ap (drop 7) f))
      by (ending more f) = never (sym e ∙ ap (starts_with repeat_name) f)

  module _ {r : Counted} (c : Some r ≡ counted_then line_feed (at + 7) text) where
    count : NumberThen line_feed (at + 7) text r
    count = then_read line_feed (at + 7) text repeat_inside refl c

    pub repeat_taken : taken (Repeat r.value) r.end ≡ taken_at text at
    repeat_taken = taken_is text at (omega (arith, repeat_inside)) lines (count.ends ∙ ap (λ (k : ℕ). k + 1) (sym feed_is))
      where
        lines : lines_from text at ≡ Repeat r.value ∷ lines_from text r.end
        lines =
            ap (λ (s : List ℕ). map line_of (rows_in s)) (at_repeat ∙ ap (λ (l : List ℕ). repeat_name ++ l) count.found)
            ∙ repeat_read r.value (drop r.end text) count.small

        feed_is : place_of line_feed at text ≡ place_of line_feed (at + 7) text
        feed_is = place_past line_feed repeat_name text at (at + 7) refl (omega (arith, repeat_inside)) repeat_inside at_repeat

-- ---- a play or hold

-- its name stands there, and two numbers behind that make the line
record Begun (text : List ℕ) (at ta : ℕ) : Type 0 where
  name : List ℕ
  free : has line_feed name ≡ false
  inside : at + 5 ≤ length text
  there : drop at text ≡ name ++ drop (at + 5) text
  read : (a b : ℕ) (more : List ℕ) → a < numbers → b < numbers → map line_of (rows_in (name ++ two_numbers a b more)) ≡ Pulse (pulse_of ta (a ∷ b ∷ [])) ∷ map line_of (rows_in more)

begun : (text : List ℕ) (at ta : ℕ) → Some ta ≡ held_in (drop at text) → Begun text at ta
begun text at ta e = by (starts_with play_name (drop at text)) refl (starts_with hold_name (drop at text)) refl e
  where
    by : (p : Bool) → starts_with play_name (drop at text) ≡ p → (q : Bool) → starts_with hold_name (drop at text) ≡ q → Some ta ≡ pick p (Some 0) (pick q (Some 1) None) → Begun text at ta
    by true f q g z =
        let z' : ta ≡ 0 = cc in
        subst (Begun text at) (sym z')
        (record { name = play_name; free = refl; inside = name_inside play_name text at f (omega arith); there = name_text play_name text at f; read = play_read })
    by false f true g z =
        let z' : ta ≡ 1 = cc in
        subst (Begun text at) (sym z')
        (record { name = hold_name; free = refl; inside = name_inside hold_name text at g (omega arith); there = name_text hold_name text at g; read = hold_read })
    by false f false g z = cc

module _ (text : List ℕ) (at ta : ℕ) (s : Some ta ≡ held_in (drop at text)) where
  abbrev start : Begun text at ta
  start = begun text at ta s

  pub pulse_inside : at + 5 ≤ length text
  pulse_inside = start.inside

  some : at < length text
  some = omega (arith, pulse_inside)

  -- without the two numbers it has no shape
  unmade : ((a b : ℕ) (more : List ℕ) → a < numbers → b < numbers → drop (at + 5) text ≡ two_numbers a b more → ⊥)
      → {t : Taken} → t ≡ taken Unshaped (length text) → t ≡ taken_at text at
  unmade n {t = t} u = by (first_line text at some)
    where
      by : First text at → t ≡ taken_at text at
      by (unshaped rest f) = none_taken text at some u f
      by (playing a b more k l f) = absurd (n a b more k l (sym (drop-drop 5 at text) ∙ ap (drop 5) f))
      by (holding a b more k l f) = absurd (n a b more k l (sym (drop-drop 5 at text) ∙ ap (drop 5) f))
      by (repeating a more k f) = let g : ◌≡◌ {A = Option ℕ} (Some ta) None = s ∙ ap held_in f in cc
      by (ending more f) = let g : ◌≡◌ {A = Option ℕ} (Some ta) None = s ∙ ap held_in f in cc

  -- no address
  pub address_none : None ≡ counted_then tab (at + 5) text → {t : Taken} → t ≡ taken Unshaped (length text) → t ≡ taken_at text at
  address_none c u = unmade (λ a b more k l f. then_none tab (at + 5) text pulse_inside refl c a (one_number b more) k f) u

  module _ {r : Counted} (c : Some r ≡ counted_then tab (at + 5) text) where
    address : NumberThen tab (at + 5) text r
    address = then_read tab (at + 5) text pulse_inside refl c

    pub address_inside : r.end ≤ length text
    address_inside = address.inside

    -- an address, and no count
    pub count_none : None ≡ counted_then line_feed r.end text → {t : Taken} → t ≡ taken Unshaped (length text) → t ≡ taken_at text at
    count_none d u = unmade (λ a b more k l f. then_none line_feed r.end text address_inside refl d b more l (rest a b more f)) u
      where
        rest : (a b : ℕ) (more : List ℕ) → drop (at + 5) text ≡ two_numbers a b more → drop r.end text ≡ one_number b more
        rest a b more f =
            sym (behind_piece tab (decimal r.value) (drop r.end text) (decimal_free tab r.value refl))
            ∙ ap (behind tab) (sym address.found ∙ f)
            ∙ behind_piece tab (decimal a) (one_number b more) (decimal_free tab a refl)

    module _ {r' : Counted} (d : Some r' ≡ counted_then line_feed r.end text) where
      count_there : NumberThen line_feed r.end text r'
      count_there = then_read line_feed r.end text address_inside refl d

      pub pulse_taken : {line : Line} → line ≡ Pulse (pulse_of ta (r.value ∷ r'.value ∷ [])) → taken line r'.end ≡ taken_at text at
      pulse_taken e = ap (λ (l : Line). taken l r'.end) e ∙ taken_is text at some lines (count_there.ends ∙ ap (λ (k : ℕ). k + 1) (sym feed_is))
        where
          lines : lines_from text at ≡ Pulse (pulse_of ta (r.value ∷ r'.value ∷ [])) ∷ lines_from text r'.end
          lines =
              ap (λ (l : List ℕ). map line_of (rows_in l))
              (start.there ∙ ap (λ (l : List ℕ). start.name ++ l) (address.found ∙ ap (λ (l : List ℕ). decimal r.value ++ (tab ∷ l)) count_there.found))
              ∙ start.read r.value r'.value (drop r'.end text) address.small count_there.small

          feed_is : place_of line_feed at text ≡ place_of line_feed r.end text
          feed_is =
              place_past line_feed start.name text at (at + 5) start.free (omega (arith, pulse_inside)) pulse_inside start.there
              ∙ place_past line_feed (decimal r.value ++ (tab ∷ [])) text (at + 5) r.end
              (has_append line_feed (decimal r.value) (tab ∷ []) (decimal_free line_feed r.value refl) refl) pulse_inside address_inside
              (address.found ∙ sym (append_assoc (decimal r.value) (tab ∷ []) (drop r.end text)))
