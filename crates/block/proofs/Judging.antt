-- Laws of the judge: line by line with a level, and what it lets through.
-- Assumes nothing.
use Prim.Native.Nat.{ℕ, zero, suc, ◌+◌, ◌-◌, ◌≤◌, ◌<◌}
use mathlib.Core.Path.{◌≡◌, refl, sym, ap, ◌∙◌}
use mathlib.Core.Bool.{Bool, true, false}
use mathlib.Core.List.{List, [], ◌∷◌, map}
use native.Mathlib.Omega.{arith}
use borrow.Author.Tests.{eq-eqb, ne_eqb, eqb-true, eqb-false}
use lib.Dec.{eqb}
use lib.ListN.{length, get_or, drop}
use Rattle.instruction.specs.Bits.{pick}
use Rattle.text.specs.Cut.{Row, rows_in}
use Rattle.nest.specs.Block.{Block, block_in, nest_limit}
use Rattle.nest.specs.Fair.{Fair}
use Rattle.nest.specs.Layout.{raised, passed, sum_of}
use Rattle.nest.specs.declared.Line.{Line}
use Rattle.nest.specs.declared.Line.TheVariants.{Pulse, Repeat, End, Unshaped}
use Rattle.nest.proofs.Heads.{raised_length}
use Rattle.nest.proofs.Sums.{raised_sum}
use Rattle.block_line.specs.Line.{line_of, line_number, level_after}
use Rattle.block_line.proofs.Shapes.{op_in, line_plays}
use Rattle.block_line.proofs.Numbers.{repeat_fair, number_pulse, end_paired, shaped}
use Rattle.block.specs.Text.{judged}
use Rattle.block_line.specs.Taking.{lines_from, taken_at}
use Rattle.block_line.specs.declared.Taken.{Taken}
use Rattle.block_line.proofs.Forms.{lines_none}
use Rattle.block_line.proofs.Taking.{Takes, takes}
use Rattle.block.specs.Steps.{AllShaped, words_for, counted, Judges}
use Rattle.std.specs.Prelude.{Err}
use Rattle.text.specs.Told.{Told, number_in, accepted, refused_at}
use Rattle.text.specs.declared.Refused.{Refused}

-- ---- one line

module _ (wave row level : ℕ) (line : Line) (lines : List Line) where
  judged_next : line_number wave level line ≡ 0 → judged wave row level (line ∷ lines) ≡ judged wave (row + 1) (level_after line level) lines
  unfolding judged
  judged_next e = rw (eq-eqb (line_number wave level line) 0 e)

  judged_bad : (line_number wave level line ≡ 0 → ⊥) → judged wave row level (line ∷ lines) ≡ refused_at (line_number wave level line) row
  unfolding judged
  judged_bad n = rw (ne_eqb (line_number wave level line) 0 n)

  -- a line that is let through, and those behind it
  judged_good : (number_in (judged wave row level (line ∷ lines))) ≡ 0 → (line_number wave level line ≡ 0) × ((number_in (judged wave (row + 1) (level_after line level) lines)) ≡ 0)
  unfolding judged
  judged_good e = by (eqb (line_number wave level line) 0) refl e
    where
      by : (t : Bool) → eqb (line_number wave level line) 0 ≡ t
          → (number_in (pick t (judged wave (row + 1) (level_after line level) lines) (refused_at (line_number wave level line) row))) ≡ 0
          → (line_number wave level line ≡ 0) × ((number_in (judged wave (row + 1) (level_after line level) lines)) ≡ 0)
      by true p z = (eqb-true (line_number wave level line) 0 p, z)
      by false p z = absurd (let y : true ≡ false = sym (eq-eqb (line_number wave level line) 0 z) ∙ p in let x : ◌≡◌ {A = ℕ} 0 1 = cc in omega arith)

-- behind the last line
ended : (wave row level : ℕ) → level ≡ 0 → judged wave row level [] ≡ accepted 0
unfolding judged
ended wave row level e = rw e

left_open_lem : (wave row level : ℕ) → (level ≡ 0 → ⊥) → judged wave row level [] ≡ refused_at 52 row
unfolding judged
left_open_lem wave row level n = rw (ne_eqb level 0 n)

none_open : (wave row level : ℕ) → (number_in (judged wave row level [])) ≡ 0 → level ≡ 0
unfolding judged
none_open wave row level e = by (eqb level 0) refl e
  where
    by : (t : Bool) → eqb level 0 ≡ t → (number_in (pick t (accepted 0) (refused_at 52 row))) ≡ 0 → level ≡ 0
    by true p z = eqb-true level 0 p
    by false p z = absurd (omega (arith, z))

-- what is refused has a number
pub judged_refused : (wave row level : ℕ) (lines : List Line) {e : Refused} → Err e ≡ judged wave row level lines → e.number ≡ 0 → ⊥
unfolding judged
judged_refused wave row level [] {e = e} f z = by (eqb level 0) f
  where
    by : (t : Bool) → Err e ≡ pick t (accepted 0) (refused_at 52 row) → ⊥
    by true g = cc
    by false g = omega (arith, z, ap number_in g)
judged_refused wave row level (line ∷ lines) {e = e} f z = by (eqb (line_number wave level line) 0) refl f (λ g. judged_refused wave (row + 1) (level_after line level) lines g z)
  where
    by : (t : Bool) → eqb (line_number wave level line) 0 ≡ t
        → Err e ≡ pick t (judged wave (row + 1) (level_after line level) lines) (refused_at (line_number wave level line) row)
        → (Err e ≡ judged wave (row + 1) (level_after line level) lines → ⊥) → ⊥
    by true p g ih = ih g
    by false p g ih = eqb-false (line_number wave level line) 0 p (sym (ap number_in g) ∙ z)

-- ---- levels

words_few : (line : Line) → words_for line ≤ 3
words_few (Pulse f) = omega arith
words_few (Repeat n) = omega arith
words_few End = omega arith
words_few Unshaped = omega arith

level_deep : (wave level : ℕ) (line : Line) → line_number wave level line ≡ 0 → level ≤ nest_limit → level_after line level ≤ nest_limit
unfolding level_after
level_deep wave level (Pulse f) e h = h
level_deep wave level (Repeat n) e h = omega (arith, (repeat_fair wave level n e).2)
level_deep wave level End e h = omega (arith, h)
level_deep wave level Unshaped e h = h

-- ---- the loop

pub record Judging (wave : ℕ) (text before : List ℕ) (at row level : ℕ) (sizes : List ℕ) : Type 0 where
  pub far : at ≤ length text
  pub levels : length sizes ≡ suc nest_limit
  pub deep : level ≤ nest_limit
  pub some : 1 ≤ row
  pub few : sum_of sizes + row ≤ at + 3
  pub told : judged wave row level (lines_from text at) ≡ judged wave 1 0 (lines_from text 0)
  pub same : counted (lines_from text at) level sizes ≡ counted (lines_from text 0) 0 before

-- one level is no more than all
part_few : (l : List ℕ) (i : ℕ) → get_or l i 0 ≤ sum_of l
part_few [] i = omega arith
part_few (x ∷ l) zero = omega arith
part_few (x ∷ l) (suc i) = omega (arith, part_few l i)

module _ (wave : ℕ) (text before : List ℕ) where
  pub judging_start : length before ≡ suc nest_limit → sum_of before ≤ 2 → Judging wave text before 0 1 0 before
  judging_start l h = record { far = omega arith; levels = l; deep = omega arith; some = omega arith; few = omega (arith, h); told = refl; same = refl }

  module _ {at row level : ℕ} {sizes : List ℕ} (g : Judging wave text before at row level sizes) where
    -- behind the last line
    module _ (h : length text ≤ at) where
      last : judged wave 1 0 (lines_from text 0) ≡ judged wave row level []
      last = sym g.told ∙ ap (judged wave row level) (lines_none text at h)

      pub judging_open : (level ≡ 0 → ⊥) → {r : Told} → r ≡ refused_at 52 row → Judges wave text before sizes r
      judging_open n {r = r} e =
          record {
            answer = e ∙ sym (last ∙ left_open_lem wave row level n);
            sizes = λ z. absurd (omega (arith, z, ap number_in e));
            few = λ z. absurd (omega (arith, z, ap number_in e));
          }

      pub judging_end : level ≡ 0 → {r : Told} → r ≡ accepted 0 → Judges wave text before sizes r
      judging_end z e =
          record {
            answer = e ∙ sym (last ∙ ended wave row level z);
            sizes = λ y. ap (λ (ls : List Line). counted ls level sizes) (sym (lines_none text at h)) ∙ g.same;
            few = λ y. omega (arith, g.some, g.few, g.far, h);
          }

    module _ (h : at < length text) {t : Taken} (u : t ≡ taken_at text at) {number : ℕ} (e : number ≡ line_number wave level t.line) where
      abbrev line : Line
      line = t.line

      abbrev next : ℕ
      next = t.next

      k : Takes text at line next
      k = takes text at h u

      -- the measure falls
      pub judging_falls : length text - next < length text - at
      judging_falls = omega (arith, k.later, k.far)

      pub judging_bad : (number ≡ 0 → ⊥) → {r : Told} → r ≡ refused_at number row → Judges wave text before sizes r
      judging_bad n f =
          record {
            answer =
                f ∙ ap (λ (x : ℕ). refused_at x row) e ∙ sym (judged_bad wave row level line k.rest (λ z. n (e ∙ z)))
                ∙ sym (ap (judged wave row level) k.lines) ∙ g.told;
            sizes = λ z. absurd (n (sym (ap number_in f) ∙ z));
            few = λ z. absurd (n (sym (ap number_in f) ∙ z));
          }

      pub judging_place : level < length sizes
      judging_place = omega (arith, g.levels, g.deep)

      module _ (z : number ≡ 0) where
        good : line_number wave level line ≡ 0
        good = sym e ∙ z

        -- the lines go on behind it
        on : lines_from text at ≡ line ∷ lines_from text next
        on = k.lines ∙ ap (λ (ls : List Line). line ∷ ls) (k.goes (shaped wave level good))

        four : at + 4 ≤ next
        four = k.long (shaped wave level good)

        -- no count overflows
        pub judging_few : {w : ℕ} → w ≡ words_for line → get_or sizes level 0 + w ≤ length text + 1
        judging_few m = omega (arith, m, words_few line, part_few sizes level, g.few, g.some, four, k.far)

        pub judging_next : {w level' : ℕ} → w ≡ words_for line → level' ≡ level_after line level → Judging wave text before next (row + 1) level' (raised sizes level w)
        judging_next {w = w} {level' = level'} m d = rw (m, d) next_one
          where
            next_one : Judging wave text before next (row + 1) (level_after line level) (raised sizes level (words_for line))
            next_one =
                record {
                  far = k.far;
                  levels = raised_length sizes level (words_for line) ∙ g.levels;
                  deep = level_deep wave level line good g.deep;
                  some = omega (arith, g.some);
                  few = omega (arith, raised_sum sizes level (words_for line) judging_place, words_few line, g.few, four);
                  told = sym (judged_next wave row level line (lines_from text next) good) ∙ sym (ap (judged wave row level) on) ∙ g.told;
                  same = sym (ap (λ (ls : List Line). counted ls level sizes) on) ∙ g.same;
                }

-- ---- what is let through

abbrev AllPlay : List Line → Type 0
AllPlay [] = Unit {0}
AllPlay (line ∷ lines) = (op_in line ≡ 0) × AllPlay lines

all_play : (rows : List Row) → AllPlay (map line_of rows)
all_play [] = tt
all_play (row ∷ rows) = (line_plays row, all_play rows)

-- the block that is `out` levels out stands at the level k, where out + k repeats are open
fair_in : (wave row level : ℕ) (lines : List Line) → AllPlay lines → (number_in (judged wave row level lines)) ≡ 0 → (out k : ℕ) → out + k ≡ level → Fair wave k (block_in lines out)
unfolding level_after
fair_in wave row level [] p e out k s = tt
fair_in wave row level (Pulse f ∷ lines) p e zero k s =
    let g = judged_good wave row level (Pulse f) lines e in
    (number_pulse wave level refl ∙ g.0, p.0, fair_in wave (row + 1) level lines p.1 g.1 zero k s)
fair_in wave row level (Pulse f ∷ lines) p e (suc out) k s = fair_in wave (row + 1) level lines p.1 (judged_good wave row level (Pulse f) lines e).1 (suc out) k s
fair_in wave row level (Repeat n ∷ lines) p e zero k s =
    let g = judged_good wave row level (Repeat n) lines e in
    let f = repeat_fair wave level n g.0 in (
      f.0,
      f.1,
      omega (arith, f.2, s),
      fair_in wave (row + 1) (suc level) lines p.1 g.1 zero (suc k) (omega (arith, s)),
      fair_in wave (row + 1) (suc level) lines p.1 g.1 1 k (omega (arith, s)),
    )
fair_in wave row level (Repeat n ∷ lines) p e (suc out) k s = fair_in wave (row + 1) (suc level) lines p.1 (judged_good wave row level (Repeat n) lines e).1 (suc (suc out)) k (omega (arith, s))
fair_in wave row level (End ∷ lines) p e zero k s = tt
fair_in wave row level (End ∷ lines) p e (suc out) k s = fair_in wave (row + 1) (level - 1) lines p.1 (judged_good wave row level End lines e).1 out k (omega (arith, s))
fair_in wave row level (Unshaped ∷ lines) p e out k s = absurd (shaped wave level (judged_good wave row level Unshaped lines e).0 refl)

shaped_in : (wave row level : ℕ) (lines : List Line) → (number_in (judged wave row level lines)) ≡ 0 → AllShaped lines
shaped_in wave row level [] e = tt
shaped_in wave row level (line ∷ lines) e =
    let g = judged_good wave row level line lines e in
    (shaped wave level g.0, shaped_in wave (row + 1) (level_after line level) lines g.1)

pub judged_shaped : (wave : ℕ) (text : List ℕ) → (number_in (judged wave 1 0 (lines_from text 0))) ≡ 0 → AllShaped (lines_from text 0)
judged_shaped wave text e = shaped_in wave 1 0 (lines_from text 0) e

pub judged_fair : (wave : ℕ) (text : List ℕ) → (number_in (judged wave 1 0 (lines_from text 0))) ≡ 0 → Fair wave 0 (block_in (lines_from text 0) 0)
judged_fair wave text e = fair_in wave 1 0 (lines_from text 0) (all_play (rows_in (drop 0 text))) e 0 0 refl

-- ---- the counts are those of the block

-- what the blocks that are open add, from the innermost one out, each but the last with its RETURN
rest_of : (ℕ → Block) → ℕ → List ℕ → List ℕ
rest_of blocks zero sizes = passed (blocks 0) 0 sizes
rest_of blocks (suc level) sizes = rest_of (λ out. blocks (suc out)) level (raised (passed (blocks 0) (suc level) sizes) (suc level) 1)

counted_rest : (wave row level : ℕ) (lines : List Line) (sizes : List ℕ) → (number_in (judged wave row level lines)) ≡ 0
    → counted lines level sizes ≡ rest_of (block_in lines) level sizes
unfolding level_after rest_of
counted_rest wave row zero [] sizes e = refl
counted_rest wave row (suc level) [] sizes e = absurd (omega (arith, none_open wave row (suc level) e))
counted_rest wave row zero (Pulse f ∷ lines) sizes e = counted_rest wave (row + 1) zero lines (raised sizes zero 1) (judged_good wave row zero (Pulse f) lines e).1
counted_rest wave row (suc level) (Pulse f ∷ lines) sizes e = counted_rest wave (row + 1) (suc level) lines (raised sizes (suc level) 1) (judged_good wave row (suc level) (Pulse f) lines e).1
counted_rest wave row zero (Repeat n ∷ lines) sizes e = counted_rest wave (row + 1) 1 lines (raised sizes 0 3) (judged_good wave row zero (Repeat n) lines e).1
counted_rest wave row (suc level) (Repeat n ∷ lines) sizes e = counted_rest wave (row + 1) (suc (suc level)) lines (raised sizes (suc level) 3) (judged_good wave row (suc level) (Repeat n) lines e).1
counted_rest wave row zero (End ∷ lines) sizes e = absurd (let h = end_paired wave zero (judged_good wave row zero End lines e).0 in omega (arith, h))
counted_rest wave row (suc level) (End ∷ lines) sizes e =
    let g = (judged_good wave row (suc level) End lines e).1 in
    ap (λ (k : ℕ). counted lines k (raised sizes (suc level) 1)) (less level)
    ∙ counted_rest wave (row + 1) level lines (raised sizes (suc level) 1) (ap (λ (k : ℕ). (number_in (judged wave (row + 1) k lines))) (sym (less level)) ∙ g)
  where
    less : (k : ℕ) → suc k - 1 ≡ k
    less k = omega arith
counted_rest wave row level (Unshaped ∷ lines) sizes e = absurd (shaped wave level (judged_good wave row level Unshaped lines e).0 refl)

pub judged_counts : (wave : ℕ) (text sizes : List ℕ) → (number_in (judged wave 1 0 (lines_from text 0))) ≡ 0
    → counted (lines_from text 0) 0 sizes ≡ passed (block_in (lines_from text 0) 0) 0 sizes
unfolding rest_of
judged_counts wave text sizes e = counted_rest wave 1 0 (lines_from text 0) sizes e
