-- Laws of the translator over lines: an item, and a block.
-- Assumes nothing.
use Prim.Native.Nat.{ℕ, suc, ◌+◌, ◌≤◌, ◌<◌}
use mathlib.Core.Path.{◌≡◌, refl, sym, ap, subst, ◌∙◌}
use mathlib.Core.Bool.{true, false}
use mathlib.Core.List.{List, [], ◌∷◌, map}
use native.Mathlib.Omega.{arith}
use lib.ListN.{length, get_or}
use lib.Seq.{length-sets}
use Rattle.instruction.specs.Word.{word_of}
use Rattle.instruction.specs.declared.Instruction.{Instruction}
use Rattle.instruction.specs.declared.WaveformFields.{WaveformFields}
use Rattle.instruction.specs.declared.Body.TheVariants.{Waveform}
use Rattle.nest.specs.Block.{Block, pulse, repeat, block_in, nest_limit, high}
use Rattle.nest.specs.Fair.{Fair}
use Rattle.nest.specs.Layout.{raised, passed, Sheet, sheet, put, opening, closing, laid}
use Rattle.nest.specs.declared.Line.{Line}
use Rattle.nest.specs.declared.Line.TheVariants.{Pulse, Repeat, End, Unshaped}
use Rattle.nest.proofs.Heads.{raised_length, raised_same, raised_up, passed_length, passed_up, passed_body}
use Rattle.nest.proofs.Laid.{laid_heads, laid_length}
use Rattle.text.proofs.Bools.{never}
use Rattle.block_line.specs.Taking.{lines_from, taken_at}
use Rattle.block_line.specs.declared.Taken.{Taken}
use Rattle.block_line.proofs.Forms.{lines_none}
use Rattle.block_line.proofs.Taking.{Takes, takes}
use Rattle.block.specs.Steps.{AllShaped, is_end, CanLay, Onward, ItemAsks, Moved, BlockAsks, Laid}

-- ---- sheets

pub put_length : (level : ℕ) (heads words : List ℕ) (is : List Instruction) {heads' words' : List ℕ} → sheet heads' words' ≡ put level is (sheet heads words) → length words' ≡ length words
put_length level heads words is e = ap (λ (s : Sheet). length s.words) e ∙ length-sets words (get_or heads level 0) (map word_of is)

pub laid_size : (b : Block) (level : ℕ) (heads words : List ℕ) {heads' words' : List ℕ} → sheet heads' words' ≡ laid b level (sheet heads words) → length words' ≡ length words
laid_size b level heads words e = ap (λ (s : Sheet). length s.words) e ∙ laid_length b level (sheet heads words)

pub laid_places : (b : Block) (level : ℕ) (heads words : List ℕ) {heads' words' : List ℕ} → sheet heads' words' ≡ laid b level (sheet heads words) → heads' ≡ passed b level heads
laid_places b level heads words e = ap (λ (s : Sheet). s.heads) e ∙ laid_heads b level (sheet heads words)

-- ---- an item

module _ (text : List ℕ) (line : Line) (next level : ℕ) (heads words : List ℕ) (a : ItemAsks text line next level heads words) where
  abbrev ls : List Line
  ls = lines_from text next

  abbrev s : Sheet
  s = sheet heads words

  pub item_never : {A : Type 0} → line ≡ End → A
  item_never e = never (ap is_end (sym e) ∙ a.goes)

  -- nothing is laid for a line that says nothing
  pub unshaped_moved : line ≡ Unshaped → Moved text line next level heads words next heads words
  unshaped_moved e =
      record {
        later = omega arith;
        far = a.far;
        shaped = a.shaped;
        onward = record {
          outer = λ out. ap (λ (l : Line). block_in (l ∷ ls) (suc out)) (sym e);
          fair = λ wave f. subst (λ (l : Line). Fair wave level (block_in (l ∷ ls) 0)) e f;
          same = ap (λ (l : Line). laid (block_in (l ∷ ls) 0) level s) (sym e);
        };
      }

  module _ {f : WaveformFields} (e : line ≡ Pulse f) where
    pulse_can : CanLay (pulse f (block_in ls 0)) level heads words
    pulse_can = subst (λ (l : Line). CanLay (block_in (l ∷ ls) 0) level heads words) e a.can

    pub pulse_room : (level ≤ nest_limit) × (get_or heads level 0 < length words)
    pulse_room = (
      pulse_can.deep,
      omega (
        arith,
        pulse_can.room level,
        passed_up (block_in ls 0) level (raised heads level 1) level,
        raised_same heads level 1 (omega (arith, pulse_can.levels, pulse_can.deep)),
      ),
    )

    pub pulse_size : {heads' words' : List ℕ} → sheet heads' words' ≡ put level (high (Waveform f) ∷ []) s → length words' ≡ length words
    pulse_size w = put_length level heads words (high (Waveform f) ∷ []) w

    pub pulse_moved : {heads' words' : List ℕ} → sheet heads' words' ≡ put level (high (Waveform f) ∷ []) s → Moved text line next level heads words next heads' words'
    pulse_moved w =
        record {
          later = omega arith;
          far = a.far;
          shaped = a.shaped;
          onward = record {
            outer = λ out. ap (λ (l : Line). block_in (l ∷ ls) (suc out)) (sym e);
            fair = λ wave h. (subst (λ (l : Line). Fair wave level (block_in (l ∷ ls) 0)) e h).2;
            same = ap (laid (block_in ls 0) level) w ∙ ap (λ (l : Line). laid (block_in (l ∷ ls) 0) level s) (sym e);
          };
        }

  module _ {n : ℕ} (e : line ≡ Repeat n) where
    abbrev body : Block
    body = block_in ls 0

    abbrev rest : Block
    rest = block_in ls 1

    abbrev hs₁ : List ℕ
    hs₁ = raised heads level 3

    abbrev hs₂ : List ℕ
    hs₂ = passed body (suc level) hs₁

    abbrev hs₃ : List ℕ
    hs₃ = raised hs₂ (suc level) 1

    can : CanLay (repeat n body rest) level heads words
    can = subst (λ (l : Line). CanLay (block_in (l ∷ ls) 0) level heads words) e a.can

    -- each level has room for the rest
    after : (j : ℕ) → get_or hs₃ j 0 ≤ length words
    after j = omega (arith, can.room j, passed_up rest level hs₃ j)

    inside : level < length heads
    inside = omega (arith, can.levels, can.deep)

    pub repeat_opens : (1 ≤ n) × (level < nest_limit) × (get_or heads level 0 + 3 ≤ length words)
    repeat_opens = (can.fair.0, can.fair.2, omega (arith, after level, passed_body body level heads inside))

    module _ {heads₁ words₁ : List ℕ} (o : sheet heads₁ words₁ ≡ put level (opening n (get_or heads level 0) (get_or heads (suc level) 0)) s) {l : ℕ} (m : l ≡ suc level) where
      opened : heads₁ ≡ hs₁
      opened = ap (λ (t : Sheet). t.heads) o

      size₁ : length words₁ ≡ length words
      size₁ = put_length level heads words (opening n (get_or heads level 0) (get_or heads (suc level) 0)) o

      pub body_asks : BlockAsks text next l heads₁ words₁
      body_asks = rw (m, opened) asks
        where
          asks : BlockAsks text next (suc level) hs₁ words₁
          asks =
              record {
                far = a.far;
                shaped = a.shaped;
                can = record {
                  wave = can.wave;
                  fair = can.fair.3;
                  levels = raised_length heads level 3 ∙ can.levels;
                  deep = omega (arith, can.fair.2);
                  room = λ j. omega (arith, after j, raised_up hs₂ (suc level) j 1, size₁);
                };
              }

      module _ {at' : ℕ} {heads₂ words₂ : List ℕ} (w : Laid text next l heads₁ words₁ at' heads₂ words₂) where
        laid₂ : sheet heads₂ words₂ ≡ laid body (suc level) (sheet heads₁ words₁)
        laid₂ = w.wrote ∙ ap (λ (k : ℕ). laid body k (sheet heads₁ words₁)) m

        places₂ : heads₂ ≡ hs₂
        places₂ = laid_places body (suc level) heads₁ words₁ laid₂ ∙ ap (passed body (suc level)) opened

        size₂ : length words₂ ≡ length words
        size₂ = laid_size body (suc level) heads₁ words₁ laid₂ ∙ size₁

        pub repeat_closes : (l ≤ nest_limit) × (get_or heads₂ l 0 < length words₂)
        repeat_closes = rw (m, places₂) (
          omega (arith, can.fair.2),
          omega (
            arith,
            after (suc level),
            raised_same hs₂ (suc level) 1 (omega (arith, passed_length body (suc level) hs₁, raised_length heads level 3, can.levels, can.fair.2)),
            size₂,
          ),
        )

        pub repeat_size : {heads₃ words₃ : List ℕ} → sheet heads₃ words₃ ≡ put l closing (sheet heads₂ words₂) → length words₃ ≡ length words
        repeat_size c = put_length l heads₂ words₂ closing c ∙ size₂

        pub repeat_moved : {heads₃ words₃ : List ℕ} → sheet heads₃ words₃ ≡ put l closing (sheet heads₂ words₂) → Moved text line next level heads words at' heads₃ words₃
        repeat_moved c =
            record {
              later = w.later;
              far = w.far;
              shaped = w.shaped;
              onward = record {
                outer = λ out. w.outer (suc out) ∙ ap (λ (x : Line). block_in (x ∷ ls) (suc out)) (sym e);
                fair = λ wave h. subst (Fair wave level) (sym (w.outer 0)) (subst (λ (x : Line). Fair wave level (block_in (x ∷ ls) 0)) e h).4;
                same =
                    (λ j. laid (w.outer 0 j) level (c j))
                    ∙ (λ j. laid rest level (put (m j) closing (laid₂ j)))
                    ∙ ap (λ (t : Sheet). laid rest level (put (suc level) closing (laid body (suc level) t))) o
                    ∙ ap (λ (x : Line). laid (block_in (x ∷ ls) 0) level s) (sym e);
              };
            }

-- ---- a block

pub record Going (text : List ℕ) (at level : ℕ) (heads₀ words₀ : List ℕ) (i : ℕ) (heads words : List ℕ) : Type 0 where
  pub since : at ≤ i
  pub far : i ≤ length text
  pub shaped : AllShaped (lines_from text i)
  pub on : Onward (lines_from text at) level (sheet heads₀ words₀) (lines_from text i) (sheet heads words)

is_end_lem : (line : Line) → is_end line ≡ true → line ≡ End
is_end_lem (Pulse f) e = never (sym e)
is_end_lem (Repeat n) e = never (sym e)
is_end_lem End e = refl
is_end_lem Unshaped e = never (sym e)

module _ (text : List ℕ) (at level : ℕ) (heads₀ words₀ : List ℕ) (a : BlockAsks text at level heads₀ words₀) where
  pub going_start : Going text at level heads₀ words₀ at heads₀ words₀
  going_start = record { since = omega arith; far = a.far; shaped = a.shaped; on = record { outer = λ out. refl; fair = λ wave f. f; same = refl } }

  module _ {i : ℕ} {heads words : List ℕ} (g : Going text at level heads₀ words₀ i heads words) where
    abbrev before : Block
    before = block_in (lines_from text at) 0

    abbrev now : Block
    now = block_in (lines_from text i) 0

    heads_same : passed now level heads ≡ passed before level heads₀
    heads_same = sym (laid_heads now level (sheet heads words)) ∙ ap (λ (t : Sheet). t.heads) g.on.same ∙ laid_heads before level (sheet heads₀ words₀)

    pub going_size : length words ≡ length words₀
    going_size = sym (laid_length now level (sheet heads words)) ∙ ap (λ (t : Sheet). length t.words) g.on.same ∙ laid_length before level (sheet heads₀ words₀)

    going_can : CanLay now level heads words
    going_can =
        record {
          wave = a.can.wave;
          fair = g.on.fair a.can.wave a.can.fair;
          levels = sym (passed_length now level heads) ∙ ap length heads_same ∙ passed_length before level heads₀ ∙ a.can.levels;
          deep = a.can.deep;
          room = λ j. omega (arith, a.can.room j, ap (λ (hs : List ℕ). get_or hs j 0) heads_same, going_size);
        }

    pub going_out : length text ≤ i → Laid text at level heads₀ words₀ i heads words
    going_out h =
        let e = lines_none text i h in
        record {
          later = g.since;
          far = g.far;
          shaped = g.shaped;
          outer = λ out. ap (λ (ls : List Line). block_in ls out) e ∙ sym (ap (λ (ls : List Line). block_in ls (suc out)) e) ∙ g.on.outer out;
          wrote = sym (ap (λ (ls : List Line). laid (block_in ls 0) level (sheet heads words)) e) ∙ g.on.same;
        }

    module _ (h : i < length text) {t : Taken} (u : t ≡ taken_at text i) where
      abbrev line : Line
      line = t.line

      abbrev next : ℕ
      next = t.next

      k : Takes text i line next
      k = takes text i h u

      pub going_later : i < next
      going_later = k.later

      pub going_far : next ≤ length text
      going_far = k.far

      left : AllShaped (line ∷ k.rest)
      left = subst AllShaped k.lines g.shaped

      behind : k.rest ≡ lines_from text next
      behind = k.goes left.0

      -- the lines go on behind it, each with a shape
      lines : lines_from text i ≡ line ∷ lines_from text next
      lines = k.lines ∙ ap (λ (ls : List Line). line ∷ ls) behind

      shaped_next : AllShaped (lines_from text next)
      shaped_next = subst AllShaped behind left.1

      pub going_asks : is_end line ≡ false → ItemAsks text line next level heads words
      going_asks n = record { far = k.far; goes = n; shaped = shaped_next; can = subst (λ (ls : List Line). CanLay (block_in ls 0) level heads words) lines going_can }

      pub going_next : {i' : ℕ} {heads' words' : List ℕ} → Moved text line next level heads words i' heads' words' → Going text at level heads₀ words₀ i' heads' words'
      going_next m =
          record {
            since = omega (arith, g.since, k.later, m.later);
            far = m.far;
            shaped = m.shaped;
            on = record {
              outer = λ out. m.onward.outer out ∙ sym (ap (λ (ls : List Line). block_in ls (suc out)) lines) ∙ g.on.outer out;
              fair = λ wave f. m.onward.fair wave (subst (λ (ls : List Line). Fair wave level (block_in ls 0)) lines (g.on.fair wave f));
              same = m.onward.same ∙ sym (ap (λ (ls : List Line). laid (block_in ls 0) level (sheet heads words)) lines) ∙ g.on.same;
            };
          }

      pub going_end : is_end line ≡ true → Laid text at level heads₀ words₀ next heads words
      going_end t =
          let e = lines ∙ ap (λ (l : Line). l ∷ lines_from text next) (is_end_lem line t) in
          record {
            later = omega (arith, g.since, k.later);
            far = k.far;
            shaped = shaped_next;
            outer = λ out. sym (ap (λ (ls : List Line). block_in ls (suc out)) e) ∙ g.on.outer out;
            wrote = sym (ap (λ (ls : List Line). laid (block_in ls 0) level (sheet heads words)) e) ∙ g.on.same;
          }
