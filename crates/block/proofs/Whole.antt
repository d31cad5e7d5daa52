-- Laws of a whole text: SYNC, the block and the park are laid, and what is told of it.
-- Assumes nothing.
use Prim.Native.Nat.{ℕ, suc, ◌^◌, ◌≤◌, ◌<◌}
use mathlib.Core.Path.{◌≡◌, refl, sym, ap, ◌∙◌}
use mathlib.Core.Bool.{Bool, true, false}
use mathlib.Core.List.{List, [], ◌∷◌, ◌++◌}
use native.Mathlib.Omega.{arith}
use borrow.Author.Tests.{eq-eqb, ne_eqb, eqb-true, eqb-false, lt-ltb, le-ltb, ltb-false}
use lib.Dec.{ltb, eqb}
use lib.ListN.{length, get_or, drop, replicate}
use Rattle.instruction.specs.Bits.{pick, ◌gives◌else◌}
use Rattle.instruction.specs.declared.Body.TheVariants.{Sync}
use Rattle.sequence.specs.Bounds.{word_limit, wave_limit}
use Rattle.nest.specs.Block.{Block, nest_limit, high}
use Rattle.nest.specs.Fair.{Fair}
use Rattle.nest.specs.Layout.{size_of, raised, passed, sum_of, sizes_of, starts_from, Sheet, sheet, put, laid, laid_in, parked, words_of}
use Rattle.nest.proofs.Sums.{sizes_length, sizes_sum, starts_first}
use Rattle.nest.proofs.Wholes.{heads_of, heads_levels, park_place, park_inside, laid_room, whole_in}
use Rattle.block.specs.Text.{lines_in, block_of, judged, room_refused, fitted, translation, Translates}
use Rattle.block.specs.Steps.{Judges, BlockAsks, Laid, CanStart}
use Rattle.std.specs.Prelude.{Err}
use Rattle.text.specs.Told.{Told, number_in, accepted, refused_at}
use Rattle.text.specs.declared.Refused.{Refused}
use Rattle.block.proofs.Judging.{judged_refused, judged_shaped, judged_fair, judged_counts}
use Rattle.block.proofs.Laying.{put_length, laid_places, laid_size}

-- ---- laying

module _ (text heads words : List ℕ) (a : CanStart text heads words) where
  abbrev b : Block
  b = block_of text

  pub sync_room : get_or heads 0 0 < length words
  sync_room = omega (arith, a.room, ap (λ (hs : List ℕ). get_or hs 0 0) a.places, starts_first 0 (sizes_of b) (omega (arith, sizes_length b)))

  module _ {heads₁ words₁ : List ℕ} (o : sheet heads₁ words₁ ≡ put 0 (high Sync ∷ []) (sheet heads words)) where
    begun : heads₁ ≡ heads_of b
    begun = ap (λ (s : Sheet). s.heads) o ∙ ap (λ (hs : List ℕ). raised hs 0 1) a.places

    size₁ : length words₁ ≡ length words
    size₁ = put_length 0 heads words (high Sync ∷ []) o

    pub lay_asks : BlockAsks text 0 0 heads₁ words₁
    lay_asks = rw begun asks
      where
        asks : BlockAsks text 0 0 (heads_of b) words₁
        asks =
            record {
              far = omega arith;
              shaped = a.shaped;
              can = record {
                wave = a.wave;
                fair = a.fair;
                levels = heads_levels b;
                deep = omega arith;
                room = λ j. omega (arith, laid_room a.wave b a.fair j, a.room, size₁);
              };
            }

    module _ {at : ℕ} {heads₂ words₂ : List ℕ} (w : Laid text 0 0 heads₁ words₁ at heads₂ words₂) where
      ends : heads₂ ≡ passed b 0 (heads_of b)
      ends = laid_places b 0 heads₁ words₁ w.wrote ∙ ap (passed b 0) begun

      pub park_room : get_or heads₂ 0 0 < length words₂
      park_room =
          omega (
            arith,
            ap (λ (hs : List ℕ). get_or hs 0 0) ends,
            park_place b,
            park_inside a.wave b a.fair,
            a.room,
            laid_size b 0 heads₁ words₁ w.wrote,
            size₁,
          )

      pub lay_done : {heads₃ words₃ : List ℕ} → sheet heads₃ words₃ ≡ parked (sheet heads₂ words₂) → words₃ ≡ (laid_in b words).words
      lay_done p =
          ap (λ (s : Sheet). s.words) p
          ∙ ap (λ (s : Sheet). (parked s).words) w.wrote
          ∙ ap (λ (s : Sheet). (parked (laid b 0 s)).words) o
          ∙ ap (λ (hs : List ℕ). (parked (laid b 0 (put 0 (high Sync ∷ []) (sheet hs words)))).words) a.places

-- ---- what is told

fit_room : (room size : ℕ) → (number_in (fitted room size)) ≡ 0 → size ≤ room
unfolding fitted room_refused
fit_room room size e = by (ltb word_limit size) (ltb room size) refl e
  where
    by : (s t : Bool) → ltb room size ≡ t
        → (number_in (pick (eqb (s gives 54 else t gives 55 else 0) 0) (accepted size) (refused_at (s gives 54 else t gives 55 else 0) 0))) ≡ 0 → size ≤ room
    by true t p z = absurd (omega (arith, z))
    by false true p z = absurd (omega (arith, z))
    by false false p z = ltb-false room size p

fit_refused : (room size : ℕ) {e : Refused} → Err e ≡ fitted room size → e.number ≡ 0 → ⊥
unfolding fitted room_refused
fit_refused room size {e = e} f z = by (ltb word_limit size) (ltb room size) f
  where
    by : (s t : Bool) → Err e ≡ pick (eqb (s gives 54 else t gives 55 else 0) 0) (accepted size) (refused_at (s gives 54 else t gives 55 else 0) 0) → ⊥
    by true t g = omega (arith, z, ap number_in g)
    by false true g = omega (arith, z, ap number_in g)
    by false false g = cc

-- the words that SYNC and the park bring
abbrev blank : List ℕ
blank = 2 ∷ replicate nest_limit 0

number_of : {r s : Told} → r ≡ s → number_in r ≡ number_in s
number_of e = ap number_in e

module _ (wave : ℕ) (text before : List ℕ) where
  abbrev all : List ℕ
  all = words_of (block_of text) ++ drop (size_of (block_of text)) before

  -- a refusal leaves the words untouched
  untouched : (number : ℕ) → (number ≡ 0 → ⊥) → before ≡ pick (eqb number 0) all before
  untouched number n = rw (ne_eqb number 0 n)

  pub block_3 : wave_limit < wave → {r : Told} → r ≡ refused_at 3 0 → Translates wave text before before r
  unfolding translation
  block_3 h {r = r} e =
      record {
        answer = e ∙ rw (lt-ltb wave_limit wave h);
        words = untouched (number_in r) (λ z. omega (arith, z, number_of e));
      }

  module _ (h : wave ≤ wave_limit) {told : Told} {sizes : List ℕ} (j : Judges wave text blank sizes told) where
    bad : ((number_in told) ≡ 0 → ⊥) → Translates wave text before before told
    unfolding translation
    bad n =
        record {
          answer = j.answer ∙ rw (le-ltb wave_limit wave h, ne_eqb (number_in (judged wave 1 0 (lines_in text))) 0 (λ z. n (number_of j.answer ∙ z)));
          words = untouched (number_in told) n;
        }

    module _ (z : number_in told ≡ 0) where
      good : (number_in (judged wave 1 0 (lines_in text))) ≡ 0
      good = sym (number_of j.answer) ∙ z

      fair : Fair wave 0 (block_of text)
      fair = judged_fair wave text good

      sizes_are : sizes ≡ sizes_of (block_of text)
      sizes_are = j.sizes z ∙ judged_counts wave text blank good

      pub stack_asks : length text < 2 ^ 63 → (length sizes ≡ suc nest_limit) × (sum_of sizes < 2 ^ 64)
      stack_asks l = (ap length sizes_are ∙ sizes_length (block_of text), omega (arith, j.few z, l))

      module _ {heads : List ℕ} {size : ℕ} (s : (heads ≡ starts_from 0 sizes) × (size ≡ sum_of sizes)) {r : Told} (f : r ≡ fitted (length before) size) where
        size_is : size ≡ size_of (block_of text)
        size_is = s.1 ∙ ap sum_of sizes_are ∙ sizes_sum wave (block_of text) fair

        fits : r ≡ fitted (length before) (size_of (block_of text))
        fits = f ∙ ap (fitted (length before)) size_is

        told_is : r ≡ translation wave (length before) text
        unfolding translation
        told_is = fits ∙ rw (le-ltb wave_limit wave h, eq-eqb (number_in (judged wave 1 0 (lines_in text))) 0 good)

        full : ((number_in r) ≡ 0 → ⊥) → Translates wave text before before r
        full n = record { answer = told_is; words = untouched (number_in r) n }

        module _ (y : (number_in r) ≡ 0) where
          room : size_of (block_of text) ≤ length before
          room = fit_room (length before) (size_of (block_of text)) (sym (number_of fits) ∙ y)

          pub lay_can : CanStart text heads before
          lay_can = record { wave = wave; shaped = judged_shaped wave text good; fair = fair; places = s.0 ∙ ap (starts_from 0) sizes_are; room = room }

          pub block_done : {after : List ℕ} → after ≡ (laid_in (block_of text) before).words → Translates wave text before after r
          block_done e =
              record {
                answer = told_is;
                words = e ∙ whole_in wave (block_of text) fair before room ∙ rw (eq-eqb (number_in r) 0 y);
              }

  module _ (h : wave ≤ wave_limit) {sizes : List ℕ} where
    -- the first bad line
    pub block_bad : {e : Refused} → Judges wave text blank sizes (Err e) → Translates wave text before before (Err e)
    block_bad {e = e} j = bad h j (judged_refused wave 1 0 (lines_in text) j.answer)

    -- or no room
    pub block_full : {told : Told} → Judges wave text blank sizes told → number_in told ≡ 0 → {heads : List ℕ} {size : ℕ} → (heads ≡ starts_from 0 sizes) × (size ≡ sum_of sizes)
        → {e : Refused} → Err e ≡ fitted (length before) size → Translates wave text before before (Err e)
    block_full j z {size = size} s f = full h j z s f (fit_refused (length before) size f)

-- ---- what an accepted text has

-- nothing in it is refused, it has no more words than there may be, and there is room for them
pub record Accepted (w room : ℕ) (text : List ℕ) : Type 0 where
  pub wave : w ≤ wave_limit
  pub fair : Fair w 0 (block_of text)
  pub words : size_of (block_of text) ≤ word_limit
  pub fits : size_of (block_of text) ≤ room
  pub told : translation w room text ≡ accepted (size_of (block_of text))

fit_words : (room size : ℕ) → (number_in (fitted room size)) ≡ 0 → (size ≤ word_limit) × (fitted room size ≡ accepted size)
unfolding fitted room_refused
fit_words room size e = by (ltb word_limit size) refl (ltb room size) e
  where
    by : (s : Bool) → ltb word_limit size ≡ s → (t : Bool)
        → (number_in (pick (eqb (s gives 54 else t gives 55 else 0) 0) (accepted size) (refused_at (s gives 54 else t gives 55 else 0) 0))) ≡ 0
        → (size ≤ word_limit) × (pick (eqb (s gives 54 else t gives 55 else 0) 0) (accepted size) (refused_at (s gives 54 else t gives 55 else 0) 0) ≡ accepted size)
    by true p t z = absurd (omega (arith, z))
    by false p true z = absurd (omega (arith, z))
    by false p false z = (ltb-false word_limit size p, refl)

pub accepted_is : (wave room : ℕ) (text : List ℕ) → (number_in (translation wave room text)) ≡ 0 → Accepted wave room text
unfolding translation
accepted_is wave room text e = by (ltb wave_limit wave) refl (eqb (number_in (judged wave 1 0 (lines_in text))) 0) refl e
  where
    by : (s : Bool) → ltb wave_limit wave ≡ s → (t : Bool) → eqb (number_in (judged wave 1 0 (lines_in text))) 0 ≡ t
        → (number_in (pick s (refused_at 3 0) (pick t (fitted room (size_of (block_of text))) (judged wave 1 0 (lines_in text))))) ≡ 0 → Accepted wave room text
    by true p t q z = absurd (omega (arith, z))
    by false p false q z = absurd (eqb-false (number_in (judged wave 1 0 (lines_in text))) 0 q z)
    by false p true q z =
        record {
          wave = ltb-false wave_limit wave p;
          fair = judged_fair wave text (eqb-true (number_in (judged wave 1 0 (lines_in text))) 0 q);
          words = (fit_words room (size_of (block_of text)) z).0;
          fits = fit_room room (size_of (block_of text)) z;
          told = rw (p, q) (fit_words room (size_of (block_of text)) z).1;
        }
