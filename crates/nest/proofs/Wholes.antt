-- The whole sequence of a fair block: SYNC, the block, the park, and nothing else; and that it is the same in every buffer.
-- Assumes nothing.
use Prim.Native.Nat.{ℕ, zero, suc, ◌+◌, ◌-◌, ◌≤◌, ◌<◌}
use mathlib.Core.Path.{◌≡◌, sym, ap, ◌∙◌}
use mathlib.Core.Logic.{◌⊎◌, inl, inr, ⊎_elim}
use mathlib.Core.List.{List, [], ◌∷◌, ◌++◌}
use native.Mathlib.Decide.{ℕ_discrete, dec_lt}
use native.Mathlib.Omega.{arith}
use lib.ListN.{length, get_or, drop, replicate, length-append, length-drop, length-replicate, get_or-replicate, get_or-eq_default, get_or-append}
use lib.Seq.{ext_get_or, get_or-append-add, get_or-drop}
use Rattle.instruction.specs.Word.{word_of}
use Rattle.instruction.specs.declared.Body.TheVariants.{Goto, Sync}
use Rattle.nest.specs.Block.{Block, nest_limit, high, low}
use Rattle.nest.specs.Fair.{Fair}
use Rattle.nest.specs.Layout.{size_of, park_of, raised, passed, sizes_of, starts_from, Sheet, sheet, head_of, put, laid, laid_in, words_of}
use Rattle.nest.proofs.Heads.{raised_length, raised_same, raised_other, passed_length, passed_own}
use Rattle.nest.proofs.Stands.{At, Stands, Among, Whole}
use Rattle.nest.proofs.Sums.{passed_alike, sizes_length, sizes_sum, starts_length, starts_first, starts_ordered, starts_room, starts_cover}
use Rattle.nest.proofs.Laid.{Grew, grew_refl, grew_trans, Full, put_grew, laid_grew, laid_heads, Clear, clear_later, put_stands, laid_stands, at_one, stands_one}

-- ---- where the levels are

-- where each level begins
abbrev pub starts_of : Block → List ℕ
starts_of b = starts_from 0 (sizes_of b)

-- the next places behind SYNC
abbrev pub heads_of : Block → List ℕ
heads_of b = raised (starts_of b) 0 1

pub starts_levels : (b : Block) → length (starts_of b) ≡ suc nest_limit
starts_levels b = starts_length 0 (sizes_of b) ∙ sizes_length b

pub heads_levels : (b : Block) → length (heads_of b) ≡ suc nest_limit
heads_levels b = raised_length (starts_of b) 0 1 ∙ starts_levels b

starts_zero : (b : Block) → get_or (starts_of b) 0 0 ≡ 0
starts_zero b = starts_first 0 (sizes_of b) (omega (arith, sizes_length b))

pub heads_first : (b : Block) → get_or (heads_of b) 0 0 ≡ 1
heads_first b = omega (arith, raised_same (starts_of b) 0 1 (omega (arith, starts_levels b)), starts_zero b)

pub park_place : (b : Block) → get_or (passed b 0 (heads_of b)) 0 0 ≡ park_of b
park_place b = omega (arith, passed_own b 0 (heads_of b) (omega (arith, heads_levels b)), heads_first b)

-- the first level ends with the park
sizes_first : (b : Block) → get_or (sizes_of b) 0 0 ≡ suc (park_of b)
sizes_first b = omega (arith, passed_own b 0 (2 ∷ replicate nest_limit 0) (omega arith))

-- a level of bodies begins where it starts
heads_inner : (b : Block) (j : ℕ) → get_or (heads_of b) (suc j) 0 ≡ get_or (starts_of b) (suc j) 0
heads_inner b j = raised_other (starts_of b) 0 (suc j) 1 (λ e. omega arith)

-- and the block fills it
ends_inner : (b : Block) (j : ℕ) → j < nest_limit → get_or (passed b 0 (heads_of b)) (suc j) 0 ≡ get_or (starts_of b) (suc j) 0 + get_or (sizes_of b) (suc j) 0
ends_inner b j h =
    omega (
      arith,
      passed_alike b 0 (heads_of b) (2 ∷ replicate nest_limit 0) (heads_levels b) (suc j),
      heads_inner b j,
      get_or-replicate {A = ℕ} nest_limit j 0 0 h,
    )

-- ---- a sequence in a buffer

abbrev blank : Block → List ℕ → Sheet
blank b buffer = sheet (starts_of b) buffer

abbrev begun : Block → List ℕ → Sheet
begun b buffer = put 0 (high Sync ∷ []) (blank b buffer)

abbrev written : Block → List ℕ → Sheet
written b buffer = laid b 0 (begun b buffer)

written_head : (b : Block) (buffer : List ℕ) (j : ℕ) → head_of j (written b buffer) ≡ get_or (passed b 0 (heads_of b)) j 0
written_head b buffer j = ap (λ (hs : List ℕ). get_or hs j 0) (laid_heads b 0 (begun b buffer))

module _ (wave : ℕ) (b : Block) (fair : Fair wave 0 b) where
  level_room : (j : ℕ) → j ≤ nest_limit → get_or (starts_of b) j 0 + get_or (sizes_of b) j 0 ≤ size_of b
  level_room j h = omega (arith, starts_room 0 (sizes_of b) j (omega (arith, sizes_length b)), sizes_sum wave b fair)

  pub park_inside : park_of b < size_of b
  park_inside = omega (arith, level_room 0 (omega arith), sizes_first b, starts_zero b)

  -- no level ends behind the last word
  pub laid_room : (j : ℕ) → get_or (passed b 0 (heads_of b)) j 0 ≤ size_of b
  laid_room j = by j (dec_lt j (suc nest_limit))
    where
      by : (j : ℕ) → Dec (j < suc nest_limit) → get_or (passed b 0 (heads_of b)) j 0 ≤ size_of b
      by zero d = omega (arith, park_place b, park_inside)
      by (suc j) (yes d) = omega (arith, ends_inner b j (omega arith), level_room (suc j) (omega arith))
      by (suc j) (no d) = omega (arith, get_or-eq_default (passed b 0 (heads_of b)) 0 {n = suc j} (omega (arith, passed_length b 0 (heads_of b), heads_levels b)))

  module _ (buffer : List ℕ) where
    begun_grew : Grew (blank b buffer) (begun b buffer)
    begun_grew = put_grew 0 (high Sync ∷ []) (blank b buffer) (starts_levels b) (omega arith)

    written_grew : Grew (begun b buffer) (written b buffer)
    written_grew = laid_grew wave b 0 (begun b buffer) fair (heads_levels b) (omega arith)

    written_full : Full (written b buffer)
    written_full = written_grew.levels ∙ heads_levels b

    parked_grew : Grew (written b buffer) (laid_in b buffer)
    parked_grew = put_grew 0 (low (Goto (record { 0 = head_of 0 (written b buffer) })) ∷ []) (written b buffer) written_full (omega arith)

    whole_grew : Grew (blank b buffer) (laid_in b buffer)
    whole_grew = grew_trans begun_grew (grew_trans written_grew parked_grew)

    -- every level is filled
    whole_head : (j : ℕ) → j ≤ nest_limit → head_of j (laid_in b buffer) ≡ get_or (starts_of b) j 0 + get_or (sizes_of b) j 0
    whole_head zero h =
        omega (
          arith,
          raised_same (written b buffer).heads 0 1 (omega (arith, written_full)),
          written_head b buffer 0,
          park_place b,
          sizes_first b,
          starts_zero b,
        )
    whole_head (suc j) h =
        omega (
          arith,
          raised_other (written b buffer).heads 0 (suc j) 1 (λ e. omega arith),
          written_head b buffer (suc j),
          ends_inner b j (omega arith),
        )

    -- behind the sequence the buffer is as it was
    whole_outside : (x : ℕ) → size_of b ≤ x → get_or (laid_in b buffer).words x 0 ≡ get_or buffer x 0
    whole_outside x h = whole_grew.outside x (λ j i. inr (omega (arith, whole_head j i, level_room j i)))

    module _ (room : size_of b ≤ length buffer) where
      whole_clear : Clear (blank b buffer) (laid_in b buffer)
      whole_clear =
          record {
            apart = λ j k i h. omega (arith, whole_head j (omega arith), starts_ordered 0 (sizes_of b) j k i (omega (arith, sizes_length b)));
            room = λ j h. omega (arith, whole_head j h, level_room j h, whole_grew.size);
          }

      whole_sync : At (laid_in b buffer).words 0 (high Sync)
      whole_sync =
          put_stands 0 (high Sync ∷ []) (blank b buffer) (laid_in b buffer) (starts_levels b) (omega arith) (grew_trans written_grew parked_grew) whole_clear
          0 0 (omega (arith, starts_zero b)) (omega arith)

      whole_stands : Stands (laid_in b buffer).words b 0 (heads_of b)
      whole_stands =
          laid_stands wave b 0 (begun b buffer) (laid_in b buffer) fair (heads_levels b) (omega arith) parked_grew (clear_later begun_grew whole_clear)

      whole_park : At (laid_in b buffer).words (park_of b) (low (Goto (record { 0 = park_of b })))
      whole_park =
          let here : head_of 0 (written b buffer) ≡ park_of b = written_head b buffer 0 ∙ park_place b in
          let goto = low (Goto (record { 0 = head_of 0 (written b buffer) })) in
          let later = clear_later (grew_trans begun_grew written_grew) whole_clear in
          let stands = put_stands 0 (goto ∷ []) (written b buffer) (laid_in b buffer) written_full (omega arith) (grew_refl (laid_in b buffer)) later in
          let at = stands 0 (park_of b) (omega arith) (omega arith) in
          (at.0, at.1 ∙ ap (λ (k : ℕ). word_of (low (Goto (record { 0 = k })))) here)

  -- every word is SYNC, the park or the block's
  whole_covers : (a : ℕ) → a < size_of b → (a ≡ 0) ⊎ ((a ≡ park_of b) ⊎ Among (heads_of b) (passed b 0 (heads_of b)) a)
  whole_covers a h =
      let w = starts_cover 0 (sizes_of b) a (omega arith) (omega (arith, sizes_sum wave b fair)) in
      by w.0 (omega (arith, w.1, sizes_length b)) w.2 w.3 (ℕ_discrete a 0) (ℕ_discrete a (park_of b))
    where
      by : (j : ℕ) → j ≤ nest_limit → get_or (starts_of b) j 0 ≤ a → a < get_or (starts_of b) j 0 + get_or (sizes_of b) j 0 → Dec (a ≡ 0) → Dec (a ≡ park_of b)
          → (a ≡ 0) ⊎ ((a ≡ park_of b) ⊎ Among (heads_of b) (passed b 0 (heads_of b)) a)
      by zero i from to (yes e) f = inl e
      by zero i from to (no e) (yes f) = inr (inl f)
      by zero i from to (no e) (no f) =
          inr (inr (0, omega (arith, heads_first b), omega (arith, park_place b, sizes_first b, starts_zero b)))
      by (suc j) i from to e f = inr (inr (suc j, omega (arith, heads_inner b j), omega (arith, ends_inner b j (omega arith))))

  -- two buffers that have room get the same words
  whole_one : (u v : List ℕ) → size_of b ≤ length u → size_of b ≤ length v → (x : ℕ) → x < size_of b
      → get_or (laid_in b u).words x 0 ≡ get_or (laid_in b v).words x 0
  whole_one u v h k x i =
      let ws = (laid_in b u).words in
      let ys = (laid_in b v).words in
      ⊎_elim
      (λ e. at_one ws ys 0 (whole_sync u h).1 (whole_sync v k).1 x e)
      (⊎_elim
      (λ e. at_one ws ys (park_of b) (whole_park u h).1 (whole_park v k).1 x e)
      (λ m. stands_one ws ys b 0 (heads_of b) (whole_stands u h) (whole_stands v k) x m))
      (whole_covers x i)

  -- ---- the words

  fits : size_of b ≤ length {A = ℕ} (replicate (size_of b) 0)
  fits = omega (arith, length-replicate {A = ℕ} (size_of b) 0)

  pub words_length : length (words_of b) ≡ size_of b
  unfolding words_of
  words_length = (whole_grew (replicate (size_of b) 0)).size ∙ length-replicate (size_of b) 0

  pub whole : Whole (words_of b) b
  unfolding words_of
  whole =
      let blanks : List ℕ = replicate (size_of b) 0 in
      record {
        size = words_length;
        sync = whole_sync blanks fits;
        heads = heads_of b;
        levels = heads_levels b;
        first = heads_first b;
        stands = whole_stands blanks fits;
        park = whole_park blanks fits;
        covers = whole_covers;
      }

  -- a buffer gets the words at its front
  pub whole_in : (buffer : List ℕ) → size_of b ≤ length buffer → (laid_in b buffer).words ≡ words_of b ++ drop (size_of b) buffer
  unfolding words_of
  whole_in buffer room =
      let ws = words_of b in
      let rest = drop (size_of b) buffer in
      ext_get_or 0 (laid_in b buffer).words (ws ++ rest)
      (omega (arith, (whole_grew buffer).size, length-append ws rest, words_length, length-drop (size_of b) buffer))
      (λ x h. by x (dec_lt x (size_of b)))
    where
      by : (x : ℕ) → Dec (x < size_of b) → get_or (laid_in b buffer).words x 0 ≡ get_or (words_of b ++ drop (size_of b) buffer) x 0
      by x (yes h) =
          whole_one buffer (replicate (size_of b) 0) room fits x h
          ∙ sym (get_or-append (words_of b) (drop (size_of b) buffer) 0 x (omega (arith, words_length)))
      by x (no h) =
          let k = x - size_of b in
          let e : size_of b + k ≡ x = omega arith in
          let f : x ≡ length (words_of b) + k = omega (arith, words_length) in
          whole_outside buffer x (omega arith)
          ∙ ap (λ (y : ℕ). get_or buffer y 0) (sym e)
          ∙ sym (get_or-drop (size_of b) buffer k 0)
          ∙ sym (get_or-append-add (words_of b) (drop (size_of b) buffer) k 0)
          ∙ ap (λ (y : ℕ). get_or (words_of b ++ drop (size_of b) buffer) y 0) (sym f)
