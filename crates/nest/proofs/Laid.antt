-- Laws of laying: what a block leaves alone, and that its words stand in every later sheet whose levels keep apart.
-- Assumes nothing.
use Prim.Native.Nat.{ℕ, zero, suc, ◌+◌, ◌≤◌, ◌<◌}
use mathlib.Core.Path.{◌≡◌, refl, sym, ap, subst, ◌∙◌}
use mathlib.Core.Logic.{◌⊎◌, inl, inr, ⊎_elim}
use mathlib.Core.List.{List, [], ◌∷◌, map}
use native.Mathlib.Decide.{ℕ_discrete, dec_lt}
use native.Mathlib.Omega.{arith}
use lib.ListN.{length, get_or, set, length-set, length-map}
use lib.Seq.{sets, length-sets, get_or-set_same, get_or-set_other}
use Rattle.instruction.specs.Word.{word_of}
use Rattle.instruction.specs.declared.Instruction.{Instruction}
use Rattle.instruction.specs.declared.Body.TheVariants.{Waveform, Return}
use Rattle.nest.specs.Block.{Block, done, pulse, repeat, nest_limit, high, low}
use Rattle.nest.specs.Fair.{Fair}
use Rattle.nest.specs.Layout.{raised, passed, Sheet, head_of, put, opening, closing, laid}
use Rattle.nest.proofs.Heads.{raised_length, raised_same, raised_other, raised_up}
use Rattle.nest.proofs.Stands.{At, Stands, Among}

-- ---- words from a place on

-- another place keeps its word
pub sets_outside : (l vs : List ℕ) (i x : ℕ) → (x < i) ⊎ (i + length vs ≤ x) → get_or (sets l i vs) x 0 ≡ get_or l x 0
sets_outside l [] i x h = refl
sets_outside l (v ∷ vs) i x h =
    sets_outside (set l i v) vs (suc i) x (⊎_elim (λ a. inl (omega arith)) (λ a. inr (omega arith)) h)
    ∙ get_or-set_other l i x v 0 (λ e. ⊎_elim (λ a. omega arith) (λ a. omega arith) h)

-- each of the places has its word
pub sets_inside : (l vs : List ℕ) (i k x : ℕ) → x ≡ i + k → k < length vs → x < length l → get_or (sets l i vs) x 0 ≡ get_or vs k 0
sets_inside l [] i k x e h r = absurd (omega arith)
sets_inside l (v ∷ vs) i zero x e h r =
    let here : x ≡ i = omega arith in
    sets_outside (set l i v) vs (suc i) x (inl (omega arith))
    ∙ ap (λ (y : ℕ). get_or (set l i v) y 0) here
    ∙ get_or-set_same l i v 0 (omega arith)
sets_inside l (v ∷ vs) i (suc k) x e h r = sets_inside (set l i v) vs (suc i) k x (omega arith) (omega arith) (omega (arith, length-set l i v))

-- ---- what laying leaves alone

-- a sheet and a later one: the levels only rise, and a word that is in none of what they rose by is as it was
pub record Grew (s t : Sheet) : Type 0 where
  pub levels : length t.heads ≡ length s.heads
  pub size : length t.words ≡ length s.words
  pub up : (j : ℕ) → head_of j s ≤ head_of j t
  pub outside : (x : ℕ) → ((j : ℕ) → j ≤ nest_limit → (x < head_of j s) ⊎ (head_of j t ≤ x)) → get_or t.words x 0 ≡ get_or s.words x 0

pub grew_refl : (s : Sheet) → Grew s s
grew_refl s = record { levels = refl; size = refl; up = λ j. omega arith; outside = λ x h. refl }

pub grew_trans : {s t u : Sheet} → Grew s t → Grew t u → Grew s u
grew_trans {s} {t} {u} g h =
    record {
      levels = h.levels ∙ g.levels;
      size = h.size ∙ g.size;
      up = λ j. omega (arith, g.up j, h.up j);
      outside = λ x free.
          h.outside x (λ j i. ⊎_elim (λ a. inl (omega (arith, a, g.up j))) (λ a. inr a) (free j i))
          ∙ g.outside x (λ j i. ⊎_elim (λ a. inl a) (λ a. inr (omega (arith, a, h.up j))) (free j i));
    }

-- a sheet that has every level
abbrev pub Full : Sheet → Type 0
Full s = length s.heads ≡ suc nest_limit

pub put_grew : (level : ℕ) (is : List Instruction) (s : Sheet) → Full s → level ≤ nest_limit → Grew s (put level is s)
put_grew level is s full h =
    let same = raised_same s.heads level (length is) (omega arith) in
    record {
      levels = raised_length s.heads level (length is);
      size = length-sets s.words (head_of level s) (map word_of is);
      up = λ j. raised_up s.heads level j (length is);
      outside = λ x free.
          sets_outside s.words (map word_of is) (head_of level s) x
          (⊎_elim (λ a. inl a) (λ a. inr (omega (arith, a, same, length-map is word_of))) (free level h));
    }

-- what a repeat goes through: its opening, its body, the RETURN
abbrev opened : ℕ → ℕ → Sheet → Sheet
opened n level s = put level (opening n (head_of level s) (head_of (suc level) s)) s

abbrev bodied : ℕ → Block → ℕ → Sheet → Sheet
bodied n c level s = laid c (suc level) (opened n level s)

abbrev closed : ℕ → Block → ℕ → Sheet → Sheet
closed n c level s = put (suc level) closing (bodied n c level s)

pub laid_grew : (wave : ℕ) (b : Block) (level : ℕ) (s : Sheet) → Fair wave level b → Full s → level ≤ nest_limit → Grew s (laid b level s)
laid_grew wave done level s fair full h = grew_refl s
laid_grew wave (pulse f b) level s fair full h =
    let first = put_grew level (high (Waveform f) ∷ []) s full h in
    grew_trans first (laid_grew wave b level (put level (high (Waveform f) ∷ []) s) fair.2 (first.levels ∙ full) h)
laid_grew wave (repeat n c b) level s fair full h =
    let g₁ = put_grew level (opening n (head_of level s) (head_of (suc level) s)) s full h in
    let g₂ = grew_trans g₁ (laid_grew wave c (suc level) (opened n level s) fair.3 (g₁.levels ∙ full) fair.2) in
    let g₃ = grew_trans g₂ (put_grew (suc level) closing (bodied n c level s) (g₂.levels ∙ full) fair.2) in
    grew_trans g₃ (laid_grew wave b level (closed n c level s) fair.4 (g₃.levels ∙ full) h)

-- the levels are where counting says
pub laid_heads : (b : Block) (level : ℕ) (s : Sheet) → (laid b level s).heads ≡ passed b level s.heads
laid_heads done level s = refl
laid_heads (pulse f b) level s = laid_heads b level (put level (high (Waveform f) ∷ []) s)
laid_heads (repeat n c b) level s =
    laid_heads b level (closed n c level s)
    ∙ ap (λ (hs : List ℕ). passed b level (raised hs (suc level) 1)) (laid_heads c (suc level) (opened n level s))

pub laid_length : (b : Block) (level : ℕ) (s : Sheet) → length (laid b level s).words ≡ length s.words
laid_length done level s = refl
laid_length (pulse f b) level s =
    laid_length b level (put level (high (Waveform f) ∷ []) s)
    ∙ length-sets s.words (head_of level s) (map word_of (high (Waveform f) ∷ []))
laid_length (repeat n c b) level s =
    laid_length b level (closed n c level s)
    ∙ length-sets (bodied n c level s).words (head_of (suc level) (bodied n c level s)) (map word_of closing)
    ∙ laid_length c (suc level) (opened n level s)
    ∙ length-sets s.words (head_of level s) (map word_of (opening n (head_of level s) (head_of (suc level) s)))

-- ---- what stands

-- from a sheet to a later one no level runs into the next, nor the last out of the words
pub record Clear (s t : Sheet) : Type 0 where
  pub apart : (j k : ℕ) → j < k → k ≤ nest_limit → head_of j t ≤ head_of k s
  pub room : (j : ℕ) → j ≤ nest_limit → head_of j t ≤ length t.words

pub clear_later : {s t u : Sheet} → Grew s t → Clear s u → Clear t u
clear_later {s} {t} {u} g clear = record { apart = λ j k i h. omega (arith, clear.apart j k i h, g.up k); room = clear.room }

-- what was put on a sheet is on the later one
pub put_stands : (level : ℕ) (is : List Instruction) (s u : Sheet) → Full s → level ≤ nest_limit → Grew (put level is s) u → Clear s u
    → (k x : ℕ) → x ≡ head_of level s + k → k < length is → (x < length u.words) × (get_or u.words x 0 ≡ get_or (map word_of is) k 0)
put_stands level is s u full h g clear k x e i =
    let taken : x < head_of level (put level is s) = omega (arith, raised_same s.heads level (length is) (omega arith)) in
    let inside : x < length u.words = omega (arith, taken, g.up level, clear.room level h) in (
      inside,
      g.outside x (λ j m. free j m (ℕ_discrete j level) (dec_lt j level) taken)
          ∙ sets_inside s.words (map word_of is) (head_of level s) k x e (omega (arith, length-map is word_of))
          (omega (arith, inside, g.size, length-sets s.words (head_of level s) (map word_of is))),
    )
  where
    free : (j : ℕ) → j ≤ nest_limit → Dec (j ≡ level) → Dec (j < level) → x < head_of level (put level is s)
        → (x < head_of j (put level is s)) ⊎ (head_of j u ≤ x)
    free j m (yes t) d taken = inl (subst (λ (z : ℕ). x < head_of z (put level is s)) (sym t) taken)
    free j m (no t) (yes d) taken = inr (omega (arith, clear.apart j level d h))
    free j m (no t) (no d) taken =
        inl (omega (arith, taken, g.up level, clear.apart level j (omega arith) m, raised_other s.heads level j (length is) t))

-- a block stands in every later sheet
pub laid_stands : (wave : ℕ) (b : Block) (level : ℕ) (s u : Sheet) → Fair wave level b → Full s → level ≤ nest_limit
    → Grew (laid b level s) u → Clear s u → Stands u.words b level s.heads
laid_stands wave done level s u fair full h g clear = tt
laid_stands wave (pulse f b) level s u fair full h g clear =
    let is = high (Waveform f) ∷ [] in
    let g₁ = put_grew level is s full h in
    let full₁ : Full (put level is s) = g₁.levels ∙ full in
    let rest = grew_trans (laid_grew wave b level (put level is s) fair.2 full₁ h) g in (
      put_stands level is s u full h rest clear 0 (head_of level s) (omega arith) (omega arith),
      laid_stands wave b level (put level is s) u fair.2 full₁ h g (clear_later g₁ clear),
    )
laid_stands wave (repeat n c b) level s u fair full h g clear =
    let is = opening n (head_of level s) (head_of (suc level) s) in
    let s₁ = opened n level s in
    let s₂ = bodied n c level s in
    let s₃ = closed n c level s in
    let deep : suc level ≤ nest_limit = fair.2 in
    let g₁ = put_grew level is s full h in
    let full₁ : Full s₁ = g₁.levels ∙ full in
    let g₂ = laid_grew wave c (suc level) s₁ fair.3 full₁ deep in
    let full₂ : Full s₂ = g₂.levels ∙ full₁ in
    let g₃ = put_grew (suc level) closing s₂ full₂ deep in
    let full₃ : Full s₃ = g₃.levels ∙ full₂ in
    let rest₃ = grew_trans (laid_grew wave b level s₃ fair.4 full₃ h) g in
    let rest₂ = grew_trans g₃ rest₃ in
    let rest₁ = grew_trans g₂ rest₂ in
    let clear₁ = clear_later g₁ clear in
    let clear₂ = clear_later g₂ clear₁ in
    let opens = put_stands level is s u full h rest₁ clear in
    let heads = laid_heads c (suc level) s₁ in (
      opens 0 (head_of level s) (omega arith) (omega arith),
      opens 1 (suc (head_of level s)) (omega arith) (omega arith),
      opens 2 (suc (suc (head_of level s))) (omega arith) (omega arith),
      laid_stands wave c (suc level) s₁ u fair.3 full₁ deep rest₂ clear₁,
      subst (λ (hs : List ℕ). At u.words (get_or hs (suc level) 0) (low (Return (record { 0 = 0 })))) heads
          (put_stands (suc level) closing s₂ u full₂ deep rest₃ clear₂ 0 (head_of (suc level) s₂) (omega arith) (omega arith)),
      subst (λ (hs : List ℕ). Stands u.words b level (raised hs (suc level) 1)) heads
          (laid_stands wave b level s₃ u fair.4 full₃ h g (clear_later g₃ clear₂)),
    )

-- ---- what stands is one

-- a place that the levels take in two steps, they take in one of them
pub among_either : (hs ms es : List ℕ) (x : ℕ) {P : Type 0} → (Among hs ms x → P) → (Among ms es x → P) → Among hs es x → P
among_either hs ms es x {P} f g m = by (dec_lt x (get_or ms m.0 0))
  where
    by : Dec (x < get_or ms m.0 0) → P
    by (yes t) = f (m.0, m.1, t)
    by (no t) = g (m.0, omega arith, m.2)

-- a place that is taken as one level rises is of that level
pub among_raised : (l : List ℕ) (i k x : ℕ) → Among l (raised l i k) x → (get_or l i 0 ≤ x) × (x < get_or l i 0 + k)
among_raised [] i k x (j, h, t) = absurd (omega arith)
among_raised (y ∷ l) zero k x (zero, h, t) = (h, t)
among_raised (y ∷ l) zero k x (suc j, h, t) = absurd (omega arith)
among_raised (y ∷ l) (suc i) k x (zero, h, t) = absurd (omega arith)
among_raised (y ∷ l) (suc i) k x (suc j, h, t) = among_raised l i k x (j, h, t)

-- two lists in which the same word stands agree on its place
pub at_one : (u v : List ℕ) (p : ℕ) {w : ℕ} → get_or u p 0 ≡ w → get_or v p 0 ≡ w → (x : ℕ) → x ≡ p → get_or u x 0 ≡ get_or v x 0
at_one u v p a c x e = ap (λ (y : ℕ). get_or u y 0) e ∙ a ∙ sym c ∙ ap (λ (y : ℕ). get_or v y 0) (sym e)

-- two lists in which the same block stands agree on its places
pub stands_one : (u v : List ℕ) (b : Block) (level : ℕ) (hs : List ℕ) → Stands u b level hs → Stands v b level hs
    → (x : ℕ) → Among hs (passed b level hs) x → get_or u x 0 ≡ get_or v x 0
stands_one u v done level hs a c x m = absurd (omega (arith, m.1, m.2))
stands_one u v (pulse f b) level hs a c x m =
    let hs₁ = raised hs level 1 in
    among_either hs hs₁ (passed b level hs₁) x
    (λ t. at_one u v (get_or hs level 0) a.0.1 c.0.1 x (omega (arith, (among_raised hs level 1 x t).0, (among_raised hs level 1 x t).1)))
    (λ t. stands_one u v b level hs₁ a.1 c.1 x t)
    m
stands_one u v (repeat n c b) level hs a d x m =
    let hs₁ = raised hs level 3 in
    let hs₂ = passed c (suc level) hs₁ in
    let hs₃ = raised hs₂ (suc level) 1 in
    let hs₄ = passed b level hs₃ in
    among_either hs hs₁ hs₄ x
    (λ t. opening_one (ℕ_discrete x (get_or hs level 0)) (ℕ_discrete x (suc (get_or hs level 0))) (among_raised hs level 3 x t))
    (among_either hs₁ hs₂ hs₄ x
    (λ t. stands_one u v c (suc level) hs₁ a.3 d.3 x t)
    (among_either hs₂ hs₃ hs₄ x
    (λ t. closing_one (among_raised hs₂ (suc level) 1 x t))
    (λ t. stands_one u v b level hs₃ a.5 d.5 x t)))
    m
  where
    opening_one : Dec (x ≡ get_or hs level 0) → Dec (x ≡ suc (get_or hs level 0)) → (get_or hs level 0 ≤ x) × (x < get_or hs level 0 + 3) → get_or u x 0 ≡ get_or v x 0
    opening_one (yes e) f r = at_one u v (get_or hs level 0) a.0.1 d.0.1 x e
    opening_one (no e) (yes f) r = at_one u v (suc (get_or hs level 0)) a.1.1 d.1.1 x f
    opening_one (no e) (no f) r = at_one u v (suc (suc (get_or hs level 0))) a.2.1 d.2.1 x (omega (arith, r.0, r.1))

    end : ℕ
    end = get_or (passed c (suc level) (raised hs level 3)) (suc level) 0

    closing_one : (end ≤ x) × (x < end + 1) → get_or u x 0 ≡ get_or v x 0
    closing_one r = at_one u v end a.4.1 d.4.1 x (omega (arith, r.0, r.1))
