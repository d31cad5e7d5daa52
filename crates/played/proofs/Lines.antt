-- A block's line over plain addresses, each of its words read: what run and walk need to know of a layout.
-- Assumes nothing.
use Prim.Native.Nat.{ℕ, suc, ◌+◌, ◌-◌, ◌≤◌, ◌<◌}
use mathlib.Core.Path.{◌≡◌, sym, subst, ◌∙◌}
use mathlib.Core.Logic.{◌⊎◌, inl, inr}
use mathlib.Core.List.{List}
use native.Mathlib.Decide.{ℕ_discrete, dec_lt}
use native.Mathlib.Numerals.{add-one}
use native.Mathlib.Omega.{arith}
use lib.ListN.{length, get_or}
use Rattle.instruction.specs.declared.Rules.{Rules}
use Rattle.instruction.specs.declared.Instruction.{Instruction}
use Rattle.instruction.specs.declared.WaveformFields.{WaveformFields}
use Rattle.instruction.specs.declared.Body.TheVariants.{Waveform, LoadRepeat, Repeat, Goto, Call, Return, Sync}
use Rattle.sequence.specs.Bounds.{word_limit, stack_depth}
use Rattle.nest.specs.Block.{Block, done, pulse, repeat, nest_limit, high, low}
use Rattle.nest.specs.Fair.{Fair}
use Rattle.nest.specs.Layout.{size_of, park_of, raised, passed}
use Rattle.nest.proofs.Heads.{raised_length, raised_same, raised_other, raised_up, passed_length, passed_up, passed_body, passed_own}
use Rattle.nest.proofs.Stands.{Stands, Among, Whole}
use Rattle.played.proofs.Sound.{sync_sound, load_sound, return_sound, call_sound, repeat_sound, goto_sound, pulse_sound, Takes}

-- a block's line at a depth, from an address to the one behind it; the bodies of its repeats lie anywhere
pub data Lies (rules : Rules) (wave : ℕ) (words : List ℕ) : Block → ℕ → ℕ → ℕ → Type 0 where
  ends : {d p : ℕ} → Lies rules wave words done d p p
  plays : {f : WaveformFields} {b : Block} {d p q : ℕ} → f.op ≡ 0
      → Takes rules wave words p (high (Waveform f)) → Lies rules wave words b d (suc p) q → Lies rules wave words (pulse f b) d p q
  repeats : {n k : ℕ} {c b : Block} {d p q s r : ℕ} → n ≡ suc k → d < stack_depth
      → Takes rules wave words p (low (LoadRepeat (record { 0 = k })))
      → Takes rules wave words (suc p) (low (Call (record { 0 = s })))
      → Takes rules wave words (suc (suc p)) (low (Repeat (record { 0 = suc p })))
      → Lies rules wave words c (suc d) s r → Takes rules wave words r (low (Return (record { 0 = 0 })))
      → Lies rules wave words b d (suc (suc (suc p))) q → Lies rules wave words (repeat n c b) d p q

-- a whole sequence
pub record Laid (rules : Rules) (wave : ℕ) (words : List ℕ) (b : Block) : Type 0 where
  pub sync : Takes rules wave words 0 (high Sync)
  pub line : Lies rules wave words b 0 1 (park_of b)
  pub park : Takes rules wave words (park_of b) (low (Goto (record { 0 = park_of b })))
  pub all : (a : ℕ) → a < length words → (i : Instruction) × Takes rules wave words a i

-- ---- the next places of the levels, inside and behind a repeat

abbrev within : ℕ → List ℕ → List ℕ
within level hs = raised hs level 3

abbrev behind : Block → ℕ → List ℕ → List ℕ
behind c level hs = raised (passed c (suc level) (within level hs)) (suc level) 1

-- there is a place for every level
abbrev Fit : List ℕ → ℕ → Type 0
Fit hs level = (length hs ≡ suc nest_limit) × (level ≤ nest_limit)

fit_next : (hs : List ℕ) (level : ℕ) → Fit hs level → Fit (raised hs level 1) level
fit_next hs level fit = (raised_length hs level 1 ∙ fit.0, fit.1)

fit_within : (hs : List ℕ) (level : ℕ) → Fit hs level → level < nest_limit → Fit (within level hs) (suc level)
fit_within hs level fit h = (raised_length hs level 3 ∙ fit.0, omega arith)

fit_behind : (c : Block) (hs : List ℕ) (level : ℕ) → Fit hs level → Fit (behind c level hs) level
fit_behind c hs level fit =
    (raised_length (passed c (suc level) (within level hs)) (suc level) 1 ∙ passed_length c (suc level) (within level hs) ∙ raised_length hs level 3 ∙ fit.0, fit.1)

-- a place that one level gains is one of those from its next one on
gained : (hs : List ℕ) (i k j a : ℕ) → i < length hs → get_or hs j 0 ≤ a → a < get_or (raised hs i k) j 0 → (get_or hs i 0 ≤ a) × (a < get_or hs i 0 + k)
gained hs i k j a h low up = by (ℕ_discrete j i)
  where
    by : Dec (j ≡ i) → (get_or hs i 0 ≤ a) × (a < get_or hs i 0 + k)
    by (yes e) =
        (subst (λ (x : ℕ). get_or hs x 0 ≤ a) e low, subst (λ (x : ℕ). a < x) (raised_same hs i k h) (subst (λ (x : ℕ). a < get_or (raised hs i k) x 0) e up))
    by (no e) = absurd (omega (arith, low, up, raised_other hs i j k e))

module _ (rules : Rules) (wave : ℕ) (words : List ℕ) (few : length words ≤ word_limit) where
  -- ---- a play, and the four words of a repeat

  pulse_at : (g : WaveformFields) (b : Block) (level : ℕ) (hs : List ℕ) → Fair wave level (pulse g b) → Stands words (pulse g b) level hs
      → Takes rules wave words (get_or hs level 0) (high (Waveform g))
  pulse_at g b level hs f st = record { at = st.0; sound = pulse_sound rules wave (length words) g f.0 }

  module _ (n : ℕ) (c b : Block) (level : ℕ) (hs : List ℕ) (f : Fair wave level (repeat n c b)) (st : Stands words (repeat n c b) level hs) where
    load_at : Takes rules wave words (get_or hs level 0) (low (LoadRepeat (record { 0 = n - 1 })))
    load_at = record { at = st.0; sound = load_sound rules wave (length words) (n - 1) (omega (arith, f.0, f.1)) }

    call_at : Takes rules wave words (suc (get_or hs level 0)) (low (Call (record { 0 = get_or hs (suc level) 0 })))
    call_at =
        record {
          at = st.1;
          sound = call_sound rules wave (length words) (get_or hs (suc level) 0)
              (omega (arith, raised_up hs level (suc level) 3, passed_up c (suc level) (within level hs) (suc level), st.4.0)) few;
        }

    again_at : Takes rules wave words (suc (suc (get_or hs level 0))) (low (Repeat (record { 0 = suc (get_or hs level 0) })))
    again_at =
        subst (λ (x : ℕ). Takes rules wave words (suc (suc (get_or hs level 0))) (low (Repeat (record { 0 = x })))) (add-one (get_or hs level 0))
        (record { at = st.2; sound = repeat_sound rules wave (length words) (get_or hs level 0 + 1) (omega (arith, st.2.0)) few })

    return_at : Takes rules wave words (get_or (passed c (suc level) (within level hs)) (suc level) 0) (low (Return (record { 0 = 0 })))
    return_at = record { at = st.4; sound = return_sound rules wave (length words) }

  -- ---- the line

  lies : (b : Block) (level : ℕ) (hs : List ℕ) → Fit hs level → Fair wave level b → Stands words b level hs
      → Lies rules wave words b level (get_or hs level 0) (get_or (passed b level hs) level 0)
  lies done level hs fit f st = ends
  lies (pulse g b) level hs fit f st =
      plays f.1 (pulse_at g b level hs f st)
      (subst (λ (x : ℕ). Lies rules wave words b level x (get_or (passed b level (raised hs level 1)) level 0))
      (raised_same hs level 1 (omega (arith, fit.0, fit.1)) ∙ add-one (get_or hs level 0))
      (lies b level (raised hs level 1) (fit_next hs level fit) f.2 st.1))
  lies (repeat n c b) level hs fit f st =
      repeats {n = n} {k = n - 1} (omega (arith, f.0)) f.2 (load_at n c b level hs f st) (call_at n c b level hs f st) (again_at n c b level hs f st)
      (subst (λ (x : ℕ). Lies rules wave words c (suc level) x (get_or (passed c (suc level) (within level hs)) (suc level) 0))
      (raised_other hs level (suc level) 3 (λ e. omega arith))
      (lies c (suc level) (within level hs) (fit_within hs level fit f.2) f.3 st.3))
      (return_at n c b level hs f st)
      (subst (λ (x : ℕ). Lies rules wave words b level x (get_or (passed b level (behind c level hs)) level 0))
      (omega (arith, passed_body c level hs (omega (arith, fit.0, fit.1))))
      (lies b level (behind c level hs) (fit_behind c hs level fit) f.4 st.5))

  -- ---- every place that it takes

  abbrev Some : ℕ → Type 0
  Some a = (i : Instruction) × Takes rules wave words a i

  some_at : {i : Instruction} (a p : ℕ) → a ≡ p → Takes rules wave words p i → Some a
  some_at {i} a p e t = (i, subst (λ (x : ℕ). Takes rules wave words x i) (sym e) t)

  -- one of three places
  three : (a p : ℕ) → p ≤ a → a < p + 3 → (a ≡ p) ⊎ ((a ≡ suc p) ⊎ (a ≡ suc (suc p)))
  three a p low up = by (ℕ_discrete a p) (ℕ_discrete a (suc p))
    where
      by : Dec (a ≡ p) → Dec (a ≡ suc p) → (a ≡ p) ⊎ ((a ≡ suc p) ⊎ (a ≡ suc (suc p)))
      by (yes e) g = inl e
      by (no e) (yes g) = inr (inl g)
      by (no e) (no g) = inr (inr (omega arith))

  each : (b : Block) (level : ℕ) (hs : List ℕ) → Fit hs level → Fair wave level b → Stands words b level hs
      → (j a : ℕ) → get_or hs j 0 ≤ a → a < get_or (passed b level hs) j 0 → Some a
  each done level hs fit f st j a low up = absurd (omega arith)
  each (pulse g b) level hs fit f st j a low up =
      by (dec_lt a (get_or (raised hs level 1) j 0)) (λ h. each b level (raised hs level 1) (fit_next hs level fit) f.2 st.1 j a h up)
    where
      by : Dec (a < get_or (raised hs level 1) j 0) → (get_or (raised hs level 1) j 0 ≤ a → Some a) → Some a
      by (yes h) rest =
          let s = gained hs level 1 j a (omega (arith, fit.0, fit.1)) low h in
          some_at a (get_or hs level 0) (omega (arith, s.0, s.1)) (pulse_at g b level hs f st)
      by (no h) rest = rest (omega arith)
  each (repeat n c b) level hs fit f st j a low up =
      by (dec_lt a (get_or (within level hs) j 0)) (dec_lt a (get_or (passed c (suc level) (within level hs)) j 0)) (dec_lt a (get_or (behind c level hs) j 0))
      (each c (suc level) (within level hs) (fit_within hs level fit f.2) f.3 st.3 j a)
      (λ h. each b level (behind c level hs) (fit_behind c hs level fit) f.4 st.5 j a h up)
    where
      own : (a ≡ get_or hs level 0) ⊎ ((a ≡ suc (get_or hs level 0)) ⊎ (a ≡ suc (suc (get_or hs level 0)))) → Some a
      own (inl e) = some_at a (get_or hs level 0) e (load_at n c b level hs f st)
      own (inr (inl e)) = some_at a (suc (get_or hs level 0)) e (call_at n c b level hs f st)
      own (inr (inr e)) = some_at a (suc (suc (get_or hs level 0))) e (again_at n c b level hs f st)

      by : Dec (a < get_or (within level hs) j 0) → Dec (a < get_or (passed c (suc level) (within level hs)) j 0) → Dec (a < get_or (behind c level hs) j 0)
          → (get_or (within level hs) j 0 ≤ a → a < get_or (passed c (suc level) (within level hs)) j 0 → Some a) → (get_or (behind c level hs) j 0 ≤ a → Some a) → Some a
      by (yes h) _ _ body rest =
          let s = gained hs level 3 j a (omega (arith, fit.0, fit.1)) low h in
          own (three a (get_or hs level 0) s.0 s.1)
      by (no h) (yes h₂) _ body rest = body (omega arith) h₂
      by (no h) (no h₂) (yes h₃) body rest =
          let m = fit_within hs level fit f.2 in
          let l = passed_length c (suc level) (within level hs) in
          let s = gained (passed c (suc level) (within level hs)) (suc level) 1 j a (omega (arith, m.0, m.1, l)) (omega arith) h₃ in
          some_at a (get_or (passed c (suc level) (within level hs)) (suc level) 0) (omega (arith, s.0, s.1)) (return_at n c b level hs f st)
      by (no h) (no h₂) (no h₃) body rest = rest (omega arith)

-- ---- the whole

pub laid : (rules : Rules) (wave : ℕ) (words : List ℕ) (b : Block) → Whole words b → Fair wave 0 b → size_of b ≤ word_limit → Laid rules wave words b
laid rules wave words b w f h =
    record {
      sync = sync;
      line =
          subst (λ (x : ℕ). Lies rules wave words b 0 x (park_of b)) w.first
          (subst (λ (x : ℕ). Lies rules wave words b 0 (get_or w.heads 0 0) x)
          (omega (arith, w.first, passed_own b 0 w.heads (omega (arith, w.levels))))
          (lies rules wave words few b 0 w.heads fit f w.stands));
      park = park;
      all = λ a l. by a (w.covers a (omega (arith, w.size)));
    }
  where
    few : length words ≤ word_limit
    few = omega (arith, w.size)

    fit : Fit w.heads 0
    fit = (w.levels, omega arith)

    sync : Takes rules wave words 0 (high Sync)
    sync = record { at = w.sync; sound = sync_sound rules wave (length words) }

    park : Takes rules wave words (park_of b) (low (Goto (record { 0 = park_of b })))
    park = record { at = w.park; sound = goto_sound rules wave (length words) (park_of b) w.park.0 few }

    by : (a : ℕ) → (a ≡ 0) ⊎ ((a ≡ park_of b) ⊎ Among w.heads (passed b 0 w.heads) a) → (i : Instruction) × Takes rules wave words a i
    by a (inl e) = some_at rules wave words few a 0 e sync
    by a (inr (inl e)) = some_at rules wave words few a (park_of b) e park
    by a (inr (inr m)) = each rules wave words few b 0 w.heads fit f w.stands m.0 a m.1 m.2
