-- Laws of the words where they stand: groups that close, and what a word that passes leaves.
-- Assumes nothing.
use Prim.Native.Nat.{ℕ, zero, suc, ◌+◌, ◌-◌, ◌≤◌, ◌<◌, min}
use mathlib.Core.Path.{◌≡◌, refl, sym, ap, subst, ◌∙◌}
use mathlib.Core.Bool.{Bool, true, false, ◌||◌, ◌&&◌}
use mathlib.Core.List.{List, [], ◌∷◌}
use native.Mathlib.Nat.{le_of_suc-le-suc}
use native.Mathlib.Numerals.{add-one}
use native.Mathlib.Decide.{ℕ_discrete, dec_lt}
use native.Mathlib.Omega.{arith}
use borrow.Author.Tests.{eq-eqb, ne_eqb, le-ltb, lt-ltb, leb-false}
use lib.ListN.{length, get_or, take, drop, length-drop}
use lib.Seq.{take_all}
use Rattle.std.proofs.lemmas.List.{get_or-take, length-take}
use Rattle.instruction.specs.Table.{noop_word}
use Rattle.instruction.specs.Word.{spelled_by, noop}
use Rattle.instruction.specs.declared.Body.{Body}
use Rattle.instruction.specs.declared.Body.TheVariants.{Waveform, Marker, Wait, LoadRepeat, Repeat, Cmp, Goto, Call, Return, Sync, Modulator, LoadCmp, Prefetch, Noop}
use Rattle.instruction.specs.declared.Instruction.{Instruction}
use Rattle.instruction.specs.declared.Refusal.{Refusal}
use Rattle.instruction.specs.declared.Rules.{Rules}
use Rattle.reader.specs.Reading.{Reading, reading_of, form_in}
use Rattle.std.specs.declared.result.Result.TheVariants.{Ok}
use Rattle.reader.proofs.Laws.{reads_noop, reads, refuses}
use Rattle.sequence.specs.Bounds.{lengths_refused}
use Rattle.sequence.specs.Placing.{is_engine, out_of_words, placing_of}
use Rattle.sequence.proofs.Laws.{placed_words}
use Rattle.flow.specs.Masks.{to_of}
use Rattle.flow.specs.Move.{move_of, move_at}
use Rattle.verdict.specs.Flow.{Targets}
use Rattle.verdict.specs.Words.{is_engine_word, is_high, closes, left_open, stands_refused, refused_as, word_refusal, Passes}
use Rattle.verdict.specs.Check.{check_input_refused, WordsAre, passed, first}
use Rattle.verdict.specs.declared.Verdict.{Verdict}

-- ---- groups

pub closes_none : (above : List ℕ) → closes 0 above ≡ false
unfolding closes
closes_none above = refl

pub closes_end : (k at : ℕ) (words : List ℕ) → length words ≤ at → closes k (drop at words) ≡ false
unfolding closes
closes_end zero at words h = refl
closes_end (suc k) zero [] h = refl
closes_end (suc k) (suc at) [] h = refl
closes_end (suc k) zero (x ∷ words) h = absurd (omega arith)
closes_end (suc k) (suc at) (x ∷ words) h = closes_end (suc k) at words (le_of_suc-le-suc h)

closes_cons : (k at : ℕ) (words : List ℕ) → at < length words
    → closes (suc k) (drop at words) ≡ is_engine_word (get_or words at 0) && (is_high (get_or words at 0) || closes k (drop (suc at) words))
unfolding closes
closes_cons k at [] h = absurd (omega arith)
closes_cons k zero (x ∷ words) h = refl
closes_cons k (suc at) (x ∷ words) h = closes_cons k at words (le_of_suc-le-suc h)

module _ (k at : ℕ) (words : List ℕ) (some : 0 < k) (l : at < length words) where
  closes_at : closes k (drop at words) ≡ is_engine_word (get_or words at 0) && (is_high (get_or words at 0) || closes (k - 1) (drop (at + 1) words))
  closes_at =
      ap (λ (z : ℕ). closes z (drop at words)) (back k some)
      ∙ closes_cons (k - 1) at words l
      ∙ ap (λ (z : ℕ). is_engine_word (get_or words at 0) && (is_high (get_or words at 0) || closes (k - 1) (drop z words))) (sym (add-one at))
    where
      back : (k : ℕ) → 0 < k → k ≡ suc (k - 1)
      back k h = omega arith

  pub closes_not : is_engine_word (get_or words at 0) ≡ false → closes k (drop at words) ≡ false
  closes_not e = closes_at ∙ rw e

  pub closes_high : is_engine_word (get_or words at 0) ≡ true → is_high (get_or words at 0) ≡ true → closes k (drop at words) ≡ true
  closes_high e h = closes_at ∙ rw (e, h)

  pub closes_on : is_engine_word (get_or words at 0) ≡ true → is_high (get_or words at 0) ≡ false → closes k (drop at words) ≡ closes (k - 1) (drop (at + 1) words)
  closes_on e h = closes_at ∙ rw (e, h)

-- of the words that are near enough
module _ (n i : ℕ) (above : List ℕ) {m : ℕ} (e : m ≡ min (length above) n) (h : i < length (take m above)) where
  pub near_left : 0 < n - i
  near_left = omega (arith, e, h, length-take m above)

  pub near_in : i < length above
  near_in = omega (arith, e, h, length-take m above)

  pub near_is : get_or (take m above) i 0 ≡ get_or above i 0
  near_is = get_or-take m above i 0 (omega (arith, e, h, length-take m above))

-- and behind them
pub near_none : (n i : ℕ) (above : List ℕ) {m : ℕ} → m ≡ min (length above) n → length (take m above) ≤ i → closes (n - i) (drop i above) ≡ false
near_none n i above {m = m} e h = by (dec_lt i (length above))
  where
    by : Dec (i < length above) → closes (n - i) (drop i above) ≡ false
    by (no l) = closes_end (n - i) i above (omega (arith, l))
    by (yes l) = let z : n - i ≡ 0 = omega (arith, e, h, l, length-take m above) in ap (λ (k : ℕ). closes k (drop i above)) z ∙ closes_none (drop i above)

-- the words from a place to the end
pub rest_above : (words : List ℕ) (at : ℕ) → take (length words - at) (drop at words) ≡ drop at words
rest_above words at = take_all (length words - at) (drop at words) (omega (arith, length-drop at words))

-- ---- one word

module _ (wave n : ℕ) (above : List ℕ) (i : Instruction) where
  pub stands_placed : (placing_of wave n i.body ≡ 0 → ⊥) → stands_refused wave n above i ≡ placing_of wave n i.body
  unfolding stands_refused
  stands_placed h = rw (ne_eqb _ _ h)

  pub stands_open : placing_of wave n i.body ≡ 0 → left_open i above ≡ true → stands_refused wave n above i ≡ 22
  unfolding stands_refused
  stands_open e o = rw (eq-eqb _ _ e, o)

  pub stands_well : placing_of wave n i.body ≡ 0 → left_open i above ≡ false → stands_refused wave n above i ≡ 0
  unfolding stands_refused
  stands_well e o = rw (eq-eqb _ _ e, o)

  stood : stands_refused wave n above i ≡ 0 → (placing_of wave n i.body ≡ 0) × (left_open i above ≡ false)
  stood z = by (ℕ_discrete (placing_of wave n i.body) 0) (left_open i above) refl
    where
      by : Dec (placing_of wave n i.body ≡ 0) → (b : Bool) → left_open i above ≡ b → (placing_of wave n i.body ≡ 0) × (left_open i above ≡ false)
      by (no h) b o = let e = sym (stands_placed h) ∙ z in absurd (h e)
      by (yes e) true o = let q = sym (stands_open e o) ∙ z in absurd (omega arith)
      by (yes e) false o = (e, o)

pub refusal_at : (rules : Rules) (wave : ℕ) (words : List ℕ) (a : ℕ) {reading : Reading} → reading_of rules (get_or words a 0) ≡ reading → word_refusal rules wave words a ≡ refused_as wave (length words) (drop (a + 1) words) reading
unfolding word_refusal
refusal_at rules wave words a e = ap (refused_as wave (length words) (drop (a + 1) words)) e

-- ---- targets

target_body : (n : ℕ) (b : Body) → 0 < n → out_of_words n b ≡ false → to_of (move_of b) < n
target_body n (Waveform f) p e = p
target_body n (Marker f) p e = p
target_body n Wait p e = p
target_body n (LoadRepeat r) p e = p
target_body n (Repeat a) p e = leb-false n a.0 e
target_body n (Cmp x) p e = p
target_body n (Goto a) p e = leb-false n a.0 e
target_body n (Call a) p e = leb-false n a.0 e
target_body n (Return r) p e = p
target_body n Sync p e = p
target_body n (Modulator f) p e = p
target_body n (LoadCmp r) p e = p
target_body n (Prefetch a) p e = p
target_body n Noop p e = p

noop_spelled : (spelled_by noop_word).body ≡ Noop
unfolding spelled_by
noop_spelled = refl

-- what a word that passes is: an instruction that is placed and whose group closes, and what the walk and the groups take it for
pub record Stands (rules : Rules) (wave : ℕ) (words : List ℕ) (a : ℕ) : Type 0 where
  pub instruction : Instruction
  pub reads : reading_of rules (get_or words a 0) ≡ Ok instruction
  pub placed : placing_of wave (length words) instruction.body ≡ 0
  pub closed : left_open instruction (drop (a + 1) words) ≡ false
  pub body : (spelled_by (get_or words a 0)).body ≡ instruction.body
  pub flag : is_engine instruction.body ≡ true → (spelled_by (get_or words a 0)).write ≡ instruction.write

pub stands : (rules : Rules) (wave : ℕ) (words : List ℕ) (a : ℕ) → Passes rules wave words a → Stands rules wave words a
stands rules wave words a e = by (ℕ_discrete w noop_word)
  where
    w : ℕ
    w = get_or words a 0

    good : (i : Instruction) → reading_of rules w ≡ Ok i → stands_refused wave (length words) (drop (a + 1) words) i ≡ 0
    good i r = sym (ap (λ (q : Refusal). q.number) (refusal_at rules wave words a r)) ∙ e

    form : (w ≡ noop_word → ⊥) → Dec (form_in rules w ≡ 0) → Stands rules wave words a
    form h (yes z) =
        let s = stood wave (length words) (drop (a + 1) words) (spelled_by w) (good (spelled_by w) (reads rules w h z)) in
        record { instruction = spelled_by w; reads = reads rules w h z; placed = s.0; closed = s.1; body = refl; flag = λ _. refl }
    form h (no z) = absurd (z (sym (ap (λ (r : Refusal). r.number) (refusal_at rules wave words a (refuses rules w h z))) ∙ e))

    by : Dec (w ≡ noop_word) → Stands rules wave words a
    by (yes z) =
        let s = stood wave (length words) (drop (a + 1) words) noop (good noop (reads_noop rules w z)) in
        record {
          instruction = noop;
          reads = reads_noop rules w z;
          placed = s.0;
          closed = s.1;
          body = ap (λ (x : ℕ). (spelled_by x).body) z ∙ noop_spelled;
          flag = λ q. let x : ◌≡◌ {A = ℕ} 0 1 = cc in absurd (omega arith);
        }
    by (no h) = form h (ℕ_discrete (form_in rules w) 0)

pub target : (rules : Rules) (wave : ℕ) (words : List ℕ) (a : ℕ) → 0 < length words → Passes rules wave words a → to_of (move_at words a) < length words
target rules wave words a p e =
    let s = stands rules wave words a e in
    subst (λ (b : Body). to_of (move_of b) < length words) (sym s.body)
    (target_body (length words) s.instruction.body p (placed_words wave (length words) s.instruction.body s.placed))

pub targets : (rules : Rules) (wave : ℕ) (words : List ℕ) → 0 < length words → ((a : ℕ) → a < length words → Passes rules wave words a) → Targets words
targets rules wave words p all a l = target rules wave words a p (all a l)

-- ---- the input

module _ (n wave room : ℕ) where
  pub input_lengths : (lengths_refused n wave ≡ 0 → ⊥) → check_input_refused n wave room ≡ lengths_refused n wave
  unfolding check_input_refused
  input_lengths h = rw (ne_eqb _ _ h)

  pub input_short : lengths_refused n wave ≡ 0 → room < n → check_input_refused n wave room ≡ 4
  unfolding check_input_refused
  input_short h l = rw (h, lt-ltb room n l)

  pub input_none : lengths_refused n wave ≡ 0 → n ≤ room → check_input_refused n wave room ≡ 0
  unfolding check_input_refused
  input_none h l = rw (h, le-ltb room n l)

  pub input_lengths_good : check_input_refused n wave room ≡ 0 → lengths_refused n wave ≡ 0
  input_lengths_good z = by (ℕ_discrete (lengths_refused n wave) 0)
    where
      by : Dec (lengths_refused n wave ≡ 0) → lengths_refused n wave ≡ 0
      by (yes e) = e
      by (no h) = sym (input_lengths h) ∙ z

  lengths_some : lengths_refused n wave ≡ 0 → 0 < n
  unfolding lengths_refused
  lengths_some z = by (ℕ_discrete n 0)
    where
      none : n ≡ 0 → lengths_refused n wave ≡ 1
      none e = rw e

      by : Dec (n ≡ 0) → 0 < n
      by (yes e) = let q = sym (none e) ∙ z in absurd (omega arith)
      by (no h) = omega arith

  -- there is a word, and a mark for each
  pub input_good : check_input_refused n wave room ≡ 0 → (0 < n) × (n ≤ room)
  input_good z = by (ℕ_discrete (lengths_refused n wave) 0) (dec_lt room n)
    where
      by : Dec (lengths_refused n wave ≡ 0) → Dec (room < n) → (0 < n) × (n ≤ room)
      by (no h) d = absurd (h (sym (input_lengths h) ∙ z))
      by (yes e) (yes l) = let q = sym (input_short e l) ∙ z in absurd (omega arith)
      by (yes e) (no l) = (lengths_some e, omega arith)

-- ---- all words

pub passes_more : (rules : Rules) (wave : ℕ) (words : List ℕ) (a : ℕ) → ((b : ℕ) → b < a → Passes rules wave words b) → Passes rules wave words a → (b : ℕ) → b < a + 1 → Passes rules wave words b
passes_more rules wave words a all p b h = by (ℕ_discrete b a)
  where
    by : Dec (b ≡ a) → Passes rules wave words b
    by (yes e) = subst (λ (z : ℕ). Passes rules wave words z) (sym e) p
    by (no n) = all b (omega arith)

pub all_pass : (rules : Rules) (wave : ℕ) (words : List ℕ) {v : Verdict} → WordsAre rules wave words v → v.refusal.number ≡ 0 → (a : ℕ) → a < length words → Passes rules wave words a
all_pass rules wave words (passed all) z = all
all_pass rules wave words (first l below h) z = absurd (h z)
