-- Laws of what is judged of a state: totals against a bound that no number holds, and the words of a group one by one.
-- Assumes nothing.
use Prim.Native.Nat.{ℕ, suc, ◌+◌, ◌-◌, ◌*◌, ◌/◌, ◌%◌, ◌^◌, ◌≤◌, ◌<◌}
use native.Mathlib.Numerals.{add-one}
use native.Mathlib.Omega.{arith}
use mathlib.Core.Path.{◌≡◌, refl, sym, ap, ap₂, ◌∙◌}
use mathlib.Core.Bool.{Bool, true, false, not, ◌&&◌, ◌||◌, true≢false}
use mathlib.Core.List.{List, [], ◌∷◌}
use borrow.Author.Tests.{lt-ltb, le-ltb, ltb-true, ltb-false, eqb-true, eqb-false, le-leb, lt-leb, leb-true, not-true}
use lib.Dec.{ltb, eqb, leb}
use lib.ListN.{length, get_or, drop, take, length-drop, drop_of_length-le}
use lib.Seq.{drop-cons, take_all}
use Rattle.instruction.specs.declared.Instruction.{Instruction}
use Rattle.instruction.specs.declared.Refusal.{Refusal}
use Rattle.reader.specs.Reading.{Reading, reading_of}
use Rattle.std.specs.declared.result.Result.TheVariants.{Ok, Err}
use Rattle.dispatch.specs.Engines.{engine_count, AllLe}
use Rattle.dispatch.specs.Trace.{part}
use Rattle.jumps.specs.State.{Fixed}
use Rattle.sequence.specs.Bounds.{stack_depth, group_size}
use Rattle.sequence.specs.Placing.{is_engine, placing_of}
use Rattle.jumps.specs.declared.Core.{Core}
use Rattle.jumps.specs.declared.State.{State}
use Rattle.machine.specs.Step.{any_above}
use Rattle.machine.specs.Kept.{Good}
use Rattle.left.specs.Left.{stack_fits, can_be_held, can_all_be_held, group_fits, counts_fit, core_fits, could_be_left}

-- ---- totals

-- "2^32 times that": the whole part decides, and where it is equal, whether anything is left
pub above_whole : (sent total : ℕ) → (ltb sent (total / 4294967296) || (eqb sent (total / 4294967296) && not (eqb (total % 4294967296) 0))) ≡ ltb (sent * 2 ^ 32) total
above_whole sent total = by (ltb sent (total / 4294967296)) refl (eqb sent (total / 4294967296)) refl (eqb (total % 4294967296) 0) refl
  where
    by : (a : Bool) → ltb sent (total / 4294967296) ≡ a → (b : Bool) → eqb sent (total / 4294967296) ≡ b → (c : Bool) → eqb (total % 4294967296) 0 ≡ c
        → (a || (b && not c)) ≡ ltb (sent * 2 ^ 32) total
    by true p b q c r = sym (lt-ltb (sent * 2 ^ 32) total (omega (arith, ltb-true sent (total / 4294967296) p)))
    by false p false q c r = sym (le-ltb (sent * 2 ^ 32) total (omega (arith, ltb-false sent (total / 4294967296) p, eqb-false sent (total / 4294967296) q)))
    by false p true q true r = sym (le-ltb (sent * 2 ^ 32) total (omega (arith, eqb-true sent (total / 4294967296) q, eqb-true (total % 4294967296) 0 r)))
    by false p true q false r = sym (lt-ltb (sent * 2 ^ 32) total (omega (arith, eqb-true sent (total / 4294967296) q, eqb-false (total % 4294967296) 0 r)))

-- ---- groups

module _ (e : Fixed) (group : List ℕ) (i : ℕ) (h : i < length group) where
  pub held_here : can_be_held e (reading_of e.setting.rules (get_or group i 0)) ≡ true → can_all_be_held e (drop i group) ≡ can_all_be_held e (drop (i + 1) group)
  held_here b =
      ap (can_all_be_held e) (drop-cons group i 0 h)
      ∙ ap (λ (x : Bool). x && can_all_be_held e (drop (suc i) group)) b
      ∙ ap (λ (j : ℕ). can_all_be_held e (drop j group)) (sym (add-one i))

  pub not_held_here : can_be_held e (reading_of e.setting.rules (get_or group i 0)) ≡ false → can_all_be_held e (drop i group) ≡ false
  not_held_here b = ap (can_all_be_held e) (drop-cons group i 0 h) ∙ ap (λ (x : Bool). x && can_all_be_held e (drop (suc i) group)) b

pub none_held : (e : Fixed) (group : List ℕ) (i : ℕ) → length group ≤ i → can_all_be_held e (drop i group) ≡ true
none_held e group i h = ap (can_all_be_held e) (drop_of_length-le group h)

-- what a word reads as decides
pub held_accepted : (e : Fixed) (q : Reading) (i : Instruction) → q ≡ Ok i → (engine : Bool) → engine ≡ is_engine i.body → (placing : ℕ) → placing ≡ placing_of e.setting.wave.0 (length e.words) i.body
    → (engine && eqb i.write 0 && eqb placing 0) ≡ can_be_held e q
held_accepted e q i h engine p placing k = ap₂ (λ (x : Bool) (y : ℕ). x && eqb i.write 0 && eqb y 0) p k ∙ ap (can_be_held e) (sym h)

pub held_refused : (e : Fixed) (q : Reading) (r : Refusal) → q ≡ Err r → false ≡ can_be_held e q
held_refused e q r h = ap (can_be_held e) (sym h)

-- ---- the parts

-- a part that goes to the end of an array
pub above_part : (b k n : ℕ) (l : List ℕ) → length l ≡ n → any_above b (drop k l) ≡ any_above b (take (n - k) (drop k l))
above_part b k n l h = ap (any_above b) (sym (take_all (n - k) (drop k l) (omega (arith, h, length-drop k l))))

module _ (n depth : ℕ) (returns counters : List ℕ) where
  pub stack_far : any_above n returns ≡ true → stack_fits n depth returns counters ≡ false
  unfolding stack_fits
  stack_far h = rw h

  pub stack_dirty : any_above n returns ≡ false → any_above 0 (drop depth returns) ≡ true → stack_fits n depth returns counters ≡ false
  unfolding stack_fits
  stack_dirty h k = rw (h, k)

  pub stack_clean : any_above n returns ≡ false → any_above 0 (drop depth returns) ≡ false → stack_fits n depth returns counters ≡ not (any_above 0 (drop depth counters))
  unfolding stack_fits
  stack_clean h k = rw (h, k)

module _ (sent : ℕ) (waits totals : List ℕ) where
  pub waits_many : any_above sent waits ≡ true → counts_fit sent waits totals ≡ false
  unfolding counts_fit
  waits_many h = rw h

  pub waits_few : any_above sent waits ≡ false → counts_fit sent waits totals ≡ not (any_above (sent * 2 ^ 32) totals)
  unfolding counts_fit
  waits_few h = rw h

module _ (e : Fixed) (c : Core) where
  pub group_full : group_size ≤ c.held → group_fits e c ≡ false
  unfolding group_fits
  group_full h = rw (le-ltb c.held group_size h)

  pub group_more : c.held < group_size → (ltb c.steps c.held || ltb c.address.0 c.held) ≡ true → group_fits e c ≡ false
  unfolding group_fits
  group_more h k = rw (lt-ltb c.held group_size h) (by (ltb c.steps c.held) refl (ltb c.address.0 c.held) refl k)
    where
      by : (a : Bool) → ltb c.steps c.held ≡ a → (b : Bool) → ltb c.address.0 c.held ≡ b → (a || b) ≡ true
          → (leb c.held c.steps && leb c.held c.address.0 && can_all_be_held e (part (c.address.0 - c.held) c.held e.words)) ≡ false
      by true p b q z = rw (lt-leb c.held c.steps (ltb-true c.steps c.held p))
      by false p true q z = rw (le-leb c.held c.steps (ltb-false c.steps c.held p), lt-leb c.held c.address.0 (ltb-true c.address.0 c.held q))
      by false p false q z = absurd (true≢false (sym z))

  pub group_within : (ltb c.steps c.held || ltb c.address.0 c.held) ≡ false → (c.held ≤ c.steps) × (c.held ≤ c.address.0)
  group_within k = by (ltb c.steps c.held) refl (ltb c.address.0 c.held) refl k
    where
      by : (a : Bool) → ltb c.steps c.held ≡ a → (b : Bool) → ltb c.address.0 c.held ≡ b → (a || b) ≡ false → (c.held ≤ c.steps) × (c.held ≤ c.address.0)
      by true p b q z = absurd (true≢false z)
      by false p true q z = absurd (true≢false z)
      by false p false q z = (ltb-false c.steps c.held p, ltb-false c.address.0 c.held q)

  pub group_words : c.held < group_size → c.held ≤ c.steps → c.held ≤ c.address.0 → group_fits e c ≡ can_all_be_held e (part (c.address.0 - c.held) c.held e.words)
  unfolding group_fits
  group_words h k l = rw (lt-ltb c.held group_size h, le-leb c.held c.steps k, le-leb c.held c.address.0 l)

  -- what passes
  pub group_known : group_fits e c ≡ true → (c.held < group_size) × (c.held ≤ c.steps) × (c.held ≤ c.address.0)
  unfolding group_fits
  group_known z = by (ltb c.held group_size) refl (leb c.held c.steps) refl (leb c.held c.address.0) refl z
    where
      by : (a : Bool) → ltb c.held group_size ≡ a → (b : Bool) → leb c.held c.steps ≡ b → (d : Bool) → leb c.held c.address.0 ≡ d
          → (a && b && d && can_all_be_held e (part (c.address.0 - c.held) c.held e.words)) ≡ true → (c.held < group_size) × (c.held ≤ c.steps) × (c.held ≤ c.address.0)
      by false p b q d r z = absurd (true≢false (sym z))
      by true p false q d r z = absurd (true≢false (sym z))
      by true p true q false r z = absurd (true≢false (sym z))
      by true p true q true r z = (ltb-true c.held group_size p, leb-true c.held c.steps q, leb-true c.held c.address.0 r)

  pub core_known : (budget : ℕ) → core_fits e budget c ≡ true
      → (c.address.0 ≤ length e.words) × (c.depth ≤ stack_depth) × (c.used ≤ length e.messages) × (c.sent ≤ e.room) × (c.steps ≤ budget)
  unfolding core_fits
  core_known budget z = by (leb c.address.0 (length e.words)) refl (leb c.depth stack_depth) refl (leb c.used (length e.messages)) refl (leb c.sent e.room) refl (leb c.steps budget) refl z
    where
      by : (p : Bool) → leb c.address.0 (length e.words) ≡ p → (q : Bool) → leb c.depth stack_depth ≡ q → (r : Bool) → leb c.used (length e.messages) ≡ r
          → (s : Bool) → leb c.sent e.room ≡ s → (t : Bool) → leb c.steps budget ≡ t → (p && q && r && s && t) ≡ true
          → (c.address.0 ≤ length e.words) × (c.depth ≤ stack_depth) × (c.used ≤ length e.messages) × (c.sent ≤ e.room) × (c.steps ≤ budget)
      by false _ q _ r _ s _ t _ z = absurd (true≢false (sym z))
      by true _ false _ r _ s _ t _ z = absurd (true≢false (sym z))
      by true _ true _ false _ s _ t _ z = absurd (true≢false (sym z))
      by true _ true _ true _ false _ t _ z = absurd (true≢false (sym z))
      by true _ true _ true _ true _ false _ z = absurd (true≢false (sym z))
      by true a true b true c' true d true f z = (
        leb-true c.address.0 (length e.words) a,
        leb-true c.depth stack_depth b,
        leb-true c.used (length e.messages) c',
        leb-true c.sent e.room d,
        leb-true c.steps budget f,
      )

module _ (e : Fixed) (budget : ℕ) (s : State) where
  pub core_bad : core_fits e budget s.core ≡ false → could_be_left e budget s ≡ false
  unfolding could_be_left
  core_bad h = rw h

  module _ (h : core_fits e budget s.core ≡ true) where
    pub stack_bad : stack_fits (length e.words) s.core.depth s.returns s.counters ≡ false → could_be_left e budget s ≡ false
    unfolding could_be_left
    stack_bad k = rw (h, k)

    module _ (k : stack_fits (length e.words) s.core.depth s.returns s.counters ≡ true) where
      pub group_bad : group_fits e s.core ≡ false → could_be_left e budget s ≡ false
      unfolding could_be_left
      group_bad l = rw (h, k, l)

      pub counts_decide : group_fits e s.core ≡ true → could_be_left e budget s ≡ counts_fit (s.core.steps - s.core.held) s.waits s.totals
      unfolding could_be_left
      counts_decide l = rw (h, k, l)

-- ---- a state that passes is good: no sum overflows and no index is out of range

none_above : (b : ℕ) (l : List ℕ) → any_above b l ≡ false → AllLe b l
none_above b [] h = tt
none_above b (x ∷ l) h = by (ltb b x) refl h (λ (z : any_above b l ≡ false). none_above b l z)
  where
    by : (p : Bool) → ltb b x ≡ p → (p || any_above b l) ≡ false → (any_above b l ≡ false → AllLe b l) → AllLe b (x ∷ l)
    by true q z rest = absurd (true≢false z)
    by false q z rest = (ltb-false b x q, rest z)

-- three that hold together hold each
all_three : (a b c : Bool) → (a && b && c) ≡ true → (a ≡ true) × (b ≡ true) × (c ≡ true)
all_three true true true h = (refl, refl, refl)
all_three true true false h = absurd (true≢false (sym h))
all_three true false c h = absurd (true≢false (sym h))
all_three false b c h = absurd (true≢false (sym h))

pub left_good : (e : Fixed) (budget : ℕ) (s : State) → length s.waits ≡ engine_count → length s.totals ≡ engine_count → could_be_left e budget s ≡ true → Good e s
unfolding could_be_left stack_fits counts_fit
left_good e budget s w t z =
    let p = split (core_fits e budget s.core) _ (group_fits e s.core) _ z in
    let core = core_known e s.core budget p.0 in
    let stack = all_three (not (any_above (length e.words) s.returns)) _ _ p.1 in
    let group = group_known e s.core p.2 in
    let counts = all_three true (not (any_above (s.core.steps - s.core.held) s.waits)) _ p.3 in
    record {
      address = core.0;
      held = group.0;
      behind = group.2;
      counted = group.1;
      sent = core.3;
      depth = core.1;
      returns = none_above (length e.words) s.returns (not-true _ stack.0);
      counts = record { waits = record { size = w; small = none_above (s.core.steps - s.core.held) s.waits (not-true _ counts.1) }; totals = record { size = t; small = none_above ((s.core.steps - s.core.held) * 2 ^ 32) s.totals (not-true _ counts.2) } };
    }
  where
    split : (a b c d : Bool) → (a && b && c && d) ≡ true → (a ≡ true) × (b ≡ true) × (c ≡ true) × (d ≡ true)
    split true true true true h = (refl, refl, refl, refl)
    split true true true false h = absurd (true≢false (sym h))
    split true true false d h = absurd (true≢false (sym h))
    split true false c d h = absurd (true≢false (sym h))
    split false b c d h = absurd (true≢false (sym h))
