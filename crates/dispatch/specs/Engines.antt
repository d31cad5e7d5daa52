-- What the six engines count: trigger waits (H6) and quad-samples (H7), word by word as words are dispatched.
-- A word counts by what its fields spell; every word that is dispatched has passed form.
use Rattle.std.specs.Prelude.{ℕ, ◌+◌, ◌*◌, ◌^◌, ◌≤◌, ◌≡◌, List, [], ◌∷◌, map, eqb, get_or, set, length}
use Rattle.instruction.specs.Bits.{pick}
use Rattle.instruction.specs.Table.{code_of}
use Rattle.instruction.specs.Form.{plays, awaits_trigger, modulates, modulator_awaits_trigger}
use Rattle.instruction.specs.Word.{spelled_by}
use Rattle.instruction.specs.declared.Instruction.{Instruction}
use Rattle.instruction.specs.declared.Body.{Body}
use Rattle.instruction.specs.declared.Body.TheVariants.{Wait}
use Rattle.sequence.specs.Placing.{on_engine}

-- "each engine (waveform, markers 0 to 3 by engine select, modulator)": 0, 1 to 4, 5
abbrev pub engine_count : ℕ
engine_count = 6

abbrev pub engine_of : Instruction → ℕ
engine_of i = on_engine (λ f. 0) (λ f. 1 + i.engine) (λ f. 5) 0 i.body

-- H6: "each engine counts the trigger waits sent to it"
abbrev pub waits_for : Body → ℕ
waits_for = on_engine (λ f. pick (awaits_trigger f.op) 1 0) (λ f. pick (awaits_trigger f.op) 1 0) (λ f. pick (modulator_awaits_trigger f.op) 1 0) 0

-- H7: "play and modulate add count to their engine's quad-sample total on dispatch"; "Others add nothing"
-- document 02, request 6: "A marker play adds count + 1."
abbrev pub plays_for : Body → ℕ
plays_for = on_engine (λ f. pick (plays f.op) f.count.0 0) (λ f. pick (plays f.op) (f.count.0 + 1) 0) (λ f. pick (modulates f.op) f.payload 0) 0

-- one of six numbers more by v
abbrev pub add_to : List ℕ → ℕ → ℕ → List ℕ
add_to l k v = set l k (get_or l k 0 + v)

-- each of them more by one
abbrev pub plus_one : List ℕ → List ℕ
plus_one l = map (λ (x : ℕ). x + 1) l

-- H6: "WAIT adds one to all six"
abbrev pub waits_after : List ℕ → Instruction → List ℕ
waits_after waits i = pick (eqb (code_of i.body) (code_of Wait)) (plus_one waits) (add_to waits (engine_of i) (waits_for i.body))

abbrev pub totals_after : List ℕ → Instruction → List ℕ
totals_after totals i = add_to totals (engine_of i) (plays_for i.body)

-- the counts after words were dispatched, one after the other
abbrev pub waits_over : List ℕ → List ℕ → List ℕ
waits_over waits [] = waits
waits_over waits (w ∷ ws) = waits_over (waits_after waits (spelled_by w)) ws

abbrev pub totals_over : List ℕ → List ℕ → List ℕ
totals_over totals [] = totals
totals_over totals (w ∷ ws) = totals_over (totals_after totals (spelled_by w)) ws

-- ---- bounds, so that no count can grow past its number

-- each number of a list is at most b
abbrev pub AllLe : ℕ → List ℕ → Type 0
AllLe b [] = Unit {0}
AllLe b (x ∷ l) = (x ≤ b) × AllLe b l

-- one number for each engine, none above b
pub record Six (b : ℕ) (l : List ℕ) : Type 0 where
  pub size : length l ≡ engine_count
  pub small : AllLe b l

-- after k words, no wait count is above k, and no total above 2^32 times that
pub record Counted (k : ℕ) (ws ts : List ℕ) : Type 0 where
  pub waits : Six k ws
  pub totals : Six (k * 2 ^ 32) ts
