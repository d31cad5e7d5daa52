-- What the words of a block promise. Document 02, CR 5: "It passes check, and a run that gets to the park has dispatched that SYNC
-- and then just the listed plays, each as often as the product of the repeats around it, in reading order."
use Rattle.std.specs.Prelude.{ℕ, zero, suc, ◌+◌, ◌*◌, ◌≤◌, ◌≡◌, List, [], ◌∷◌, ◌++◌, length, take, replicate}
use Rattle.instruction.specs.Form.{numbered}
use Rattle.instruction.specs.Word.{word_of}
use Rattle.instruction.specs.declared.Rules.{Rules}
use Rattle.instruction.specs.declared.Body.TheVariants.{Waveform, Sync}
use Rattle.sequence.specs.Bounds.{stack_depth, budget_limit}
use Rattle.jumps.specs.State.{Fixed, Did}
use Rattle.rehearsal.specs.Run.{rehearse}
use Rattle.verdict.specs.Check.{CheckIs}
use Rattle.verdict.specs.Flow.{verdict}
use Rattle.verdict.specs.declared.Verdict.{Verdict}
use Rattle.nest.specs.Block.{Block, done, pulse, repeat, high}
use Rattle.nest.specs.Layout.{size_of, park_of}
use Rattle.block.specs.Text.{block_of, Translates}
use Rattle.text.specs.Told.{Told, number_in, count_in}

-- ---- what a block says

abbrev pub times : ℕ → List ℕ → List ℕ
times zero words = []
times (suc n) words = words ++ times n words

-- "just the listed plays, each as often as the product of the repeats around it, in reading order"
abbrev pub unrolled : Block → List ℕ
unrolled done = []
unrolled (pulse f b) = word_of (high (Waveform f)) ∷ unrolled b
unrolled (repeat n c b) = times n (unrolled c) ++ unrolled b

-- "that SYNC and then just the listed plays"
abbrev pub dispatched_by : Block → List ℕ
dispatched_by b = word_of (high Sync) ∷ unrolled b

-- "one a play or hold, and 1 + N × (3 + the steps of its block) a repeat"
abbrev pub steps_in : Block → ℕ
steps_in done = 0
steps_in (pulse f b) = 1 + steps_in b
steps_in (repeat n c b) = 1 + n * (3 + steps_in c) + steps_in b

-- "The steps to the park are one for SYNC, .."
abbrev pub steps_to : Block → ℕ
steps_to b = 1 + steps_in b

-- ---- what `block` wrote

-- words that `block` wrote for a text at a waveform length: a buffer that it was lent, what it left there, and what it told
pub record Wrote (w : ℕ) (text ws : List ℕ) : Type 0 where
  pub before : List ℕ
  pub after : List ℕ
  pub told : Told
  pub meets : Translates w text before after told
  pub accepted : number_in told ≡ 0
  pub words : ws ≡ take (count_in told) after

-- a run of words at a waveform length, with whatever rules, messages, triggers and room
pub record RunOf (w : ℕ) (ws : List ℕ) (e : Fixed) : Type 0 where
  pub words : e.words ≡ ws
  pub wave : e.setting.wave.0 ≡ w

-- ---- what is promised

-- "two words of its own, one for each play or hold and four for each repeat"
abbrev pub BlockSize : Type 0
BlockSize = (wave : ℕ) (text words : List ℕ) → Wrote wave text words → length words ≡ size_of (block_of text)

-- "It passes check"
abbrev pub BlocksPass : Type 0
BlocksPass =
    (wave : ℕ) (text words : List ℕ) → Wrote wave text words
    → (rules : Rules) (marks marks' : List ℕ) (v : Verdict) → length words ≤ length marks
    → CheckIs rules wave words marks v marks' → v ≡ verdict (numbered 0) 0

-- "a run that gets to the park has dispatched that SYNC and then just the listed plays"
abbrev pub BlocksPlay : Type 0
BlocksPlay =
    (wave : ℕ) (text words : List ℕ) → Wrote wave text words
    → (e : Fixed) → RunOf wave words e → (budget : ℕ) → (rehearse budget e).state.core.address.0 ≡ park_of (block_of text)
    → (rehearse budget e).out ≡ dispatched_by (block_of text)

-- a run that stands at the park after so many steps, its budget spent, its stack empty and its repeat counter run down
pub record Parked (b : Block) (k : ℕ) (d : Did) : Type 0 where
  pub end : d.end ≡ numbered 40
  pub address : d.state.core.address.0 ≡ park_of b
  pub steps : d.state.core.steps ≡ k
  pub counter : d.state.core.counter ≡ 0
  pub depth : d.state.core.depth ≡ 0
  pub returns : d.state.returns ≡ replicate stack_depth 0
  pub counters : d.state.counters ≡ replicate stack_depth 0
  pub out : d.out ≡ dispatched_by b

-- "with an allowed budget and room for that, the run gets there": after just these steps, and then it stays
abbrev pub BlocksArrive : Type 0
BlocksArrive =
    (wave : ℕ) (text words : List ℕ) → Wrote wave text words
    → (e : Fixed) → RunOf wave words e → length (dispatched_by (block_of text)) ≤ e.room
    → (budget : ℕ) → steps_to (block_of text) ≤ budget → budget ≤ budget_limit
    → Parked (block_of text) (steps_to (block_of text)) (rehearse (steps_to (block_of text)) e) × Parked (block_of text) budget (rehearse budget e)

-- with less budget, room or both: what was dispatched is a beginning of it
abbrev pub BlocksOpen : Type 0
BlocksOpen =
    (wave : ℕ) (text words : List ℕ) → Wrote wave text words
    → (e : Fixed) → RunOf wave words e → (budget : ℕ)
    → (more : List ℕ) × (dispatched_by (block_of text) ≡ (rehearse budget e).out ++ more)
