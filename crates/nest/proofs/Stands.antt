-- Where a block's words stand: what run and walk need to know of the layout.
-- Assumes nothing.
use Prim.Native.Nat.{ℕ, suc, ◌+◌, ◌-◌, ◌≤◌, ◌<◌}
use mathlib.Core.Path.{◌≡◌}
use mathlib.Core.Logic.{◌⊎◌}
use mathlib.Core.List.{List}
use lib.ListN.{length, get_or}
use Rattle.instruction.specs.Word.{word_of}
use Rattle.instruction.specs.declared.Instruction.{Instruction}
use Rattle.instruction.specs.declared.Body.TheVariants.{Waveform, LoadRepeat, Repeat, Goto, Call, Return, Sync}
use Rattle.nest.specs.Block.{Block, done, pulse, repeat, nest_limit, high, low}
use Rattle.nest.specs.Layout.{size_of, park_of, raised, passed}

-- an instruction's word stands at a place
abbrev pub At : List ℕ → ℕ → Instruction → Type 0
At words p i = (p < length words) × (get_or words p 0 ≡ word_of i)

-- a block's words stand, each at the next place of its level
abbrev pub Stands : List ℕ → Block → ℕ → List ℕ → Type 0
Stands words done level hs = Unit {0}
Stands words (pulse f b) level hs = At words (get_or hs level 0) (high (Waveform f)) × Stands words b level (raised hs level 1)
Stands words (repeat n c b) level hs =
    At words (get_or hs level 0) (low (LoadRepeat (record { 0 = n - 1 })))
    × At words (suc (get_or hs level 0)) (low (Call (record { 0 = get_or hs (suc level) 0 })))
    × At words (suc (suc (get_or hs level 0))) (low (Repeat (record { 0 = get_or hs level 0 + 1 })))
    × Stands words c (suc level) (raised hs level 3)
    × At words (get_or (passed c (suc level) (raised hs level 3)) (suc level) 0) (low (Return (record { 0 = 0 })))
    × Stands words b level (raised (passed c (suc level) (raised hs level 3)) (suc level) 1)

-- a place of a level that a block takes, from the next places before it to those behind it
abbrev pub Among : List ℕ → List ℕ → ℕ → Type 0
Among hs hs' a = (level : ℕ) × (get_or hs level 0 ≤ a) × (a < get_or hs' level 0)

-- the whole sequence of a block; `heads` are the next places behind SYNC
pub record Whole (words : List ℕ) (b : Block) : Type 0 where
  pub size : length words ≡ size_of b
  pub sync : At words 0 (high Sync)
  pub heads : List ℕ
  pub levels : length heads ≡ suc nest_limit
  pub first : get_or heads 0 0 ≡ 1
  pub stands : Stands words b 0 heads
  pub park : At words (park_of b) (low (Goto (record { 0 = park_of b })))
  pub covers : (a : ℕ) → a < size_of b → (a ≡ 0) ⊎ ((a ≡ park_of b) ⊎ Among heads (passed b 0 heads) a)
