-- What a word adds to the counts, as the code works it out before it counts. It only carries the code: Engines says what is counted.
use Rattle.std.specs.Prelude.{ℕ, ◌^◌, ◌≤◌, ◌<◌, Bool, false, ◌≡◌, List, eqb}
use Rattle.instruction.specs.Bits.{pick}
use Rattle.instruction.specs.Table.{code_of}
use Rattle.instruction.specs.declared.Instruction.{Instruction}
use Rattle.instruction.specs.declared.Body.{Body}
use Rattle.instruction.specs.declared.Body.TheVariants.{Wait}
use Rattle.sequence.specs.Placing.{on_engine}
use Rattle.dispatch.specs.Engines.{engine_count, engine_of, waits_for, plays_for, add_to, plus_one}
use Rattle.dispatch.specs.declared.Share.{Share}

-- the count in an engine word, whatever its op makes of it
abbrev pub count_in : Body → ℕ
count_in = on_engine (λ f. f.count.0) (λ f. f.count.0) (λ f. f.payload) 0

-- what an engine word adds to its engine's counts, and what any instruction adds
abbrev pub share_of : ℕ → Bool → Bool → ℕ → Share
share_of engine awaits isPlay count = record { engine = engine; waits = pick awaits 1 0; plays = record { 0 = pick isPlay count 0 }; all = false }

abbrev pub share_in : Instruction → Share
share_in i = record { engine = engine_of i; waits = waits_for i.body; plays = record { 0 = plays_for i.body }; all = eqb (code_of i.body) (code_of Wait) }

-- no word adds more than this
pub record Small (share : Share) : Type 0 where
  pub engine : share.engine < engine_count
  pub waits : share.waits ≤ 1
  pub plays : share.plays.0 ≤ 2 ^ 32

-- what one word adds is counted
pub record CountedOne (share : Share) (ws ts ws' ts' : List ℕ) : Type 0 where
  pub waits : ws' ≡ pick share.all (plus_one ws) (add_to ws share.engine share.waits)
  pub totals : ts' ≡ add_to ts share.engine share.plays.0
