-- The state's numbers from the front, and the last two behind them.
use mathlib.Core.Path.{◌≡◌}
use mathlib.Core.List.{List, [], ◌∷◌, ◌++◌}
use Prim.Native.Nat.{ℕ}
use native.Mathlib.Omega.{arith}
use lib.ListN.{length, replicate, length-append}
use Rattle.buffer.specs.Put.{Fits}
use Rattle.buffer.proofs.Laws.{puts_both}
use Rattle.state_c.specs.Numbers.{numbers_of}
use Rattle.state_c.proofs.Parts.{Long, numbers_length, filled}
use borrow.Author.Rules.{rules}
use Rattle.state_c.proofs.held_numbers.Goals as goal

pub returns : goal.returns
returns c =
    let s = c.args.p.state in
    let last : List ℕ = c.args.p.budget ∷ c.args.p.triggers ∷ [] in
    let long : Long s = record { returns = search rules; counters = search rules; waits = search rules; totals = search rules } in
    let all : length (numbers_of s ++ last) ≡ 55 = omega (arith, length-append (numbers_of s) last, numbers_length s long) in
    let fit : Fits (numbers_of s ++ last) (replicate 55 0) 0 = omega (arith, all) in
    filled (replicate 55 0) (numbers_of s ++ last) all (puts_both (numbers_of s) last (replicate 55 0) 0 fit c.lay_state-at.ensures c.lay.ensures)
