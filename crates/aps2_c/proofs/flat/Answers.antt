-- The end from the front, the state's numbers behind it, and the bit.
use mathlib.Core.Path.{◌≡◌, ◌∙◌}
use mathlib.Core.List.{List, [], ◌∷◌, ◌++◌, append_assoc}
use Prim.Native.Nat.{ℕ}
use native.Mathlib.Omega.{arith}
use lib.ListN.{length, replicate, length-append}
use Rattle.buffer.specs.Put.{Fits}
use Rattle.buffer.proofs.Laws.{fits_first, puts_both}
use Rattle.state_c.specs.Numbers.{numbers_of}
use Rattle.state_c.proofs.Parts.{Long, numbers_length, filled}
use borrow.Author.Rules.{rules}
use Rattle.aps2_c.proofs.flat.Goals as goal

pub returns : goal.returns
returns c =
    let state = c.args.a.state in
    let end : List ℕ = c.args.a.end.number ∷ [] in
    let bit : List ℕ = c.args.a.end.bit ∷ [] in
    let blank : List ℕ = replicate 55 0 in
    let long : Long state = record { returns = search rules; counters = search rules; waits = search rules; totals = search rules } in
    let all : length ((end ++ numbers_of state) ++ bit) ≡ 55 = omega (arith, length-append (end ++ numbers_of state) bit, length-append end (numbers_of state), numbers_length state long) in
    let fit : Fits ((end ++ numbers_of state) ++ bit) blank 0 = omega (arith, all) in
    filled blank ((end ++ numbers_of state) ++ bit) all
    (puts_both (end ++ numbers_of state) bit blank 0 fit (puts_both end (numbers_of state) blank 0 (fits_first (end ++ numbers_of state) bit blank 0 fit) c.lay-at.ensures c.lay_state-at.ensures) c.lay.ensures)
    ∙ append_assoc end (numbers_of state) bit
