-- The words that were passed can be held, so the group can be where the rest of it can.
use mathlib.Core.Path.{◌≡◌}
use mathlib.Core.List.{List}
use Prim.Native.Nat.{ℕ}
use lib.ListN.{length, drop}
use Rattle.jumps.specs.State.{fixed_by}
use Rattle.left.specs.Left.{can_all_be_held}
use Rattle.left.proofs.can_all_be_held.Given as goal

abbrev pub invariant-loop-word : goal.invariant-loop-word
invariant-loop-word l = (words messages : List ℕ) (room : ℕ) → length words ≡ l.n → can_all_be_held (fixed_by words messages room l.setting) l.group ≡ can_all_be_held (fixed_by words messages room l.setting) (drop l.word-index l.group)
