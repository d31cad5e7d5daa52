-- Laws of the eight fields: what a wish is answered with, by its tests.
-- Assumes nothing.
use mathlib.Core.Path.{◌≡◌}
use mathlib.Core.Bool.{true, false}
use mathlib.Core.List.{List, [], ◌∷◌}
use Prim.Native.Nat.{ℕ}
use lib.ListN.{get_or, length}
use Rattle.instruction.specs.Bits.{all_fit}
use Rattle.instruction.specs.Table.{engine_select, write_flag}
use Rattle.instruction.specs.declared.Rules.{Rules}
use Rattle.writer.specs.Writing.{not_written, written_of}
use Rattle.aps2_c.specs.Fields.{numbers_of, is_name, filled_past, values_asked, asked, wish_of}

module _ (rules : Rules) (fs : List ℕ) where
  pub wish_past : filled_past false (length (numbers_of (asked fs).body)) 0 (values_asked fs) ≡ true → wish_of rules fs ≡ not_written 23
  unfolding wish_of
  wish_past p = rw p

  pub wish_name : filled_past false (length (numbers_of (asked fs).body)) 0 (values_asked fs) ≡ false → is_name (get_or fs 0 0) ≡ true
      → wish_of rules fs ≡ written_of rules (asked fs)
  unfolding wish_of
  wish_name p n = rw (p, n)

  pub wish_none : filled_past false (length (numbers_of (asked fs).body)) 0 (values_asked fs) ≡ false → is_name (get_or fs 0 0) ≡ false
      → all_fit (engine_select ∷ write_flag ∷ []) (get_or fs 1 0 ∷ get_or fs 2 0 ∷ []) ≡ true → wish_of rules fs ≡ not_written 10
  unfolding wish_of
  wish_none p n h = rw (p, n, h)

  pub wish_wide : filled_past false (length (numbers_of (asked fs).body)) 0 (values_asked fs) ≡ false → is_name (get_or fs 0 0) ≡ false
      → all_fit (engine_select ∷ write_flag ∷ []) (get_or fs 1 0 ∷ get_or fs 2 0 ∷ []) ≡ false → wish_of rules fs ≡ not_written 23
  unfolding wish_of
  wish_wide p n h = rw (p, n, h)
