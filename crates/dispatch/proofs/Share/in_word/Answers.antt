-- Of what the word spells.
use mathlib.Core.Path.{sym, subst}
use Prim.Native.Nat.{◌^◌, ◌<◌}
use Rattle.instruction.specs.Bits.{span}
use Rattle.instruction.specs.Table.{engine_select}
use Rattle.instruction.specs.declared.Instruction.{Instruction}
use Rattle.dispatch.specs.Counting.{count_in}
use Rattle.dispatch.proofs.Counts.{spelled_engine, spelled_count}
use Rattle.dispatch.proofs.Share.in_word.Goals as goal

pub of-requires : goal.of-requires
of-requires c = subst (λ (i : Instruction). (i.engine < span engine_select) × (count_in i.body < 2 ^ 32)) (sym c.spelled_by.ensures)
    (spelled_engine c.args.word, spelled_count c.args.word)
