-- By what the word reads as.
use mathlib.Core.Path.{sym, ap, ◌∙◌}
use Prim.Native.Nat.{ℕ}
use mathlib.Core.Bool.{Bool, ◌&&◌}
use lib.Dec.{eqb}
use Rattle.sequence.proofs.Laws.{place_none}
use Rattle.reader.proofs.Coarse.{put_together}
use Rattle.sequence.specs.Placing.{placing_of}
use Rattle.jumps.specs.State.{fixed_by}
use Rattle.left.proofs.Laws.{held_accepted, held_refused}
use Rattle.left.proofs.can_be_held.Goals as goal

pub returns-in-Ok : goal.returns-in-Ok
returns-in-Ok c words messages room n = let a = c.args in
    ap (λ (b : Bool). c.is_engine.result && eqb c.in-Ok.i.write 0 && b) (c.is_ok.ensures.value ∙ place_none _) ∙ held_accepted (fixed_by words messages room a.setting) _ c.in-Ok.i (sym (put_together _ _ c.judged_by.ensures c.coarse_of.ensures c.instruction_in.ensures) ∙ c.in-Ok.is) _ c.is_engine.ensures _ (c.placing.ensures ∙ ap (λ (k : ℕ). placing_of a.setting.wave.0 k c.in-Ok.i.body) (sym n))

pub returns-in-Err : goal.returns-in-Err
returns-in-Err c words messages room n = let a = c.args in
    held_refused (fixed_by words messages room a.setting) _ _ (sym (put_together _ _ c.judged_by.ensures c.coarse_of.ensures c.instruction_in.ensures) ∙ c.in-Err.is)
