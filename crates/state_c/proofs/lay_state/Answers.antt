-- After each part that is laid, all parts up to it stand there, one behind the other; the last one makes them whole.
use mathlib.Core.Path.{subst}
use mathlib.Core.List.{List, [], ◌∷◌}
use Prim.Native.Nat.{ℕ}
use Rattle.buffer.specs.Put.{Put}
use Rattle.buffer.proofs.Laws.{puts_both}
use Rattle.state_c.proofs.Parts.{first, middle, with_waits, with_totals, with_middle, with_returns, whole_is, waits_fit, totals_fit, middle_fit, returns_fit, whole_fit}
use Rattle.state_c.proofs.lay_state.Goals as goal

pub returns : goal.returns
returns c =
    let s = c.args.s in
    let b = c.args.out.now in
    let a = c.args.at in
    let laid-2 = puts_both (first s) s.waits b a (waits_fit s b a c.requires) c.lay-place.ensures c.lay-place-2.ensures in
    let laid-3 = puts_both (with_waits s) s.totals b a (totals_fit s b a c.requires) laid-2 c.lay-place-3.ensures in
    let laid-4 = puts_both (with_totals s) (middle s) b a (middle_fit s b a c.requires) laid-3
    (subst (λ (n : ℕ). Put (s.core.counter ∷ s.core.register ∷ n ∷ s.core.held ∷ s.core.depth ∷ []) c.lay-place-3.new.out c.lay-place-3.result c.lay-place-4.new.out c.lay-place-4.result) c.condition_of-number.ensures c.lay-place-4.ensures) in
    let laid-5 = puts_both (with_middle s) s.returns b a (returns_fit s b a c.requires) laid-4 c.lay-place-5.ensures in
    subst (λ (xs : List ℕ). Put xs b a c.lay.new.out c.lay.result) (whole_is s) (puts_both (with_returns s) s.counters b a (whole_fit s b a c.requires) laid-5 c.lay.ensures)
