-- Step by step, as the definition goes.
use Prim.Native.Nat.{◌-◌, ◌+◌, ◌<◌, ◌≤◌}
use mathlib.Core.Path.{sym, ap, ◌∙◌}
use native.Mathlib.Omega.{arith}
use Rattle.label.specs.declared.Key.{Key}
use Rattle.label.specs.Key.{same_key, steps}
use Rattle.label.proofs.Seeks.{place_stop, place_next, place_spent, ends_none, ends_by}
use Rattle.label.proofs.index.place.Goals as goal

pub returns-then-n-at : goal.returns-then-n-at
returns-then-n-at c = let a = c.args in let l = c.loop in place_stop a.keys.now a.table.now a.k (steps - l.counter) l.bits l.others l.slot c.entry-at.result c.entry-at.ensures (ends_none a.keys.now a.table.now a.k c.entry-at.result c.if-n-at.true) ∙ l.invariant

pub returns-then-eq : goal.returns-then-eq
returns-then-eq c = let a = c.args in let l = c.loop in place_stop a.keys.now a.table.now a.k (steps - l.counter) l.bits l.others l.slot c.entry-at.result c.entry-at.ensures (ends_by a.keys.now a.table.now a.k c.entry-at.result c.if-n-at.false (sym c.if-eq.true ∙ c.eq.ensures ∙ ap (λ (x : Key). same_key x a.k) c.key_at-here.ensures)) ∙ l.invariant

pub loop-preserved : goal.loop-preserved
loop-preserved c =
    let a = c.args in
    let l = c.loop in
    let t : l.counter < steps = c.loop-test.true in
    place_next a.keys.now a.table.now a.k (steps - l.counter) (steps - (l.counter + 1)) l.bits l.others l.slot c.entry-at.result (omega arith) c.entry-at.ensures (ends_by a.keys.now a.table.now a.k c.entry-at.result c.if-n-at.false (sym c.if-eq.false ∙ c.eq.ensures ∙ ap (λ (x : Key). same_key x a.k) c.key_at-here.ensures)) ∙ l.invariant

pub returns : goal.returns
returns c = let a = c.args in let l = c.loop in let t : steps ≤ l.counter = c.loop-test.false in place_spent a.keys.now a.table.now a.k (steps - l.counter) l.bits l.others l.slot (omega arith) ∙ l.invariant
