-- How many, and then word by word.
use mathlib.Core.Path.{◌≡◌, refl, sym, ap, ◌∙◌}
use Prim.Native.Nat.{ℕ, ◌-◌}
use native.Mathlib.Omega.{arith}
use Rattle.dispatch.specs.Trace.{part}
use Rattle.jumps.specs.State.{fixed_by}
use Rattle.left.specs.Left.{can_all_be_held}
use Rattle.left.proofs.Laws.{group_full, group_more, group_within, group_words}
use Rattle.left.proofs.group_fits.Goals as goal

pub returns-then-held-ge-GROUP : goal.returns-then-held-ge-GROUP
returns-then-held-ge-GROUP c messages room = let a = c.args in
    sym (group_full (fixed_by a.words.now messages room a.setting) a.s c.if-held-ge-GROUP.true)

pub returns-then-s-held : goal.returns-then-s-held
returns-then-s-held c messages room = let a = c.args in
    sym (group_more (fixed_by a.words.now messages room a.setting) a.s c.if-held-ge-GROUP.false c.if-s-held.true)

pub returns : goal.returns
returns c messages room = let a = c.args in
    let e = fixed_by a.words.now messages room a.setting in
    let w = group_within e a.s c.if-s-held.false in
    let same : a.s.address.0 - (a.s.address.0 - a.s.held) ≡ a.s.held = omega (arith, w.1) in
    c.can_all_be_held.ensures a.words.now messages room refl
    ∙ ap (λ (k : ℕ). can_all_be_held e (part (a.s.address.0 - a.s.held) k a.words.now)) same
    ∙ sym (group_words e a.s c.if-held-ge-GROUP.false w.0 w.1)
