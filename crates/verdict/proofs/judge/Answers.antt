-- The first fault; and past the end by what the last word leads to.
use Prim.Native.Nat.{ℕ, ◌-◌, ◌<◌}
use mathlib.Core.Path.{sym, ap, subst, ◌∙◌}
use native.Mathlib.Omega.{arith}
use lib.ListN.{length, get_or}
use Rattle.flow.specs.declared.Move.{Move}
use Rattle.flow.specs.Masks.{next_of}
use Rattle.flow.specs.Walk.{Fault}
use Rattle.look.specs.Closed.{fault_in}
use Rattle.verdict.specs.Flow.{sound, faulty}
use Rattle.verdict.proofs.Laws.{is_fault, before_first, lowest, on_past, all_sound}
use Rattle.verdict.proofs.judge.Goals as goal

pub returns-then-a-n : goal.returns-then-a-n
returns-then-a-n c = let lim = c.args.limit in
    let ws = c.args.words.now in
    let ms = c.args.marks.now in
    let a = c.args.seen.faulty.0 in
    let l : a < length ws = c.if-a-n.true in
    let e = c.fault_of.ensures ∙ ap (λ (z : Move). fault_in lim z (get_or ms a 0)) c.at.ensures in
    rw (c.numbered.ensures, c.told.ensures) (faulty
    (subst (λ (z : ℕ). Fault lim ws z a) (sym e) (is_fault lim ws ms c.requires.exact a l (c.requires.fault.here l).1))
    (lowest lim ws a (λ j b h x. before_first lim ws ms c.requires.exact c.requires.fault j b (omega (arith, h, l)) h x)))

pub returns-then-x-ne0 : goal.returns-then-x-ne0
returns-then-x-ne0 c = let lim = c.args.limit in
    let ws = c.args.words.now in
    let ms = c.args.marks.now in
    let r = c.args.seen.back in
    let z = length ws - 1 in
    let e = c.of-f.ensures.next ∙ ap (λ (y : Move). next_of y (get_or ms z 0) r) c.at-2.ensures in
    let p = c.requires.some in
    let n = c.if-a-n.false in
    let none : (j b : ℕ) → b < length ws → Fault lim ws j b → ⊥ = λ j b h x. before_first lim ws ms c.requires.exact c.requires.fault j b h (omega (arith, h, n)) x in
    rw (c.numbered-then-x-ne0.ensures, c.number.ensures) (faulty (on_past lim ws ms r z c.requires.exact c.requires.returns c.requires.targets (omega arith) c.requires.fits.limit (λ y. c.if-x-ne0.true (e ∙ y))) (lowest lim ws (length ws) none))

pub returns : goal.returns
returns c = let lim = c.args.limit in
    let ws = c.args.words.now in
    let ms = c.args.marks.now in
    let r = c.args.seen.back in
    let z = length ws - 1 in
    let e = c.of-f.ensures.next ∙ ap (λ (y : Move). next_of y (get_or ms z 0) r) c.at-2.ensures in
    let p = c.requires.some in
    let n = c.if-a-n.false in
    let none : (j b : ℕ) → b < length ws → Fault lim ws j b → ⊥ = λ j b h x. before_first lim ws ms c.requires.exact c.requires.fault j b h (omega (arith, h, n)) x in
    rw c.numbered-2.ensures (sound (all_sound lim ws ms r z c.requires.exact c.requires.returns c.requires.targets (omega arith) c.requires.fits.limit none (sym e ∙ c.if-x-ne0.false)))
