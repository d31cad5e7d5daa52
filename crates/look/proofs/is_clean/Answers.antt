-- Each arm tells of the parts that its move has; CALL and RETURN have a fault besides.
use Prim.Native.Nat.{ℕ, ◌*◌, ◌/◌, ◌%◌, ◌^◌}
use mathlib.Core.Path.{◌≡◌, sym, ap, subst, ◌∙◌}
use native.Mathlib.Omega.{arith}
use lib.Dec.{eqb}
use lib.ListN.{get_or}
use Rattle.flow.specs.declared.Move.{Move}
use Rattle.flow.specs.declared.Move.TheVariants.{Enter}
use Rattle.flow.specs.Masks.{jump_of}
use Rattle.flow.proofs.Codes.{goes_on_lem}
use Rattle.look.specs.Closed.{Tells, back_in, fault_in}
use Rattle.look.proofs.Laws.{tells_plain, tells_next, tells_both, tells_return, tells_good, tells_clean, spared}
use Rattle.look.proofs.is_clean.Goals as goal

pub returns-then-goes_on : goal.returns-then-goes_on
returns-then-goes_on c = let s = c.args in
    let e = goes_on_lem (get_or s.words.now s.a 0) (sym c.goes_on.ensures ∙ c.if-goes_on.true) in
    tells_good (tells_plain s.limit s.words.now s.back s.marks.now s.a e c.holds.ensures) (ap (λ (o : Move). fault_in s.limit o (get_or s.marks.now s.a 0)) e)

pub returns-in-Other : goal.returns-in-Other
returns-in-Other c = let s = c.args in
    let m = get_or s.marks.now s.a 0 in
    let f = c.of-f in
    let o = c.at-o.ensures in
    let e = c.in-Other.is in
    tells_good (tells_next s.limit s.words.now s.back s.marks.now s.a _ f.result o f.ensures (ap (λ (o : Move). back_in o m) e) (ap (λ (o : Move). jump_of s.limit o m) e) c.holds-in-Other.ensures) (ap (λ (o : Move). fault_in s.limit o m) (sym o ∙ e))

pub returns-in-Compare : goal.returns-in-Compare
returns-in-Compare c = let s = c.args in
    let m = get_or s.marks.now s.a 0 in
    let f = c.of-f in
    let o = c.at-o.ensures in
    let e = c.in-Compare.is in
    tells_good (tells_next s.limit s.words.now s.back s.marks.now s.a _ f.result o f.ensures (ap (λ (o : Move). back_in o m) e) (ap (λ (o : Move). jump_of s.limit o m) e) c.holds-in-Compare.ensures) (ap (λ (o : Move). fault_in s.limit o m) (sym o ∙ e))

pub returns-in-Jump : goal.returns-in-Jump
returns-in-Jump c = let s = c.args in
    let m = get_or s.marks.now s.a 0 in
    let f = c.of-f in
    let o = c.at-o.ensures in
    let e = c.in-Jump.is in
    tells_good (tells_both s.limit s.words.now s.back s.marks.now s.a _ f.result o f.ensures (ap (λ (o : Move). back_in o m) e) c.both_hold.ensures) (ap (λ (o : Move). fault_in s.limit o m) (sym o ∙ e))

pub returns-in-Enter : goal.returns-in-Enter
returns-in-Enter c = let s = c.args in
    let m = get_or s.marks.now s.a 0 in
    let f = c.of-f in
    let o = c.at-o.ensures in
    let e = c.in-Enter.is in
    tells_clean (tells_both s.limit s.words.now s.back s.marks.now s.a _ f.result o f.ensures (ap (λ (o : Move). back_in o m) e) c.both_hold-in-Enter.ensures)
    (subst (λ (z : Move). Tells (fault_in s.limit z m ≡ 0) (eqb (m / c.at.result % 4) 0)) (sym e ∙ o)
    (subst (λ (y : ℕ). Tells (fault_in s.limit (Enter c.in-Enter.field-0) m ≡ 0) (eqb (m / y % 4) 0)) (sym c.at.ensures) (spared (m / 2 ^ (2 * s.limit) % 4) 31 (λ z. absurd (omega arith)))))

pub returns-in-Leave : goal.returns-in-Leave
returns-in-Leave c = let s = c.args in
    let m = get_or s.marks.now s.a 0 in
    let f = c.of-f in
    let o = c.at-o.ensures in
    let e = c.in-Leave.is in
    tells_clean (tells_return s.limit s.words.now s.back s.marks.now s.a _ f.result o f.ensures c.bare.result (c.bare.ensures ∙ sym (ap (λ (o : Move). back_in o m) e)) (ap (λ (o : Move). jump_of s.limit o m) e) c.holds-in-Leave.ensures)
    (subst (λ (z : Move). Tells (fault_in s.limit z m ≡ 0) (eqb (m % 4) 0)) (sym e ∙ o) (spared (m % 4) 32 (λ z. absurd (omega arith))))

pub returns-in-Loop : goal.returns-in-Loop
returns-in-Loop c = let s = c.args in
    let m = get_or s.marks.now s.a 0 in
    let f = c.of-f in
    let o = c.at-o.ensures in
    let e = c.in-Loop.is in
    tells_good (tells_both s.limit s.words.now s.back s.marks.now s.a _ f.result o f.ensures (ap (λ (o : Move). back_in o m) e) c.both_hold-in-Loop.ensures) (ap (λ (o : Move). fault_in s.limit o m) (sym o ∙ e))
