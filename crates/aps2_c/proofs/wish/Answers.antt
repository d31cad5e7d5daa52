-- Each return is where the tests before it failed and its own held.
use mathlib.Core.Path.{◌≡◌, sym, ap, ◌∙◌}
use mathlib.Core.List.{List}
use mathlib.Core.Bool.{Bool, false}
use Prim.Native.Nat.{ℕ}
use lib.ListN.{get_or, length}
use Rattle.instruction.specs.declared.Body.{Body}
use Rattle.writer.specs.Writing.{written_of}
use Rattle.aps2_c.specs.Fields.{numbers_of, filled_past, values_asked, asked}
use Rattle.aps2_c.proofs.Laws.{wish_past, wish_name, wish_none, wish_wide}
use Rattle.aps2_c.proofs.wish.Goals as goal

-- the fields lent, where the last of them was judged
past : (fs : List ℕ) (n : ℕ) (b : Body) (r : Bool) → n ≡ length (numbers_of b) → b ≡ (asked fs).body → r ≡ filled_past false n 0 (values_asked fs)
    → filled_past false (length (numbers_of (asked fs).body)) 0 (values_asked fs) ≡ r
past fs n b r counted named is = ap (λ (k : ℕ). filled_past false k 0 (values_asked fs)) (sym (counted ∙ ap (λ (x : Body). length (numbers_of x)) named)) ∙ sym is

pub returns-then-filled_past : goal.returns-then-filled_past
returns-then-filled_past c =
    let fs = c.args.fields.now in
    sym (wish_past c.args.rules fs (past fs _ _ _ c.shown_count.ensures c.body_of-body.ensures c.filled_past.ensures ∙ c.if-filled_past.true))

pub returns-then-is_name : goal.returns-then-is_name
returns-then-is_name c =
    let fs = c.args.fields.now in
    c.write.ensures
    ∙ ap (λ (b : Body). written_of c.args.rules (record { engine = get_or fs 1 0; write = get_or fs 2 0; body = b })) c.body_of-body.ensures
    ∙ sym (wish_name c.args.rules fs (past fs _ _ _ c.shown_count.ensures c.body_of-body.ensures c.filled_past.ensures ∙ c.if-filled_past.false) (sym c.is_name.ensures ∙ c.if-is_name.true))

pub returns-then-header_fits : goal.returns-then-header_fits
returns-then-header_fits c =
    let fs = c.args.fields.now in
    sym (wish_none c.args.rules fs (past fs _ _ _ c.shown_count.ensures c.body_of-body.ensures c.filled_past.ensures ∙ c.if-filled_past.false)
    (sym c.is_name.ensures ∙ c.if-is_name.false)
    (sym c.header_fits.ensures ∙ c.if-header_fits.true))

pub returns : goal.returns
returns c =
    let fs = c.args.fields.now in
    sym (wish_wide c.args.rules fs (past fs _ _ _ c.shown_count.ensures c.body_of-body.ensures c.filled_past.ensures ∙ c.if-filled_past.false)
    (sym c.is_name.ensures ∙ c.if-is_name.false)
    (sym c.header_fits.ensures ∙ c.if-header_fits.false))
