-- Cleared, with the start marked, the marks can settle.
use Prim.Native.Nat.{ℕ, ◌/◌, ◌%◌}
use mathlib.Core.Path.{◌≡◌, ap, subst, sym, ◌∙◌}
use mathlib.Core.List.{List, ◌++◌}
use native.Mathlib.Omega.{arith}
use lib.ListN.{length, drop, set, length-set, length-append, length-drop}
use lib.Seq.{get_or-set_same}
use Rattle.std.proofs.lemmas.List.{length-take-le}
use Rattle.walk.specs.Loops.{Cleared}
use Rattle.walk.proofs.Laws.{begun, cleared}
use Rattle.walk.proofs.walk.Goals as goal

pub settle-requires : goal.settle-requires
settle-requires c =
    let ws = c.args.words.now in
    let ms = c.args.marks.now in
    let ns = c.fill.new.self ++ drop (length ws) ms in
    let p = c.requires in
    let g : Cleared (length ws) ms ns = subst (λ (l : List ℕ). Cleared (length ws) ms (l ++ drop (length ws) ms)) (sym (c.fill.ensures.after (λ y h. h))) (cleared (length ws) ms (length-take-le (length ws) ms p.0.marks)) in
    let e : length ns ≡ length ms = length-append c.fill.new.self (drop (length ws) ms) ∙ omega (arith, c.fill.ensures.len, length-drop (length ws) ms, length-take-le (length ws) ms p.0.marks, p.0.marks) in
    let z : length (set ns 0 1) ≡ length ns = length-set ns 0 1 in
    record {
      fits = record { marks = omega arith; room = omega arith; limit = p.0.limit };
      some = p.1;
      sound = begun c.args.limit ws ms ns (omega arith) p.1 g;
      start = ap (λ (y : ℕ). y / 1 % 2) (get_or-set_same ns 0 1 0 (omega arith));
    }
