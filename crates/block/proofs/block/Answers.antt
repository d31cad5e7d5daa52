-- The length, the lines, the room; then the words.
use mathlib.Core.Path.{refl, ap, ◌∙◌}
use Prim.Native.Nat.{ℕ}
use Rattle.std.proofs.lemmas.Result.{err_from_is_err_and}
use Rattle.text.specs.Told.{refused_at}
use Rattle.block.proofs.Whole.{block_3, block_bad, lay_can, block_done, block_full}
use Rattle.block.proofs.block.Goals as goal

pub returns-then-wave : goal.returns-then-wave
returns-then-wave c = block_3 c.args.wave.0 c.args.text.now c.args.words.now c.if-wave.true (c.refused.ensures ∙ ap (λ (k : ℕ). refused_at k 0) c.number.ensures)

pub returns-in_err-judge : goal.returns-in_err-judge
returns-in_err-judge c =
    let p = err_from_is_err_and c.from_residual.result c.from_residual.ensures.1 in
    rw (p.1, p.2) (block_bad c.args.wave.0 c.args.text.now c.args.words.now c.if-wave.false c.in_err-judge.ensures)

pub returns-in_err-count : goal.returns-in_err-count
returns-in_err-count c =
    let p = err_from_is_err_and c.from_residual-in_err-count.result c.from_residual-in_err-count.ensures.1 in
    rw (p.1, p.2) (block_full c.args.wave.0 c.args.text.now c.args.words.now c.if-wave.false c.in_ok-judge.ensures refl c.stack_levels-size.ensures c.in_err-count.ensures)

pub lay-requires : goal.lay-requires
lay-requires c =
    lay_can c.args.wave.0 c.args.text.now c.args.words.now c.if-wave.false c.in_ok-judge.ensures refl c.stack_levels-size.ensures c.in_ok-count.ensures refl

pub returns : goal.returns
returns c =
    block_done c.args.wave.0 c.args.text.now c.args.words.now c.if-wave.false c.in_ok-judge.ensures refl c.stack_levels-size.ensures c.in_ok-count.ensures refl c.lay.ensures
