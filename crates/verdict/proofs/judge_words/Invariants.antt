-- All words below a pass.
use Prim.Native.Nat.{ℕ, ◌<◌}
use Rattle.verdict.specs.Words.{Passes}
use Rattle.verdict.proofs.judge_words.Given as goal

abbrev pub invariant-loop-a : goal.invariant-loop-a
invariant-loop-a l = (b : ℕ) → b < l.a → Passes l.rules l.wave.0 l.words b
