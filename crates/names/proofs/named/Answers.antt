-- No other row than the guess can have the name.
use mathlib.Core.Path.{subst, sym, ◌∙◌}
use Prim.Native.Nat.{ℕ, ◌<◌}
use Rattle.names.specs.Names.{name_count}
use Rattle.names.proofs.Rows.{named_short, named_here, guess_not, guess_row, row_told, row_untold}
use Rattle.names.proofs.named.Goals as goal

pub returns-then-text-lt-SHORTEST : goal.returns-then-text-lt-SHORTEST
returns-then-text-lt-SHORTEST c = row_untold _ (named_short _ c.if-text-lt-SHORTEST.true)

pub returns-then-is_name : goal.returns-then-is_name
returns-then-is_name c =
    let l = subst (λ (n : ℕ). n < name_count) (sym c.guess-row.ensures) (guess_row _ _) in
    row_told _ l (named_here _ _ l (sym c.is_name.ensures ∙ c.if-is_name.true))

pub returns : goal.returns
returns c = row_untold _ (guess_not _ c.guess-row.ensures (sym c.is_name.ensures ∙ c.if-is_name.false))
