-- A row that there is not is no jump's.
use mathlib.Core.Path.{ap, sym, ◌∙◌}
use Rattle.names.proofs.Rows.{row_some, row_none}
use Rattle.editions.specs.Editions.{jumps}
use Rattle.editions.proofs.Two.{not_jump}
use Rattle.editions.proofs.names_jump.Goals as goal

pub returns-in-Some : goal.returns-in-Some
returns-in-Some c = c.is_jump.ensures ∙ ap jumps (row_some _ c.in-Some.ensures).0

pub returns-in-None : goal.returns-in-None
returns-in-None c = sym (not_jump _ (row_none _ c.in-None.ensures))
