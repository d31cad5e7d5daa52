-- What a core must be like so that one more step still counts and no index is out of range: what its functions ask.
-- It follows from what every state of a run keeps (`Good`, crate machine).
use Rattle.std.specs.Prelude.{◌^◌, ◌≤◌, ◌<◌}
use Rattle.sequence.specs.Bounds.{stack_depth, budget_limit, group_size}
use Rattle.jumps.specs.declared.Core.{Core}

pub record Counts (c : Core) : Type 0 where
  pub address : c.address.0 < 2 ^ 63
  pub steps : c.steps < budget_limit

pub record CanHold (c : Core) : Type 0 where
  pub counts : Counts c
  pub held : c.held < group_size

pub record CanReturn (c : Core) : Type 0 where
  pub counts : Counts c
  pub depth : c.depth ≤ stack_depth
