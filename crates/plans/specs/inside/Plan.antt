-- Beside `Plan`: definitions that no public contract cites.
use Rattle.std.specs.Prelude.{◌≤◌}
use Rattle.algorithm_meaning.specs.declared.state.Depth.{Depth}

-- no more is visible at the first than at the second
pub record IsWithin (d e : Depth) : Type 0 where
  pub integers : d.integers ≤ e.integers
  pub conditions : d.conditions ≤ e.conditions
  pub sets : d.sets ≤ e.sets
