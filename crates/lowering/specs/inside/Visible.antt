-- Variables and sets that are visible at a statement.
use Rattle.std.specs.Prelude.{vec_len}
use Rattle.algorithm_meaning.specs.declared.state.Depth.{Depth}
use Rattle.lowering.specs.declared.visible.Visible.{Visible}

-- how many of each kind
abbrev pub depth_of : Visible → Depth
depth_of v = record { integers = vec_len v.integers; conditions = vec_len v.conditions; sets = vec_len v.sets }
