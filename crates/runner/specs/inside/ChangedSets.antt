-- The form of the set of the vertices that an apply has changed.
use Rattle.std.specs.Prelude.{Option, Some, None}
use Rattle.apply_options.specs.declared.apply_schedule.DenseVertexSet.{DenseVertexSet}
use Rattle.apply_options.specs.declared.apply_schedule.DenseVertexSet.TheVariants.{BoolArray}
use Rattle.apply_options.specs.declared.apply_schedule.ApplySchedule.{ApplySchedule}

-- how dense sets are kept: flags, if the schedule says nothing
abbrev pub dense_or_flags : Option DenseVertexSet → DenseVertexSet
dense_or_flags None = BoolArray
dense_or_flags (Some dense) = dense

abbrev pub dense_vertex_set_or_flags : ApplySchedule → DenseVertexSet
dense_vertex_set_or_flags apply_schedule = dense_or_flags apply_schedule.dense_vertex_set
