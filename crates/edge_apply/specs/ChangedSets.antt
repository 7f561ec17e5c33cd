-- The form of the set of the vertices that an apply has changed.
use Rattle.std.specs.Prelude.{ℕ, ◌/◌, nat_lt, if◌then◌else◌}
use Rattle.apply_options.specs.declared.apply_schedule.DenseVertexSet.{DenseVertexSet}
use Rattle.apply_options.specs.declared.apply_schedule.DenseVertexSet.TheVariants.{BoolArray, Bitvector}
use Rattle.vertex_sets.specs.declared.form.Form.{Form}
use Rattle.vertex_sets.specs.declared.form.Form.TheVariants.{List, Flags, Bits}

-- of a dense set, by the apply's schedule
abbrev pub dense_form : DenseVertexSet → Form
dense_form BoolArray = Flags
dense_form Bitvector = Bits

-- of so many of n vertices: a list for fewer than one in 16
abbrev pub form_of : (count vertices : ℕ) → DenseVertexSet → Form
form_of count vertices dense = if nat_lt count (vertices / 16) then List else dense_form dense
