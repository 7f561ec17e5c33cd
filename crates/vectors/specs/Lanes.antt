-- One vector of a run, as it is read.
use Rattle.std.specs.Prelude.{ℕ, ◌+◌, ◌*◌, ℤ, pos, nat_lt, if◌then◌else◌, slice_index_or}
use Rattle.vectors.specs.declared.lane.Lane.{Lane}

-- the entry at a vertex, 0 where there is none
abbrev pub lane_entry : Lane → ℕ → ℤ
lane_entry l v = if nat_lt v l.vertices then slice_index_or l.numbers.now (v * l.stride + l.first) (pos 0) else pos 0
