use Rattle.std.proofs.Common.{◌≡◌, ℕ, ◌<◌, [], length, slice_index_or}
use Rattle.run_records.proofs.rows.have_rows.Given as goal

-- each of the first vectors has an entry for each vertex
abbrev pub invariant-vectors : goal.invariant-vectors
invariant-vectors l = (x : ℕ) → x < l.vector → length (slice_index_or l.vectors.vectors x []) ≡ l.vertices
