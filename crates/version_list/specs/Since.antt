-- The batches since a version, and whether the edges that they name can be listed.
use Rattle.std.specs.Prelude.{ℕ, ◌+◌, nat_le, nat_lt, Bool, not, ◌&&◌, List, [], ◌∷◌, length, drop}
use Rattle.std.specs.List.{list_any}
use Rattle.tree_batch.specs.declared.batch.Entry.{Entry}
use Rattle.tree_batch.specs.Edge.{vertices_after}
use Rattle.version_list.specs.Machine.{State, newest_number}
use Rattle.version_list.specs.Timeline.{Timeline}

-- the batches that made the versions after version k
abbrev pub batches_since : State → ℕ → List (List Entry)
batches_since s k = drop k s.batches

-- whether a batch asks for a number of vertices
abbrev pub grows : List Entry → Bool
grows batch = nat_lt 0 (vertices_after 0 batch)

-- how many entries batches have
abbrev pub entry_count : List (List Entry) → ℕ
entry_count [] = 0
entry_count (batch ∷ batches) = length batch + entry_count batches

-- whether no batch asks for a number of vertices, and all have at most so many entries
abbrev pub are_listable : ℕ → List (List Entry) → Bool
are_listable most batches = not (list_any grows batches) && nat_le (entry_count batches) most

-- whether the history has all batches since version k, which is no later than the newest, and their edges can be listed
abbrev pub lists_since : Timeline → (k most : ℕ) → Bool
lists_since t k most = nat_le (newest_number t.base) k && (nat_le k (newest_number t.state) && are_listable most (batches_since t.state k))
