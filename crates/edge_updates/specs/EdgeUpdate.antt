-- What an update says: its vertex, its neighbour, and whether the edge between them is added.
use Rattle.std.specs.Prelude.{ℕ, ◌/◌, ◌%◌, ◌^◌, ◌==◌, Bool}
use Rattle.edge_updates.specs.declared.edge_update.EdgeUpdate.{EdgeUpdate}

-- the number by which updates are sorted: the vertex times 2 ^ 24, and the neighbour
unfoldable pub key_of : EdgeUpdate → ℕ
key_of u = u.bits / 2 ^ 16

-- the vertex
unfoldable pub vertex_of : EdgeUpdate → ℕ
vertex_of u = key_of u / 2 ^ 24

-- the neighbour
unfoldable pub neighbour_of : EdgeUpdate → ℕ
neighbour_of u = key_of u % 2 ^ 24

-- whether the edge is added
unfoldable pub adds : EdgeUpdate → Bool
adds u = u.bits % 2 == 1
