-- Beside `Blocks`: definitions that no public contract cites.
use Rattle.std.specs.Prelude.{[], ℕ, nat_lt, if◌then◌else◌, ◌∷◌}
use Rattle.vertex_blocks.specs.Blocks.{Block}

-- the vertices from a number on
abbrev pub vertices_from : ℕ → Block → Block
vertices_from u [] = []
vertices_from u (e ∷ es) = if nat_lt e.0 u then vertices_from u es else e ∷ es
