-- Vertices whose lists are in a page or by themselves.
use Rattle.std.specs.Prelude.{◌≡◌, ℕ, ◌<◌, ◌⊎◌, Option, [], ◌++◌, length, IfSome}
use Rattle.pages.specs.Vertices.{neighbours_of, IsPage}
use Rattle.pages.specs.inside.Built.{built}
use Rattle.vertex_blocks.specs.Blocks.{Block, IsBlock, vertices_at, edge_total}

-- the vertices of a page and those of long lists together
unfoldable pub joined : Block → Block → Block
joined page long = built (λ u. neighbours_of u page ++ neighbours_of u long) 64

-- no vertex is in both
abbrev pub AreApart : Block → Block → Type 0
AreApart page long = (u : ℕ) → u < 64 → (neighbours_of u page ≡ []) ⊎ (neighbours_of u long ≡ [])

-- The block b is a page and long lists.
pub record IsMadeOf (b p s : Block) : Type 0 where
  pub lists : (u : ℕ) → u < 64 → neighbours_of u b ≡ neighbours_of u p ++ neighbours_of u s
  pub block : IsBlock b
  pub page : IsPage p
  pub long : IsBlock s
  pub apart : AreApart p s

-- A page and long lists may be joined, and have so many neighbours.
pub record CanJoin (p s : Block) (n : ℕ) : Type 0 where
  pub page : IsPage p
  pub long : IsBlock s
  pub apart : AreApart p s
  pub count : n ≡ edge_total (joined p s)

-- The block b is a page and long lists, and there is none where they are empty.
pub record IsBlockOf (p s : Block) (b : Option Block) : Type 0 where
  pub lists : (u : ℕ) → u < 64 → neighbours_of u (vertices_at b) ≡ neighbours_of u p ++ neighbours_of u s
  pub block : IfSome b IsBlock
  pub some : IfSome b (λ es. 0 < length es)
