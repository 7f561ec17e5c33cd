-- Vertices of a block that a filter lets through, and ascending lists.
use Rattle.std.specs.Prelude.{ℕ, ◌+◌, List, [], ◌∷◌, if◌then◌else◌}
use Rattle.kernels.specs.declared.block.Block.{Block}
use Rattle.kernels.specs.Kernels.{passes_at}

-- of these vertices, the first of which is at an index of a block, those that the filter that ran there lets through
abbrev pub passing : Block → (index : ℕ) → List ℕ → List ℕ
passing block index [] = []
passing block index (v ∷ vs) = if passes_at block index then v ∷ passing block (index + 1) vs else passing block (index + 1) vs
