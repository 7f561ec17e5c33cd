-- Functions that read entries of the two ends of an edge alone.
use Rattle.std.specs.Prelude.{◌≡◌, ℕ, ℤ, Bool, ◌&&◌, Option, Some, None, List}
use Rattle.std.specs.Borrow.{Bor}
use Rattle.kernels.specs.Local.{is_local_code}
use Rattle.kernels.specs.Value.{entry}
use Rattle.kernels.specs.declared.kernel.EdgeKernel.{EdgeKernel}

-- the code of one kernel, or of two
abbrev pub are_local : EdgeKernel → Option (Bor EdgeKernel) → Bool
are_local first None = is_local_code first.code.items
are_local first (Some second) = is_local_code first.code.items && is_local_code second.now.code.items

-- the vectors have the same entries at a vertex
abbrev pub AgreeAt : (a b : List (List ℤ)) → (v : ℕ) → Type 0
AgreeAt a b v = (x : ℕ) → entry a x v ≡ entry b x v
