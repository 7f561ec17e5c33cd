-- The program of a number.
use Rattle.std.proofs.Common.{◌≡◌, ℕ, zero, suc, ◌<◌, length, List, [], ◌∷◌, refl, Some, arith}
use Rattle.std.specs.List.{slice_get}
use Rattle.algorithm_meaning.specs.ProgramTree.{ProgramTree}

-- at each index within is a program
pub is_at : (programs : List ProgramTree) (index : ℕ) → index < length programs → (program : ProgramTree) × (slice_get programs index ≡ Some program)
is_at [] index within = absurd (omega arith)
is_at (program ∷ programs) zero within = (program, refl)
is_at (program ∷ programs) (suc index) within = is_at programs index (omega arith)
