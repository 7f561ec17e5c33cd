-- How many numbers the pieces of an apply have gathered.
use Rattle.std.specs.Prelude.{ℕ, List, length}
use Rattle.std.specs.List.{sum_by}
use Rattle.crew.specs.declared.piece_results.Found.{Found}
use Rattle.edge_fold.specs.declared.gathered.Gathered.{Gathered}
use Rattle.edge_fold.specs.declared.gathered.GatheredIn.{GatheredIn}

-- for all vectors
abbrev pub numbers_for : List GatheredIn → ℕ
numbers_for vectors = sum_by (λ g. length g.numbers.items) vectors

-- of all pieces
abbrev pub numbers_found : List (Found Gathered) → ℕ
numbers_found found = sum_by (λ f. numbers_for f.out.vectors.items) found
