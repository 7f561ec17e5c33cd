-- Independence of an edge apply from a vertex set, looked at as the code does.
use Rattle.std.specs.Prelude.{ℕ, Bool, ◌&&◌, List, [], ◌∷◌, Option, Some, None}
use Rattle.typed_tree.specs.Independence.{are_apart}
use Rattle.typed_tree.specs.ProgramTree.{ProgramTree}
use Rattle.plans.specs.Fusing.{EdgeApplyTree, end_sets, function_sizes}

-- the indices of sets, of which there is one or none
abbrev pub listed : Option ℕ → List ℕ
listed None = []
listed (Some set) = set ∷ []

-- neither end, and not the function, depends on the set at this index
abbrev pub edges_omit : ℕ → ProgramTree → EdgeApplyTree → Bool
edges_omit set p x =
    (are_apart (end_sets p.filters x.ends.from) (set ∷ []) && are_apart (end_sets p.filters x.ends.to) (set ∷ []))
    && are_apart (function_sizes p.edge_functions x.part.function) (set ∷ [])
