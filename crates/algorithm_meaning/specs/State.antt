-- What a run works on, and what it keeps.
use Rattle.std.specs.Prelude.{ℕ, ℤ, Bool, false, List, [], ◌∷◌}
use Rattle.weighted_edges.specs.Edge.{Edge, unit_weight}
use Rattle.algorithm_meaning.specs.declared.state.SetBinding.{SetBinding}

-- the vertices are the numbers below this, and the edges are between them
pub record GraphValue : Type 0 where
  pub vertices : ℕ
  pub edges : List Edge

-- the variables that are visible, by their indices, and the vertices and the weight that a function works on
pub record ScopeValue : Type 0 where
  pub integers : List ℤ
  pub conditions : List Bool
  pub source : ℕ
  pub destination : ℕ
  pub weight : ℤ

-- vectors and vertex sets by their indices, a vector with an entry for each vertex; what was printed; how many turns are left
pub record StateValue : Type 0 where
  pub vectors : List (List ℤ)
  pub sets : List SetBinding
  pub scope : ScopeValue
  pub text : List ℕ
  pub turns : ℕ

-- the scope of main before its first variable
abbrev pub main_scope : ScopeValue
main_scope = record { integers = []; conditions = []; source = 0; destination = 0; weight = unit_weight }

-- the scope in which a vertex function begins at a vertex
abbrev pub vertex_scope : ℕ → ScopeValue
vertex_scope v = record { integers = []; conditions = []; source = v; destination = v; weight = unit_weight }

-- an edge function begins on an edge
abbrev pub edge_scope : Edge → ScopeValue
edge_scope edge = record { integers = []; conditions = []; source = edge.0; destination = edge.1; weight = edge.2 }

-- a filter begins at a vertex, and its result, the first bool variable, is false
abbrev pub filter_scope : ℕ → ScopeValue
filter_scope v = record { integers = []; conditions = false ∷ []; source = v; destination = v; weight = unit_weight }
