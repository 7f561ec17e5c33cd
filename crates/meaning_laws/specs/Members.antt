-- Vertex sets and the ends of applies, in the words of the language.
use Rattle.std.specs.Prelude.{◌≡◌, ℕ, ◌<◌, List, Option, Some, None, All, Contains, true, slice_get}
use Rattle.std.specs.List.Sorted.{IsStrictlyIncreasing}
use Rattle.typed_tree.specs.declared.statement.VertexFilter.{VertexFilter}
use Rattle.typed_tree.specs.declared.statement.VertexFilter.TheVariants.{Members, Function}
use Rattle.typed_tree.specs.FunctionStatementTree.{FunctionTree}
use Rattle.algorithm_meaning.specs.State.{GraphValue, StateValue}
use Rattle.algorithm_meaning.specs.Value.{members_of}
use Rattle.algorithm_meaning.specs.Function.{steps_of, result_of}

-- the numbers are vertices, each once and in ascending order
pub record AreVertices (vertices : ℕ) (members : List ℕ) : Type 0 where
  pub ascending : IsStrictlyIncreasing members
  pub below : All (λ v. v < vertices) members

-- an end of an apply lets the vertex through: it is not given, or the vertex is a member of its set, or the result of its filter is true
abbrev pub LetsThrough : List FunctionTree → StateValue → Option VertexFilter → ℕ → Type 0
LetsThrough filters s None v = Unit {0}
LetsThrough filters s (Some (Members slot)) v = Contains (members_of (slice_get s.sets slot.index)) v
LetsThrough filters s (Some (Function function)) v = result_of (steps_of (slice_get filters function)) s.sets s.vectors v ≡ true

-- the number is a vertex of the graph that the end lets through
pub record IsEndOf (filters : List FunctionTree) (g : GraphValue) (s : StateValue) (filter : Option VertexFilter) (v : ℕ) : Type 0 where
  pub vertex : v < g.vertices
  pub passes : LetsThrough filters s filter v
