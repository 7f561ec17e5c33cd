-- The state of a run.
use Rattle.std.specs.Prelude.{◌≡◌, ℕ, ◌<◌, ℤ, List, [], length, map, slice_get, slice_index_or}
use Rattle.weighted_edges.specs.Edge.{unit_weight}
use Rattle.typed_tree.specs.declared.program.Vector.{Vector}
use Rattle.algorithm_meaning.specs.State.{GraphValue, StateValue, main_scope}
use Rattle.algorithm_meaning.specs.Value.{members_of}
use Rattle.algorithm_meaning.specs.Meaning.{full_set, initial_entries}
use Rattle.flat_snapshot.specs.Digraph.{Digraph}
use Rattle.vectors.specs.Vectors.{IsGrouping}
use Rattle.vertex_sets.specs.VertexSet.{IsAscendingBelow}

-- what a run keeps: how many vertices there are, the groups of vectors that stand side by side, each by the indices of its
-- vectors, and the state of main
pub record RunState : Type 0 where
  pub vertices : ℕ
  pub groups : List (List ℕ)
  pub state : StateValue

abbrev pub with_state : RunState → StateValue → RunState
with_state r s = record r { state = s }

-- each vector has an entry for each vertex, the members of each set are ascending vertices, and main works on no edge
pub record IsRunState (r : RunState) : Type 0 where
  pub vectors : (x : ℕ) → x < length r.state.vectors → length (slice_index_or r.state.vectors x []) ≡ r.vertices
  pub sets : (index : ℕ) → IsAscendingBelow r.vertices (members_of (slice_get r.state.sets index))
  pub source : r.state.scope.source ≡ 0
  pub destination : r.state.scope.destination ≡ 0
  pub weight : r.state.scope.weight ≡ unit_weight

-- a graph as the meaning has it
abbrev pub graph_value : Digraph → GraphValue
graph_value d = record { vertices = d.vertices; edges = d.edges }

-- what the vectors begin with
abbrev pub opened_vectors : Digraph → List Vector → List (List ℤ)
opened_vectors d vectors = map (λ v. initial_entries (graph_value d) v.beginning) vectors

-- the state before the first statement, with these vectors and constant sets
abbrev pub opened : Digraph → List Vector → (sets : List ℕ) → (turns : ℕ) → StateValue
opened d vectors sets turns = record {
  vectors = opened_vectors d vectors;
  sets = map (full_set (graph_value d)) sets;
  scope = main_scope;
  text = [];
  turns = turns;
}

-- if the requested groups fit the vectors, the groups are these; otherwise there are none
pub record AreGroups (vectors : List (List ℤ)) (asked groups : List (List ℕ)) : Type 0 where
  pub fit : IsGrouping vectors asked → groups ≡ asked
  pub others : (groups ≡ asked → ⊥) → groups ≡ []
