-- Vertex sets with their names and sizes, and how a run's state lies in memory.
use Rattle.std.specs.Prelude.{◌≡◌, ℕ, ℤ, Bool, List, [], ◌∷◌, length, map, replicate, slice_get, take}
use Rattle.std.specs.Int.{cast_signed, w64}
use Rattle.weighted_edges.specs.Edge.{unit_weight}
use Rattle.algorithm_meaning.specs.State.{StateValue, main_scope}
use Rattle.algorithm_meaning.specs.Value.{members_of}
use Rattle.vertex_sets.specs.VertexSet.{IsAscendingBelow, VertexSubset}
use Rattle.vectors.specs.Vectors.{VectorsValue}
use Rattle.run_state.specs.State.{RunState}

-- a state with nothing in it
abbrev pub nothing : StateValue
nothing = record { vectors = []; sets = []; scope = main_scope; text = []; turns = 0 }

-- vertex sets of n vertices, and nothing else
abbrev pub sets_alone : (vertices : ℕ) → StateValue → RunState
sets_alone vertices s = record { vertices = vertices; groups = []; state = s }

-- a state with one more set, the first
abbrev pub with_first_set : ℕ → List ℕ → StateValue → StateValue
with_first_set name members s = record s { sets = record { name = name; members = members } ∷ s.sets }

-- a state of sets alone: each name with the members of the set at its index
abbrev pub named : (names : List ℕ) → List VertexSubset → StateValue
named [] sets = nothing
named (name ∷ names) [] = nothing
named (name ∷ names) (set ∷ sets) = with_first_set name set.members (named names sets)

abbrev pub with_first_sets : ℕ → StateValue → StateValue
with_first_sets count s = record s { sets = take count s.sets }

-- the size of a set, as an int
abbrev pub size_of : List ℕ → ℤ
size_of members = cast_signed w64 (length members)

abbrev pub sizes_of : StateValue → List ℤ
sizes_of s = map (λ set. size_of set.members) s.sets

-- the members of each set are ascending vertices
abbrev pub AreAscending : RunState → Type 0
AreAscending r = (index : ℕ) → IsAscendingBelow r.vertices (members_of (slice_get r.state.sets index))

-- sets of n vertices
abbrev pub AreSetsOf : ℕ → List VertexSubset → Type 0
AreSetsOf vertices [] = Unit {0}
AreSetsOf vertices (set ∷ sets) = (set.vertices ≡ vertices) × IsAscendingBelow vertices set.members × AreSetsOf vertices sets

-- there is a name, a set and its size at each index
pub record AreNamed (vertices : ℕ) (names : List ℕ) (sets : List VertexSubset) (sizes : List ℤ) : Type 0 where
  pub count : length names ≡ length sets
  pub measured : sizes ≡ map (λ (set : VertexSubset). size_of set.members) sets
  pub each : AreSetsOf vertices sets

-- so many vectors, each with n entries
abbrev pub HaveLength : (count vertices : ℕ) → List (List ℤ) → Type 0
HaveLength count vertices vectors = map (λ (xs : List ℤ). length xs) vectors ≡ replicate count vertices

-- what the parts of a state come to
abbrev pub run_state : (vectors : VectorsValue) → (sets : RunState) → (integers : List ℤ) → (conditions : List Bool) → (text : List ℕ) → (turns : ℕ) → RunState
run_state vectors sets integers conditions text turns = record {
  vertices = sets.vertices;
  groups = vectors.groups;
  state = record {
    vectors = vectors.vectors;
    sets = sets.state.sets;
    scope = record { integers = integers; conditions = conditions; source = 0; destination = 0; weight = unit_weight };
    text = text;
    turns = turns;
  };
}
