-- The statements of main on vertex sets, and `apply` of vertex functions to their members.
use Rattle.std.specs.Prelude.{ℕ, zero, suc, ℤ, if◌then◌else◌, nat_lt, ◌==◌, List, [], ◌∷◌, ◌++◌, slice_get}
use Rattle.std.specs.List.{range_with_len}
use Rattle.typed_tree.specs.declared.statement.SetValue.{SetValue}
use Rattle.typed_tree.specs.IntExpressionTree.{IntExpressionTree}
use Rattle.typed_tree.specs.ProgramTree.{ProgramTree}
use Rattle.typed_tree.specs.FunctionStatementTree.{FunctionStatementsTree, FunctionTree}
use Rattle.typed_tree.specs.declared.statement.SetValue.TheVariants as set
use Rattle.algorithm_meaning.specs.declared.state.SetBinding.{SetBinding}
use Rattle.algorithm_meaning.specs.State.{GraphValue, StateValue, vertex_scope}
use Rattle.algorithm_meaning.specs.Value.{members_of}
use Rattle.algorithm_meaning.specs.Stand.{Stand, Live, vertex_in, with_value}
use Rattle.algorithm_meaning.specs.Statements.{with_vectors}
use Rattle.algorithm_meaning.specs.Function.{filtered, first_work, after_steps, steps_of}
use Rattle.algorithm_meaning.specs.EdgeApply.{after_edge_apply, modified}
use Rattle.algorithm_meaning.specs.declared.contribution.Writing.TheVariants.{AtOnce}

-- the vertices of a graph
abbrev pub all_below : ℕ → List ℕ
all_below vertices = range_with_len 0 vertices

-- the vectors after a set value was evaluated: `applyModified` changes them
abbrev pub vectors_after : ProgramTree → GraphValue → SetValue → StateValue → List (List ℤ)
vectors_after p g set.Empty s = s.vectors
vectors_after p g set.All s = s.vectors
vectors_after p g (set.Copy slot) s = s.vectors
vectors_after p g (set.Filter slot function) s = s.vectors
vectors_after p g (set.Modified ends function vector) s = after_edge_apply p.filters p.edge_functions g ends (function ∷ []) s

-- what a set variable gets
abbrev pub members_for : ProgramTree → GraphValue → SetValue → StateValue → List ℕ
members_for p g set.Empty s = []
members_for p g set.All s = all_below g.vertices
members_for p g (set.Copy slot) s = members_of (slice_get s.sets slot.index)
members_for p g (set.Filter slot function) s = filtered p.filters function s.sets s.vectors (members_of (slice_get s.sets slot.index))
members_for p g (set.Modified ends function vector) s =
    modified g.vertices vector s.vectors (after_edge_apply p.filters p.edge_functions g ends (function ∷ []) s)

abbrev pub with_new_set : StateValue → ℕ → List ℕ → StateValue
with_new_set s name members = record s { sets = s.sets ++ record { name = name; members = members } ∷ [] }

-- the set at an index with other members
abbrev pub set_members : List SetBinding → ℕ → List ℕ → List SetBinding
set_members [] index members = []
set_members (set ∷ sets) zero members = record { name = set.name; members = members } ∷ sets
set_members (set ∷ sets) (suc index) members = set ∷ set_members sets index members

abbrev pub with_members : StateValue → ℕ → List ℕ → StateValue
with_members s index members = record s { sets = set_members s.sets index members }

-- a new set variable, and one that is assigned
abbrev pub after_declare_set : ProgramTree → GraphValue → (name : ℕ) → SetValue → StateValue → StateValue
after_declare_set p g name set s = with_new_set (with_vectors s (vectors_after p g set s)) name (members_for p g set s)

abbrev pub after_assign_set : ProgramTree → GraphValue → (index : ℕ) → SetValue → StateValue → StateValue
after_assign_set p g index set s = with_members (with_vectors s (vectors_after p g set s)) index (members_for p g set s)

-- an ascending list with one more number, once
abbrev pub inserted : ℕ → List ℕ → List ℕ
inserted v [] = v ∷ []
inserted v (x ∷ xs) = if nat_lt v x then v ∷ x ∷ xs else (if v == x then x ∷ xs else x ∷ inserted v xs)

-- a set gets a vertex, which must be one
abbrev pub after_add_vertex : (vertices number index : ℕ) → IntExpressionTree → StateValue → Stand
after_add_vertex vertices number index e s =
    with_value (vertex_in vertices e s) number s (λ v. Live (with_members s index (inserted v (members_of (slice_get s.sets index)))))

-- the vectors after a function ran at a vertex
abbrev pub after_vertex : FunctionStatementsTree → List SetBinding → ℕ → List (List ℤ) → List (List ℤ)
after_vertex steps sets v vectors = (after_steps AtOnce sets steps (first_work vectors (vertex_scope v))).vectors

-- after it ran at each of these vertices, in order
abbrev pub after_vertices : FunctionStatementsTree → List SetBinding → List ℕ → List (List ℤ) → List (List ℤ)
after_vertices steps sets [] vectors = vectors
after_vertices steps sets (v ∷ vs) vectors = after_vertices steps sets vs (after_vertex steps sets v vectors)

-- a vertex function runs for each member of a set alone
abbrev pub after_apply_vertex : List FunctionTree → (set function : ℕ) → StateValue → StateValue
after_apply_vertex functions set function s =
    with_vectors s (after_vertices (steps_of (slice_get functions function)) s.sets (members_of (slice_get s.sets set)) s.vectors)
