-- What statements of main do, the state before the first one, and what a run shows in the end.
use Rattle.std.specs.Prelude.{ℕ, suc, ℤ, pos, if◌then◌else◌, ◌==◌, List, [], ◌∷◌, map, replicate, slice_index_or, ◌-◌}
use Rattle.weighted_edges.specs.Edge.{Edge}
use Rattle.typed_tree.specs.declared.program.InitialValue.{InitialValue}
use Rattle.typed_tree.specs.BlockTree.{SimpleStatementTree, DeclareInt, DeclareBool, SetInt, SetBool, ReduceInt, SetEntry, ReduceEntry}
use Rattle.typed_tree.specs.BlockTree.{DeclareSet, AssignSet, AddVertex, PrintInt, PrintBool, ApplyVertex, ApplyEdges}
use Rattle.typed_tree.specs.BlockTree.{StatementKindTree, Simple, If, IfElse, While, For, BlockTree, Empty, Then}
use Rattle.typed_tree.specs.ProgramTree.{ProgramTree}
use Rattle.typed_tree.specs.declared.program.Vector.{Vector}
use Rattle.typed_tree.specs.declared.program.InitialValue.TheVariants as beginning
use Rattle.algorithm_meaning.specs.declared.state.SetBinding.{SetBinding}
use Rattle.algorithm_meaning.specs.Arithmetic.{wrapped}
use Rattle.algorithm_meaning.specs.State.{GraphValue, StateValue, main_scope}
use Rattle.algorithm_meaning.specs.Stand.{Stand, Live, then_do, bool_value_in, with_value, choose, Over}
use Rattle.algorithm_meaning.specs.Statements.{after_declare_int, after_declare_bool, after_set_int, after_set_bool, after_reduce_int}
use Rattle.algorithm_meaning.specs.Statements.{with_vectors, after_set_entry, after_reduce_entry, after_print_int, after_print_bool}
use Rattle.algorithm_meaning.specs.VertexSets.{all_below, after_declare_set, after_assign_set, after_add_vertex, after_apply_vertex}
use Rattle.algorithm_meaning.specs.EdgeApply.{after_edge_apply}
use Rattle.algorithm_meaning.specs.Loop.{inside, after_while, after_for, bounds_in}
use Rattle.algorithm_meaning.specs.declared.outcome.NamedVector.{NamedVector}
use Rattle.algorithm_meaning.specs.declared.outcome.NamedSet.{NamedSet}
use Rattle.algorithm_meaning.specs.declared.outcome.End.{End}
use Rattle.algorithm_meaning.specs.declared.outcome.Outcome.{Outcome}
use Rattle.algorithm_meaning.specs.declared.outcome.End.TheVariants.{Finished}

-- the state after the statement of this number, which has no block
abbrev pub after_simple : ProgramTree → GraphValue → ℕ → SimpleStatementTree → StateValue → Stand
after_simple p g number (DeclareInt name e) s = after_declare_int g.vertices number e s
after_simple p g number (DeclareBool name c) s = after_declare_bool g.vertices number c s
after_simple p g number (SetInt slot e) s = after_set_int g.vertices number slot.index e s
after_simple p g number (SetBool slot c) s = after_set_bool g.vertices number slot.index c s
after_simple p g number (ReduceInt slot reduction e) s = after_reduce_int g.vertices number slot.index reduction e s
after_simple p g number (SetEntry vector subscript e) s = after_set_entry g.vertices number vector subscript e s
after_simple p g number (ReduceEntry vector subscript reduction e) s = after_reduce_entry g.vertices number vector subscript reduction e s
after_simple p g number (DeclareSet name set) s = Live (after_declare_set p g name set s)
after_simple p g number (AssignSet slot set) s = Live (after_assign_set p g slot.index set s)
after_simple p g number (AddVertex slot e) s = after_add_vertex g.vertices number slot.index e s
after_simple p g number (PrintInt e) s = after_print_int g.vertices number e s
after_simple p g number (PrintBool c) s = after_print_bool g.vertices number c s
after_simple p g number (ApplyVertex set function) s = Live (after_apply_vertex p.vertex_functions set.index function s)
after_simple p g number (ApplyEdges ends function) s =
    Live (with_vectors s (after_edge_apply p.filters p.edge_functions g ends (function ∷ []) s))

abbrev mutual
  -- the state after the statement of this number
  pub after : ProgramTree → GraphValue → ℕ → StatementKindTree → StateValue → Stand
  after p g number (Simple a) s = after_simple p g number a s
  after p g number (If c body) s =
      with_value (bool_value_in g.vertices c s) number s (λ b. choose b (inside (after_all p g body) s) (Live s))
  after p g number (IfElse c body other) s =
      with_value (bool_value_in g.vertices c s) number s (λ b. choose b (inside (after_all p g body) s) (inside (after_all p g other) s))
  after p g number (While c body) s = after_while g.vertices number c (after_all p g body) s
  after p g number (For name first end body) s =
      with_value (bounds_in g.vertices first end s) number s (λ r. after_for number (after_all p g body) r s)

  -- the state after all statements of a block, in order
  pub after_all : ProgramTree → GraphValue → BlockTree → StateValue → Stand
  after_all p g Empty s = Live s
  after_all p g (Then number label action rest) s = then_do (after p g number action s) (after_all p g rest)

-- the number of these edges that leave a vertex
abbrev pub out_degree : ℕ → List Edge → ℕ
out_degree v [] = 0
out_degree v (edge ∷ edges) = if edge.0 == v then suc (out_degree v edges) else out_degree v edges

-- the entries of a vector before the first statement; a degree is wrapped to 64 bits
abbrev pub initial_entries : GraphValue → InitialValue → List ℤ
initial_entries g (beginning.Number n) = replicate g.vertices n
initial_entries g beginning.OutDegrees = map (λ v. wrapped (pos (out_degree v g.edges))) (all_below g.vertices)

-- a constant set has all vertices
abbrev pub full_set : GraphValue → ℕ → SetBinding
full_set g name = record { name = name; members = all_below g.vertices }

-- the state before the first statement
abbrev pub initial_state : ProgramTree → GraphValue → ℕ → StateValue
initial_state p g turns = record {
  vectors = map (λ v. initial_entries g v.beginning) p.vectors;
  sets = map (full_set g) p.sets;
  scope = main_scope;
  text = [];
  turns = turns;
}

-- the name at an index
abbrev pub shown_name_at : List (List ℕ) → ℕ → List ℕ
shown_name_at names index = slice_index_or names index []

-- each vector's name and entries, in declared order
abbrev pub named_vectors : List (List ℕ) → List Vector → List (List ℤ) → List NamedVector
named_vectors names [] entries = []
named_vectors names (v ∷ vs) [] = []
named_vectors names (v ∷ vs) (entries ∷ more) =
    record { name = shown_name_at names v.name; entries = entries } ∷ named_vectors names vs more

-- a set's name and members
abbrev pub named_set : List (List ℕ) → SetBinding → NamedSet
named_set names set = record { name = shown_name_at names set.name; members = set.members }

-- the outcome of a run that ended so in this state, if it had so many turns at first
abbrev pub shown : ProgramTree → ℕ → StateValue → End → Outcome
shown p turns s end = record {
  end = end;
  turns = turns - s.turns;
  vectors = named_vectors p.names p.vectors s.vectors;
  sets = map (named_set p.names) s.sets;
  text = s.text;
}

-- after the last statement of main: a run that is live there has finished
abbrev pub outcome_of : ProgramTree → ℕ → Stand → Outcome
outcome_of p turns (Live s) = shown p turns s Finished
outcome_of p turns (Over s end) = shown p turns s end

-- the meaning of a program on a graph: its outcome within so many turns
abbrev pub meaning : ProgramTree → GraphValue → ℕ → Outcome
meaning p g turns = outcome_of p turns (after_all p g p.main (initial_state p g turns))
