-- Names of what an instruction works on, by its words and by its operation.
use Rattle.std.specs.Prelude.{◌≢◌, ℕ, if◌then◌else◌, List, [], ◌∷◌, Option, Some, None, codes, slice_index_or}
use Rattle.std.specs.List.{AllByRecursion}
use Rattle.std.specs.Map.{lookup}
use Rattle.std.specs.Option.{option_map}
use Rattle.std.specs.Str.{bytes_eq}
use Rattle.apply_options.specs.declared.reduction.Reduction.{Reduction}
use Rattle.apply_options.specs.declared.reduction.Reduction.TheVariants as reduction
use Rattle.typed_tree.specs.declared.statement.ApplyEnds.{ApplyEnds}
use Rattle.typed_tree.specs.declared.statement.SetValue.{SetValue}
use Rattle.typed_tree.specs.declared.statement.SetValue.TheVariants as set
use Rattle.typed_tree.specs.declared.statement.VertexFilter.{VertexFilter}
use Rattle.typed_tree.specs.declared.statement.VertexFilter.TheVariants as end
use Rattle.typed_tree.specs.BlockTree as action
use Rattle.typed_tree.specs.BlockTree.{SimpleStatementTree, Simple}
use Rattle.typed_tree.specs.ProgramTree.{ProgramTree}
use Rattle.plans.specs.Fusing.{edge_apply_of}
use Rattle.plans.specs.Instruction as operation
use Rattle.plans.specs.Instruction.{EdgePartTree, OperationTree, ResultTree, Assigned, Declared, Dropped}
use Rattle.plan_text.specs.Expressions.{program_name_at, vector_name_at}
use Rattle.plan_text.specs.Lines.{end_name, function_at}
use Rattle.plan_laws.specs.Kinds.{InstructionKind, Set, Put, AddVertex, NewSet, AllSet, CopySet, Filter, ApplyVertices, ApplyEdges, kind_in}

-- what is after the first word: of an instruction with an expression one name, and of one on sets all words
abbrev pub names_of_kind : Option InstructionKind → List (List ℕ) → List (List ℕ)
names_of_kind (Some Set) words = slice_index_or words 1 [] ∷ []
names_of_kind (Some Put) words = slice_index_or words 1 [] ∷ []
names_of_kind (Some AddVertex) words = slice_index_or words 1 [] ∷ []
names_of_kind (Some NewSet) (word ∷ words) = words
names_of_kind (Some AllSet) (word ∷ words) = words
names_of_kind (Some CopySet) (word ∷ words) = words
names_of_kind (Some Filter) (word ∷ words) = words
names_of_kind (Some ApplyVertices) (word ∷ words) = words
names_of_kind _ words = []

abbrev pub names_in : List (List ℕ) → List (List ℕ)
names_in words = names_of_kind (kind_in words) words

-- the set that gets a value, and what it gets it from
abbrev pub names_of_set : ProgramTree → (name : ℕ) → SetValue → List (List ℕ)
names_of_set p name set.Empty = program_name_at p name ∷ []
names_of_set p name set.All = program_name_at p name ∷ []
names_of_set p name (set.Copy slot) = program_name_at p name ∷ program_name_at p slot.name ∷ []
names_of_set p name (set.Filter slot function) = program_name_at p name ∷ program_name_at p slot.name ∷ function_at p p.filters function ∷ []
names_of_set p name (set.Modified ends function vector) = []

-- the variable, the vector or the set that changes; the set and the functions of a vertex apply
abbrev pub names_of_action : ProgramTree → SimpleStatementTree → List (List ℕ)
names_of_action p (action.DeclareInt name e) = program_name_at p name ∷ []
names_of_action p (action.DeclareBool name c) = program_name_at p name ∷ []
names_of_action p (action.SetInt slot e) = program_name_at p slot.name ∷ []
names_of_action p (action.SetBool slot c) = program_name_at p slot.name ∷ []
names_of_action p (action.ReduceInt slot reduction e) = program_name_at p slot.name ∷ []
names_of_action p (action.SetEntry vector index e) = vector_name_at p vector ∷ []
names_of_action p (action.ReduceEntry vector index reduction e) = vector_name_at p vector ∷ []
names_of_action p (action.DeclareSet name value) = names_of_set p name value
names_of_action p (action.AssignSet slot value) = names_of_set p slot.name value
names_of_action p (action.AddVertex slot e) = program_name_at p slot.name ∷ []
names_of_action p (action.ApplyVertex slot function) = program_name_at p slot.name ∷ function_at p p.vertex_functions function ∷ []
names_of_action p _ = []

abbrev pub names_of : ProgramTree → OperationTree → List (List ℕ)
names_of p (operation.Do action) = names_of_action p action
names_of p (operation.ApplyVerticesTogether slot first second) =
    program_name_at p slot.name ∷ function_at p p.vertex_functions first ∷ function_at p p.vertex_functions second ∷ []
names_of p (operation.Enter name e) = end_name p name ∷ []
names_of p (operation.Advance name) = program_name_at p name ∷ []
names_of p _ = []

-- by which reduction an entry gets its value
abbrev pub entry_reductions : List (List ℕ × Option Reduction)
entry_reductions = (codes "=", None) ∷ (codes "min=", Some reduction.Min) ∷ (codes "max=", Some reduction.Max) ∷ (codes "+=", Some reduction.Plus) ∷ []

abbrev pub reduction_after : Option InstructionKind → List (List ℕ) → Option (Option Reduction)
reduction_after (Some Put) words = lookup (bytes_eq (slice_index_or words 3 [])) entry_reductions
reduction_after _ words = None

abbrev pub reduction_named : List (List ℕ) → Option (Option Reduction)
reduction_named words = reduction_after (kind_in words) words

abbrev pub reduction_of : OperationTree → Option (Option Reduction)
reduction_of (operation.Do (action.SetEntry vector index e)) = Some None
reduction_of (operation.Do (action.ReduceEntry vector index reduction e)) = Some (Some reduction)
reduction_of _ = None

-- an edge function, and the set that gets the vertices where a vector changed, with that vector
pub record PartNames : Type 0 where
  pub function : List ℕ
  pub changed : Option (List ℕ × List ℕ)

-- an edge apply: its ends, where they are given, its function, and one that is fused with it
pub record EdgeApplyNames : Type 0 where
  pub from : Option (List ℕ)
  pub to : Option (List ℕ)
  pub first : PartNames
  pub second : Option PartNames

-- `f -> s v` or `f`, and what is after
abbrev pub part_in : List (List ℕ) → PartNames × List (List ℕ)
part_in (f ∷ mark ∷ s ∷ v ∷ rest) =
    if bytes_eq mark (codes "->") then (record { function = f; changed = Some (s, v) }, rest)
    else (record { function = f; changed = None }, mark ∷ s ∷ v ∷ rest)
part_in words = (record { function = []; changed = None }, words)

abbrev pub second_in : List (List ℕ) → Option PartNames
second_in [] = None
second_in (word ∷ words) = if bytes_eq word (codes ":") then None else Some (part_in (word ∷ words)).0

abbrev pub end_in : List ℕ → Option (List ℕ)
end_in word = if bytes_eq word (codes "-") then None else Some word

-- eapply FROM TO f g : ..
abbrev pub edges_behind : Option InstructionKind → List (List ℕ) → Option EdgeApplyNames
edges_behind (Some ApplyEdges) (word ∷ from ∷ to ∷ rest) =
    Some (record { from = end_in from; to = end_in to; first = (part_in rest).0; second = second_in (part_in rest).1 })
edges_behind _ words = None

abbrev pub edges_in : List (List ℕ) → Option EdgeApplyNames
edges_in words = edges_behind (kind_in words) words

-- the names of the edge apply that an operation does
abbrev pub changed_names : ProgramTree → ResultTree → Option (List ℕ × List ℕ)
changed_names p Dropped = None
changed_names p (Declared name vector) = Some (program_name_at p name, vector_name_at p vector)
changed_names p (Assigned slot vector) = Some (program_name_at p slot.name, vector_name_at p vector)

abbrev pub part_names : ProgramTree → EdgePartTree → PartNames
part_names p part = record { function = function_at p p.edge_functions part.function; changed = changed_names p part.result }

abbrev pub end_names : ProgramTree → Option VertexFilter → Option (List ℕ)
end_names p None = None
end_names p (Some (end.Members slot)) = Some (program_name_at p slot.name)
end_names p (Some (end.Function function)) = Some (function_at p p.filters function)

abbrev pub apply_names : ProgramTree → ApplyEnds → EdgePartTree → Option EdgePartTree → EdgeApplyNames
apply_names p ends first second =
    record { from = end_names p ends.from; to = end_names p ends.to; first = part_names p first; second = option_map (part_names p) second }

abbrev pub edges_of : ProgramTree → OperationTree → Option EdgeApplyNames
edges_of p (operation.Do action) = option_map (λ x. apply_names p x.ends x.part None) (edge_apply_of (Simple action))
edges_of p (operation.ApplyEdgesTogether ends first second) = Some (apply_names p ends first (Some second))
edges_of p _ = None

-- no name is a mark of an edge apply
pub record IsNoMark (word : List ℕ) : Type 0 where
  pub end : word ≢ codes "-"
  pub arrow : word ≢ codes "->"
  pub colon : word ≢ codes ":"

abbrev pub HasNoMarks : ProgramTree → Type 0
HasNoMarks p = AllByRecursion IsNoMark p.names
