-- The words of instructions.
use Rattle.std.specs.Prelude.{ℕ, List, [], ◌∷◌, ◌++◌, Option, Some, None, codes, map, slice_get}
use Rattle.apply_options.specs.declared.reduction.Reduction.{Reduction}
use Rattle.apply_options.specs.declared.reduction.Reduction.TheVariants as reduction
use Rattle.typed_tree.specs.declared.expression.VarRef.{VarRef}
use Rattle.typed_tree.specs.declared.statement.VertexFilter.{VertexFilter}
use Rattle.typed_tree.specs.declared.statement.VertexFilter.TheVariants as end
use Rattle.typed_tree.specs.declared.statement.ApplyEnds.{ApplyEnds}
use Rattle.typed_tree.specs.declared.statement.SetValue.{SetValue}
use Rattle.typed_tree.specs.declared.statement.SetValue.TheVariants as set
use Rattle.typed_tree.specs.IntExpressionTree.{IntExpressionTree}
use Rattle.typed_tree.specs.BoolExpressionTree.{BoolExpressionTree}
use Rattle.typed_tree.specs.FunctionStatementTree.{FunctionTree}
use Rattle.typed_tree.specs.BlockTree.{SimpleStatementTree, DeclareInt, DeclareBool, SetInt, SetBool, ReduceInt, SetEntry, ReduceEntry}
use Rattle.typed_tree.specs.BlockTree.{DeclareSet, AssignSet, AddVertex, PrintInt, PrintBool, ApplyVertex, ApplyEdges}
use Rattle.typed_tree.specs.ProgramTree.{ProgramTree}
use Rattle.apply_options.specs.declared.apply_schedule.ApplySchedule.{ApplySchedule}
use Rattle.apply_options.specs.declared.apply_schedule.DenseVertexSet.{DenseVertexSet}
use Rattle.apply_options.specs.declared.apply_schedule.DenseVertexSet.TheVariants as dense
use Rattle.apply_options.specs.declared.apply_schedule.Direction.{Direction}
use Rattle.apply_options.specs.declared.apply_schedule.Direction.TheVariants as direction
use Rattle.apply_options.specs.declared.apply_schedule.Parallelization.{Parallelization}
use Rattle.apply_options.specs.declared.apply_schedule.Parallelization.TheVariants as parallelization
use Rattle.plan_text.specs.declared.applied_function.AppliedFunction.{AppliedFunction}
use Rattle.plan_text.specs.declared.applied_function.ChangedSet.{ChangedSet}
use Rattle.plan_text.specs.Expressions.{bracketed, program_name_at, vector_name_at, integer_words, condition_words}

-- how a reduction of an entry is spelled, and the operator that it is
abbrev pub reduction_word : Reduction → List ℕ
reduction_word reduction.Min = codes "min="
reduction_word reduction.Max = codes "max="
reduction_word reduction.Plus = codes "+="

abbrev pub reducing_word : Reduction → List ℕ
reducing_word reduction.Min = codes "min"
reducing_word reduction.Max = codes "max"
reducing_word reduction.Plus = codes "+"

abbrev pub direction_word : Option Direction → List ℕ
direction_word None = codes "SparsePush"
direction_word (Some direction.SparsePush) = codes "SparsePush"
direction_word (Some direction.DensePush) = codes "DensePush"
direction_word (Some direction.DensePull) = codes "DensePull"
direction_word (Some direction.Hybrid) = codes "DensePull-SparsePush"

abbrev pub parallelization_word : Option Parallelization → List ℕ
parallelization_word None = codes "serial"
parallelization_word (Some parallelization.Serial) = codes "serial"
parallelization_word (Some parallelization.StaticVertex) = codes "static-vertex-parallel"
parallelization_word (Some parallelization.DynamicVertex) = codes "dynamic-vertex-parallel"
parallelization_word (Some parallelization.EdgeAwareDynamicVertex) = codes "edge-aware-dynamic-vertex-parallel"

abbrev pub dense_word : Option DenseVertexSet → List ℕ
dense_word None = codes "bool-array"
dense_word (Some dense.BoolArray) = codes "bool-array"
dense_word (Some dense.Bitvector) = codes "bitvector"

-- the name of the function at an index, without a byte where there is none
abbrev pub function_name : ProgramTree → Option FunctionTree → List ℕ
function_name p None = []
function_name p (Some f) = program_name_at p f.name

abbrev pub function_at : ProgramTree → List FunctionTree → ℕ → List ℕ
function_at p functions index = function_name p (slice_get functions index)

-- set x [e]
abbrev pub set_words : (target : List ℕ) → (words : List (List ℕ)) → List (List ℕ)
set_words target words = codes "set" ∷ target ∷ bracketed words ∷ []

-- put v [i] = [e]
abbrev pub put_words : ProgramTree → (vector : ℕ) → (index : IntExpressionTree) → (word : List ℕ) → (value : IntExpressionTree) → List (List ℕ)
put_words p vector index word value =
    codes "put" ∷ vector_name_at p vector ∷ bracketed (integer_words p index) ∷ word ∷ bracketed (integer_words p value) ∷ []

-- an end of an edge apply, `-` where it is not given
abbrev pub end_word : ProgramTree → Option VertexFilter → List ℕ
end_word p None = codes "-"
end_word p (Some (end.Members slot)) = program_name_at p slot.name
end_word p (Some (end.Function index)) = function_at p p.filters index

-- f, or f -> s v
abbrev pub changed_words : ProgramTree → Option ChangedSet → List (List ℕ)
changed_words p None = []
changed_words p (Some c) = codes "->" ∷ program_name_at p c.name ∷ vector_name_at p c.vector ∷ []

abbrev pub part_words : ProgramTree → AppliedFunction → List (List ℕ)
part_words p part = function_at p p.edge_functions part.function ∷ changed_words p part.changed

abbrev pub second_words : ProgramTree → Option AppliedFunction → List (List ℕ)
second_words p None = []
second_words p (Some part) = part_words p part

-- eapply FROM TO f g : DIRECTION PARALLELIZATION DENSE
abbrev pub edges_words : ProgramTree → ApplyEnds → AppliedFunction → Option AppliedFunction → ApplySchedule → List (List ℕ)
edges_words p ends first second apply_schedule =
    codes "eapply" ∷ end_word p ends.from ∷ end_word p ends.to
    ∷ (part_words p first ++ (second_words p second
    ++ codes ":" ∷ direction_word apply_schedule.direction ∷ parallelization_word apply_schedule.parallelization ∷ dense_word apply_schedule.dense_vertex_set ∷
    []))

-- vapply s f g
abbrev pub second_function_words : ProgramTree → Option ℕ → List (List ℕ)
second_function_words p None = []
second_function_words p (Some index) = function_at p p.vertex_functions index ∷ []

abbrev pub vertices_words : ProgramTree → (set : VarRef) → (first : ℕ) → (second : Option ℕ) → List (List ℕ)
vertices_words p set first second =
    codes "vapply" ∷ program_name_at p set.name ∷ function_at p p.vertex_functions first ∷ second_function_words p second

-- a set that gets a value, which is not what an apply changes
abbrev pub set_value_words : ProgramTree → (name : ℕ) → SetValue → List (List ℕ)
set_value_words p name set.Empty = codes "newset" ∷ program_name_at p name ∷ []
set_value_words p name set.All = codes "allset" ∷ program_name_at p name ∷ []
set_value_words p name (set.Copy slot) = codes "copyset" ∷ program_name_at p name ∷ program_name_at p slot.name ∷ []
set_value_words p name (set.Filter slot index) = codes "filter" ∷ program_name_at p name ∷ program_name_at p slot.name ∷ function_at p p.filters index ∷ []
set_value_words p name (set.Modified ends function vector) = []

-- an apply of one edge function
abbrev pub one_part : (function : ℕ) → Option ChangedSet → AppliedFunction
one_part function changed = record { function = function; changed = changed }

-- a set that gets a value; what an apply changes is that apply, as the schedule says
abbrev pub set_instruction_words : ProgramTree → (name : ℕ) → SetValue → ApplySchedule → List (List ℕ)
set_instruction_words p name (set.Modified ends function vector) apply_schedule =
    edges_words p ends (one_part function (Some (record { name = name; vector = vector }))) None apply_schedule
set_instruction_words p name set.Empty apply_schedule = set_value_words p name set.Empty
set_instruction_words p name set.All apply_schedule = set_value_words p name set.All
set_instruction_words p name (set.Copy slot) apply_schedule = set_value_words p name (set.Copy slot)
set_instruction_words p name (set.Filter slot index) apply_schedule = set_value_words p name (set.Filter slot index)

-- a statement without a block
abbrev pub statement_words : ProgramTree → SimpleStatementTree → ApplySchedule → List (List ℕ)
statement_words p (DeclareInt name e) apply_schedule = set_words (program_name_at p name) (integer_words p e)
statement_words p (DeclareBool name c) apply_schedule = set_words (program_name_at p name) (condition_words p c)
statement_words p (SetInt slot e) apply_schedule = set_words (program_name_at p slot.name) (integer_words p e)
statement_words p (SetBool slot c) apply_schedule = set_words (program_name_at p slot.name) (condition_words p c)
statement_words p (ReduceInt slot r e) apply_schedule = set_words (program_name_at p slot.name)
    (program_name_at p slot.name ∷ integer_words p e ++ reducing_word r ∷ [])
statement_words p (SetEntry vector index e) apply_schedule = put_words p vector index (codes "=") e
statement_words p (ReduceEntry vector index r e) apply_schedule = put_words p vector index (reduction_word r) e
statement_words p (DeclareSet name value) apply_schedule = set_instruction_words p name value apply_schedule
statement_words p (AssignSet slot value) apply_schedule = set_instruction_words p slot.name value apply_schedule
statement_words p (AddVertex slot e) apply_schedule = codes "addvertex" ∷ program_name_at p slot.name ∷ bracketed (integer_words p e) ∷ []
statement_words p (PrintInt e) apply_schedule = codes "print" ∷ bracketed (integer_words p e) ∷ []
statement_words p (PrintBool c) apply_schedule = codes "print" ∷ bracketed (condition_words p c) ∷ []
statement_words p (ApplyVertex set function) apply_schedule = vertices_words p set function None
statement_words p (ApplyEdges ends function) apply_schedule = edges_words p ends (one_part function None) None apply_schedule

-- unless [c], before the index that it goes to
abbrev pub unless_words : ProgramTree → BoolExpressionTree → List (List ℕ)
unless_words p c = codes "unless" ∷ bracketed (condition_words p c) ∷ []

-- of `for i`: set i.end [e], unless [i i.end <], set i [i 1 +]
abbrev pub end_name : ProgramTree → (name : ℕ) → List ℕ
end_name p name = program_name_at p name ++ codes ".end"

abbrev pub bound_words : ProgramTree → (name : ℕ) → IntExpressionTree → List (List ℕ)
bound_words p name e = set_words (end_name p name) (integer_words p e)

abbrev pub below_words : ProgramTree → (name : ℕ) → List (List ℕ)
below_words p name = codes "unless" ∷ bracketed (program_name_at p name ∷ end_name p name ∷ codes "<" ∷ []) ∷ []

abbrev pub advance_words : ProgramTree → (name : ℕ) → List (List ℕ)
advance_words p name = set_words (program_name_at p name) (program_name_at p name ∷ codes "1" ∷ codes "+" ∷ [])

-- fields v w
abbrev pub group_words : ProgramTree → (vectors : List ℕ) → List (List ℕ)
group_words p vectors = codes "fields" ∷ map (vector_name_at p) vectors
