-- What the words of instructions name.
use Rattle.std.proofs.Common.{◌≡◌, ◌≢◌, ℕ, List, [], ◌∷◌, ◌++◌, Option, Some, None, codes, slice_get, refl, sym, ap, ◌∙◌, append-nil}
use Rattle.std.specs.Map.{lookup}
use Rattle.std.specs.Option.{option_map}
use Rattle.std.specs.Str.{bytes_eq}
use Rattle.apply_options.specs.declared.apply_schedule.ApplySchedule.{ApplySchedule}
use Rattle.apply_options.specs.declared.reduction.Reduction.{Reduction}
use Rattle.apply_options.specs.declared.reduction.Reduction.TheVariants as reduction
use Rattle.typed_tree.specs.declared.statement.ApplyEnds.{ApplyEnds}
use Rattle.typed_tree.specs.declared.statement.SetValue.{SetValue}
use Rattle.typed_tree.specs.declared.statement.SetValue.TheVariants as set
use Rattle.typed_tree.specs.declared.statement.VertexFilter.{VertexFilter}
use Rattle.typed_tree.specs.declared.statement.VertexFilter.TheVariants as end
use Rattle.typed_tree.specs.FunctionStatementTree.{FunctionTree}
use Rattle.typed_tree.specs.BlockTree as action
use Rattle.typed_tree.specs.BlockTree.{SimpleStatementTree}
use Rattle.typed_tree.specs.ProgramTree.{ProgramTree}
use Rattle.plans.specs.Fusing.{modifying}
use Rattle.plans.specs.Instruction as operation
use Rattle.plans.specs.Instruction.{EdgePartTree, InstructionTree, OperationTree, ResultTree, Assigned, Declared, Dropped}
use Rattle.plan_text.specs.declared.applied_function.AppliedFunction.{AppliedFunction}
use Rattle.plan_text.specs.declared.applied_function.ChangedSet.{ChangedSet}
use Rattle.plan_text.specs.Expressions.{program_name_at, vector_name_at}
use Rattle.plan_text.specs.Lines.{changed_words, dense_word, direction_word, edges_words, end_word, function_at, function_name, one_part, parallelization_word, part_words, reduction_word}
use Rattle.plan_text.specs.Lines.{second_words, set_instruction_words, statement_words}
use Rattle.lowering.specs.Text.{changed_set, operation_words, shown_part, target_words}
use Rattle.plan_laws.specs.Kinds.{InstructionKind, ApplyEdges, instruction_words, instruction_kind_of, kind_of_action, kind_of_set}
use Rattle.plan_laws.specs.Names.{EdgeApplyNames, HasNoMarks, IsNoMark, PartNames, apply_names, changed_names, edges_behind, edges_in, edges_of, end_in, end_names, entry_reductions, names_of_kind}
use Rattle.plan_laws.specs.Names.{names_in, names_of, names_of_action, names_of_set, part_in, part_names, reduction_after, reduction_named, reduction_of, second_in}
use Rattle.plan_laws.proofs.CutWords.{all_at}
use Rattle.plan_laws.proofs.Machine.{bytes_differ}
use Rattle.plan_laws.proofs.Words.{kind_is}

-- names by kind
set_names : (p : ProgramTree) (name : ℕ) (value : SetValue) (apply_schedule : ApplySchedule)
    → names_of_kind (Some (kind_of_set value)) (set_instruction_words p name value apply_schedule ++ []) ≡ names_of_set p name value
set_names p name set.Empty apply_schedule = refl
set_names p name set.All apply_schedule = refl
set_names p name (set.Copy slot) apply_schedule = refl
set_names p name (set.Filter slot function) apply_schedule = refl
set_names p name (set.Modified ends function vector) apply_schedule = refl

action_names : (p : ProgramTree) (action : SimpleStatementTree) (apply_schedule : ApplySchedule)
    → names_of_kind (Some (kind_of_action action)) (statement_words p action apply_schedule ++ []) ≡ names_of_action p action
action_names p (action.DeclareInt name e) apply_schedule = refl
action_names p (action.DeclareBool name c) apply_schedule = refl
action_names p (action.SetInt slot e) apply_schedule = refl
action_names p (action.SetBool slot c) apply_schedule = refl
action_names p (action.ReduceInt slot reduction e) apply_schedule = refl
action_names p (action.SetEntry vector index e) apply_schedule = refl
action_names p (action.ReduceEntry vector index reduction e) apply_schedule = refl
action_names p (action.DeclareSet name value) apply_schedule = set_names p name value apply_schedule
action_names p (action.AssignSet slot value) apply_schedule = set_names p slot.name value apply_schedule
action_names p (action.AddVertex slot e) apply_schedule = refl
action_names p (action.PrintInt e) apply_schedule = refl
action_names p (action.PrintBool c) apply_schedule = refl
action_names p (action.ApplyVertex slot function) apply_schedule = refl
action_names p (action.ApplyEdges ends function) apply_schedule = refl

names_at : (p : ProgramTree) (apply_schedule : ApplySchedule) (o : OperationTree) → names_of_kind (Some (instruction_kind_of o)) (operation_words p apply_schedule o ++ target_words o) ≡ names_of p o
names_at p apply_schedule (operation.Do action) = action_names p action apply_schedule
names_at p apply_schedule (operation.ApplyEdgesTogether ends first second) = refl
names_at p apply_schedule (operation.ApplyVerticesTogether slot first second) = refl
names_at p apply_schedule (operation.Unless c to) = refl
names_at p apply_schedule (operation.Enter name e) = refl
names_at p apply_schedule (operation.UnlessBelow name to) = refl
names_at p apply_schedule (operation.Advance name) = refl
names_at p apply_schedule operation.Turn = refl
names_at p apply_schedule (operation.Jump to) = refl
names_at p apply_schedule operation.End = refl

pub names_are : (p : ProgramTree) (i : InstructionTree) → names_in (instruction_words p i) ≡ names_of p i.operation
names_are p i = ap (λ (k : Option InstructionKind). names_of_kind k (instruction_words p i)) (kind_is p i) ∙ names_at p i.apply_schedule i.operation

-- reductions of entries
entry_reduction : (r : Reduction) → lookup (bytes_eq (reduction_word r)) entry_reductions ≡ Some (Some r)
entry_reduction reduction.Min = refl
entry_reduction reduction.Max = refl
entry_reduction reduction.Plus = refl

no_reduction_of_set : (value : SetValue) (words : List (List ℕ)) → reduction_after (Some (kind_of_set value)) words ≡ None
no_reduction_of_set set.Empty words = refl
no_reduction_of_set set.All words = refl
no_reduction_of_set (set.Copy slot) words = refl
no_reduction_of_set (set.Filter slot function) words = refl
no_reduction_of_set (set.Modified ends function vector) words = refl

action_reduction : (p : ProgramTree) (action : SimpleStatementTree) (apply_schedule : ApplySchedule)
    → reduction_after (Some (kind_of_action action)) (statement_words p action apply_schedule ++ []) ≡ reduction_of (operation.Do action)
action_reduction p (action.DeclareInt name e) apply_schedule = refl
action_reduction p (action.DeclareBool name c) apply_schedule = refl
action_reduction p (action.SetInt slot e) apply_schedule = refl
action_reduction p (action.SetBool slot c) apply_schedule = refl
action_reduction p (action.ReduceInt slot reduction e) apply_schedule = refl
action_reduction p (action.SetEntry vector index e) apply_schedule = refl
action_reduction p (action.ReduceEntry vector index reduction e) apply_schedule = entry_reduction reduction
action_reduction p (action.DeclareSet name value) apply_schedule = no_reduction_of_set value (set_instruction_words p name value apply_schedule ++ [])
action_reduction p (action.AssignSet slot value) apply_schedule = no_reduction_of_set value (set_instruction_words p slot.name value apply_schedule ++ [])
action_reduction p (action.AddVertex slot e) apply_schedule = refl
action_reduction p (action.PrintInt e) apply_schedule = refl
action_reduction p (action.PrintBool c) apply_schedule = refl
action_reduction p (action.ApplyVertex slot function) apply_schedule = refl
action_reduction p (action.ApplyEdges ends function) apply_schedule = refl

reduction_at : (p : ProgramTree) (apply_schedule : ApplySchedule) (o : OperationTree)
    → reduction_after (Some (instruction_kind_of o)) (operation_words p apply_schedule o ++ target_words o) ≡ reduction_of o
reduction_at p apply_schedule (operation.Do action) = action_reduction p action apply_schedule
reduction_at p apply_schedule (operation.ApplyEdgesTogether ends first second) = refl
reduction_at p apply_schedule (operation.ApplyVerticesTogether slot first second) = refl
reduction_at p apply_schedule (operation.Unless c to) = refl
reduction_at p apply_schedule (operation.Enter name e) = refl
reduction_at p apply_schedule (operation.UnlessBelow name to) = refl
reduction_at p apply_schedule (operation.Advance name) = refl
reduction_at p apply_schedule operation.Turn = refl
reduction_at p apply_schedule (operation.Jump to) = refl
reduction_at p apply_schedule operation.End = refl

pub reduction_is : (p : ProgramTree) (i : InstructionTree) → reduction_named (instruction_words p i) ≡ reduction_of i.operation
reduction_is p i = ap (λ (k : Option InstructionKind). reduction_after k (instruction_words p i)) (kind_is p i) ∙ reduction_at p i.apply_schedule i.operation

-- no name of an edge apply is one of its marks
empty_is_no_mark : IsNoMark []
empty_is_no_mark = record { end = λ same. absurd cc; arrow = λ same. absurd cc; colon = λ same. absurd cc }

name_is_no_mark : (p : ProgramTree) (name : ℕ) → HasNoMarks p → IsNoMark (program_name_at p name)
name_is_no_mark p name none = all_at IsNoMark p.names name [] none empty_is_no_mark

function_is_no_mark : (p : ProgramTree) (o : Option FunctionTree) → HasNoMarks p → IsNoMark (function_name p o)
function_is_no_mark p None none = empty_is_no_mark
function_is_no_mark p (Some f) none = name_is_no_mark p f.name none

given_end : (word : List ℕ) → IsNoMark word → end_in word ≡ Some word
given_end word is = rw (bytes_differ word (codes "-") is.end) refl

end_is : (p : ProgramTree) (o : Option VertexFilter) → HasNoMarks p → end_in (end_word p o) ≡ end_names p o
end_is p None none = refl
end_is p (Some (end.Members slot)) none = given_end (program_name_at p slot.name) (name_is_no_mark p slot.name none)
end_is p (Some (end.Function function)) none = given_end (function_at p p.filters function) (function_is_no_mark p (slice_get p.filters function) none)

-- the names of a part
abbrev named : ProgramTree → Option ChangedSet → Option (List ℕ × List ℕ)
named p None = None
named p (Some c) = Some (program_name_at p c.name, vector_name_at p c.vector)

one_in : (p : ProgramTree) (f : List ℕ) (changed : Option ChangedSet) (mark x y : List ℕ) (rest : List (List ℕ)) → mark ≢ codes "->"
    → part_in (f ∷ (changed_words p changed ++ mark ∷ x ∷ y ∷ rest)) ≡ (record { function = f; changed = named p changed }, mark ∷ x ∷ y ∷ rest)
one_in p f None mark x y rest other = rw (bytes_differ mark (codes "->") other) refl
one_in p f (Some c) mark x y rest other = refl

no_arrow : codes ":" ≢ codes "->"
no_arrow same = absurd cc

abbrev second_named : ProgramTree → Option AppliedFunction → Option PartNames
second_named p None = None
second_named p (Some part) = Some (record { function = function_at p p.edge_functions part.function; changed = named p part.changed })

second_is : (p : ProgramTree) (second : Option AppliedFunction) (d q v : List ℕ) → HasNoMarks p → second_in (second_words p second ++ codes ":" ∷ d ∷ q ∷ v ∷ []) ≡ second_named p second
second_is p None d q v none = refl
second_is p (Some part) d q v none =
    let f = function_at p p.edge_functions part.function in
    rw (bytes_differ f (codes ":") (function_is_no_mark p (slice_get p.edge_functions part.function) none).colon)
    (ap (λ (x : PartNames × List (List ℕ)). Some x.0) (one_in p f part.changed (codes ":") d q (v ∷ []) no_arrow))

before_second : (p : ProgramTree) (f g : List ℕ) (changed other : Option ChangedSet) (d q v : List ℕ) → g ≢ codes "->"
    → part_in (f ∷ (changed_words p changed ++ g ∷ (changed_words p other ++ codes ":" ∷ d ∷ q ∷ v ∷ [])))
    ≡ (record { function = f; changed = named p changed }, g ∷ (changed_words p other ++ codes ":" ∷ d ∷ q ∷ v ∷ []))
before_second p f g changed None d q v apart = one_in p f changed g (codes ":") d (q ∷ v ∷ []) apart
before_second p f g changed (Some c) d q v apart = one_in p f changed g (codes "->") (program_name_at p c.name) (vector_name_at p c.vector ∷ codes ":" ∷ d ∷ q ∷ v ∷ []) apart

first_is : (p : ProgramTree) (f : List ℕ) (changed : Option ChangedSet) (second : Option AppliedFunction) (d q v : List ℕ) → HasNoMarks p
    → part_in (f ∷ (changed_words p changed ++ (second_words p second ++ codes ":" ∷ d ∷ q ∷ v ∷ [])))
    ≡ (record { function = f; changed = named p changed }, second_words p second ++ codes ":" ∷ d ∷ q ∷ v ∷ [])
first_is p f changed None d q v none = one_in p f changed (codes ":") d q (v ∷ []) no_arrow
first_is p f changed (Some part) d q v none =
    before_second p f (function_at p p.edge_functions part.function) changed part.changed d q v
    (function_is_no_mark p (slice_get p.edge_functions part.function) none).arrow

-- the names of an edge apply
abbrev edges_named : ProgramTree → ApplyEnds → AppliedFunction → Option AppliedFunction → EdgeApplyNames
edges_named p ends first second = record {
  from = end_names p ends.from;
  to = end_names p ends.to;
  first = record { function = function_at p p.edge_functions first.function; changed = named p first.changed };
  second = second_named p second;
}

abbrev with_parts : Option (List ℕ) → Option (List ℕ) → PartNames → Option PartNames → Option EdgeApplyNames
with_parts from to first second = Some (record { from = from; to = to; first = first; second = second })

edges_read : (p : ProgramTree) (ends : ApplyEnds) (first : AppliedFunction) (second : Option AppliedFunction) (apply_schedule : ApplySchedule) → HasNoMarks p
    → edges_behind (Some ApplyEdges) (edges_words p ends first second apply_schedule ++ []) ≡ Some (edges_named p ends first second)
edges_read p ends first second apply_schedule none =
    let d = direction_word apply_schedule.direction in
    let q = parallelization_word apply_schedule.parallelization in
    let v = dense_word apply_schedule.dense_vertex_set in
    let rest = part_words p first ++ (second_words p second ++ codes ":" ∷ d ∷ q ∷ v ∷ []) in
    let one = first_is p (function_at p p.edge_functions first.function) first.changed second d q v none in
    let names : PartNames = record { function = function_at p p.edge_functions first.function; changed = named p first.changed } in
    ap (edges_behind (Some ApplyEdges)) (append-nil (edges_words p ends first second apply_schedule))
    ∙ ap (λ (x : PartNames × List (List ℕ)). with_parts (end_in (end_word p ends.from)) (end_in (end_word p ends.to)) x.0 (second_in x.1)) one
    ∙ ap (λ (x : Option PartNames). with_parts (end_in (end_word p ends.from)) (end_in (end_word p ends.to)) names x) (second_is p second d q v none)
    ∙ ap (λ (x : Option (List ℕ)). with_parts x (end_in (end_word p ends.to)) names (second_named p second)) (end_is p ends.from none)
    ∙ ap (λ (x : Option (List ℕ)). with_parts (end_names p ends.from) x names (second_named p second)) (end_is p ends.to none)

-- as an operation has them
named_is : (p : ProgramTree) (result : ResultTree) → named p (changed_set result) ≡ changed_names p result
named_is p Dropped = refl
named_is p (Declared name vector) = refl
named_is p (Assigned slot vector) = refl

set_edges : (p : ProgramTree) (name : ℕ) (value : SetValue) (make : (vector : ℕ) → ResultTree) (apply_schedule : ApplySchedule) → HasNoMarks p
    → ((vector : ℕ) → changed_names p (make vector) ≡ Some (program_name_at p name, vector_name_at p vector))
    → edges_behind (Some (kind_of_set value)) (set_instruction_words p name value apply_schedule ++ []) ≡ option_map (λ x. apply_names p x.ends x.part None) (modifying make value)
set_edges p name set.Empty make apply_schedule none same = refl
set_edges p name set.All make apply_schedule none same = refl
set_edges p name (set.Copy slot) make apply_schedule none same = refl
set_edges p name (set.Filter slot function) make apply_schedule none same = refl
set_edges p name (set.Modified ends function vector) make apply_schedule none same =
    edges_read p ends (one_part function (Some (record { name = name; vector = vector }))) None apply_schedule none
    ∙ ap (λ (x : Option (List ℕ × List ℕ)). with_parts (end_names p ends.from) (end_names p ends.to) (record { function = function_at p p.edge_functions function; changed = x }) None)
    (sym (same vector))

action_edges : (p : ProgramTree) (action : SimpleStatementTree) (apply_schedule : ApplySchedule) → HasNoMarks p
    → edges_behind (Some (kind_of_action action)) (statement_words p action apply_schedule ++ []) ≡ edges_of p (operation.Do action)
action_edges p (action.DeclareInt name e) apply_schedule none = refl
action_edges p (action.DeclareBool name c) apply_schedule none = refl
action_edges p (action.SetInt slot e) apply_schedule none = refl
action_edges p (action.SetBool slot c) apply_schedule none = refl
action_edges p (action.ReduceInt slot reduction e) apply_schedule none = refl
action_edges p (action.SetEntry vector index e) apply_schedule none = refl
action_edges p (action.ReduceEntry vector index reduction e) apply_schedule none = refl
action_edges p (action.DeclareSet name value) apply_schedule none = set_edges p name value (Declared name) apply_schedule none (λ vector. refl)
action_edges p (action.AssignSet slot value) apply_schedule none = set_edges p slot.name value (Assigned slot) apply_schedule none (λ vector. refl)
action_edges p (action.AddVertex slot e) apply_schedule none = refl
action_edges p (action.PrintInt e) apply_schedule none = refl
action_edges p (action.PrintBool c) apply_schedule none = refl
action_edges p (action.ApplyVertex slot function) apply_schedule none = refl
action_edges p (action.ApplyEdges ends function) apply_schedule none = edges_read p ends (one_part function None) None apply_schedule none

both_edges : (p : ProgramTree) (ends : ApplyEnds) (first second : EdgePartTree)
    → Some (edges_named p ends (shown_part first) (Some (shown_part second))) ≡ Some (apply_names p ends first (Some second))
both_edges p ends first second =
    let from = end_names p ends.from in
    let to = end_names p ends.to in
    let f = function_at p p.edge_functions first.function in
    let g = function_at p p.edge_functions second.function in
    let other : PartNames = record { function = g; changed = named p (changed_set second.result) } in
    ap (λ (x : Option (List ℕ × List ℕ)). with_parts from to (record { function = f; changed = x }) (Some other)) (named_is p first.result)
    ∙ ap (λ (x : Option (List ℕ × List ℕ)). with_parts from to (part_names p first) (Some (record { function = g; changed = x }))) (named_is p second.result)

edges_at : (p : ProgramTree) (apply_schedule : ApplySchedule) (o : OperationTree) → HasNoMarks p
    → edges_behind (Some (instruction_kind_of o)) (operation_words p apply_schedule o ++ target_words o) ≡ edges_of p o
edges_at p apply_schedule (operation.Do action) none = action_edges p action apply_schedule none
edges_at p apply_schedule (operation.ApplyEdgesTogether ends first second) none =
    edges_read p ends (shown_part first) (Some (shown_part second)) apply_schedule none ∙ both_edges p ends first second
edges_at p apply_schedule (operation.ApplyVerticesTogether slot first second) none = refl
edges_at p apply_schedule (operation.Unless c to) none = refl
edges_at p apply_schedule (operation.Enter name e) none = refl
edges_at p apply_schedule (operation.UnlessBelow name to) none = refl
edges_at p apply_schedule (operation.Advance name) none = refl
edges_at p apply_schedule operation.Turn none = refl
edges_at p apply_schedule (operation.Jump to) none = refl
edges_at p apply_schedule operation.End none = refl

pub edges_are : (p : ProgramTree) (i : InstructionTree) → HasNoMarks p → edges_in (instruction_words p i) ≡ edges_of p i.operation
edges_are p i none = ap (λ (k : Option InstructionKind). edges_behind k (instruction_words p i)) (kind_is p i) ∙ edges_at p i.apply_schedule i.operation none
