-- What the words of instructions say.
use Rattle.std.proofs.Common.{◌≡◌, ℕ, ◌-◌, ◌<◌, ◌^◌, List, [], ◌∷◌, ◌++◌, length, drop, Option, Some, None, codes, decimal, refl, sym, ap, ◌∙◌, arith, append_assoc, append-nil, length-append}
use Rattle.std.specs.Map.{lookup}
use Rattle.std.specs.Option.{IfSome, unwrap_or}
use Rattle.std.specs.Str.{bytes_eq}
use Rattle.std.proofs.Math.Seq.{drop-append_seam}
use Rattle.apply_options.specs.declared.apply_schedule.ApplySchedule.{ApplySchedule}
use Rattle.apply_options.specs.declared.apply_schedule.DenseVertexSet.{DenseVertexSet}
use Rattle.apply_options.specs.declared.apply_schedule.DenseVertexSet.TheVariants as dense
use Rattle.apply_options.specs.declared.apply_schedule.Direction.{Direction}
use Rattle.apply_options.specs.declared.apply_schedule.Direction.TheVariants as direction
use Rattle.apply_options.specs.declared.apply_schedule.Parallelization.{Parallelization}
use Rattle.apply_options.specs.declared.apply_schedule.Parallelization.TheVariants as parallelization
use Rattle.typed_tree.specs.declared.statement.ApplyEnds.{ApplyEnds}
use Rattle.typed_tree.specs.declared.statement.SetValue.{SetValue}
use Rattle.typed_tree.specs.declared.statement.SetValue.TheVariants as set
use Rattle.typed_tree.specs.BlockTree as action
use Rattle.typed_tree.specs.BlockTree.{SimpleStatementTree}
use Rattle.typed_tree.specs.ProgramTree.{ProgramTree}
use Rattle.plans.specs.Instruction as operation
use Rattle.plans.specs.Instruction.{OperationTree, InstructionTree}
use Rattle.plan_text.specs.declared.applied_function.AppliedFunction.{AppliedFunction}
use Rattle.plan_text.specs.Lines.{dense_word, direction_word, edges_words, end_word, one_part, parallelization_word, part_words, second_words, set_instruction_words, statement_words}
use Rattle.lowering.specs.Text.{operation_words, shown_part, target_words}
use Rattle.decimal.specs.Numbers.{number_of}
use Rattle.decimal.proofs.NumberLaws.{decimal-IsReadBack}
use Rattle.plan_laws.specs.Kinds.{InstructionKind, ApplyEdges, instruction_words, kind_in, instruction_kind_of, kind_of_action, kind_of_set, index_behind, index_in, index_of}
use Rattle.plan_laws.specs.Settings.{dense_vertex_sets, directions, parallelizations, settings_in, settings_of, settings_used, settings_with}

-- the kind of each operation
set_kind : (p : ProgramTree) (name : ℕ) (value : SetValue) (apply_schedule : ApplySchedule) → kind_in (set_instruction_words p name value apply_schedule ++ []) ≡ Some (kind_of_set value)
set_kind p name set.Empty apply_schedule = refl
set_kind p name set.All apply_schedule = refl
set_kind p name (set.Copy slot) apply_schedule = refl
set_kind p name (set.Filter slot function) apply_schedule = refl
set_kind p name (set.Modified ends function vector) apply_schedule = refl

action_kind : (p : ProgramTree) (action : SimpleStatementTree) (apply_schedule : ApplySchedule) → kind_in (statement_words p action apply_schedule ++ []) ≡ Some (kind_of_action action)
action_kind p (action.DeclareInt name e) apply_schedule = refl
action_kind p (action.DeclareBool name c) apply_schedule = refl
action_kind p (action.SetInt slot e) apply_schedule = refl
action_kind p (action.SetBool slot c) apply_schedule = refl
action_kind p (action.ReduceInt slot reduction e) apply_schedule = refl
action_kind p (action.SetEntry vector index e) apply_schedule = refl
action_kind p (action.ReduceEntry vector index reduction e) apply_schedule = refl
action_kind p (action.DeclareSet name value) apply_schedule = set_kind p name value apply_schedule
action_kind p (action.AssignSet slot value) apply_schedule = set_kind p slot.name value apply_schedule
action_kind p (action.AddVertex slot e) apply_schedule = refl
action_kind p (action.PrintInt e) apply_schedule = refl
action_kind p (action.PrintBool c) apply_schedule = refl
action_kind p (action.ApplyVertex slot function) apply_schedule = refl
action_kind p (action.ApplyEdges ends function) apply_schedule = refl

kind_at : (p : ProgramTree) (apply_schedule : ApplySchedule) (o : OperationTree) → kind_in (operation_words p apply_schedule o ++ target_words o) ≡ Some (instruction_kind_of o)
kind_at p apply_schedule (operation.Do action) = action_kind p action apply_schedule
kind_at p apply_schedule (operation.ApplyEdgesTogether ends first second) = refl
kind_at p apply_schedule (operation.ApplyVerticesTogether slot first second) = refl
kind_at p apply_schedule (operation.Unless c to) = refl
kind_at p apply_schedule (operation.Enter name e) = refl
kind_at p apply_schedule (operation.UnlessBelow name to) = refl
kind_at p apply_schedule (operation.Advance name) = refl
kind_at p apply_schedule operation.Turn = refl
kind_at p apply_schedule (operation.Jump to) = refl
kind_at p apply_schedule operation.End = refl

pub kind_is : (p : ProgramTree) (i : InstructionTree) → kind_in (instruction_words p i) ≡ Some (instruction_kind_of i.operation)
kind_is p i = kind_at p i.apply_schedule i.operation

-- no other index may follow a statement
no_index_of_set : (value : SetValue) (words : List (List ℕ)) → index_behind (Some (kind_of_set value)) words ≡ None
no_index_of_set set.Empty words = refl
no_index_of_set set.All words = refl
no_index_of_set (set.Copy slot) words = refl
no_index_of_set (set.Filter slot function) words = refl
no_index_of_set (set.Modified ends function vector) words = refl

no_index : (action : SimpleStatementTree) (words : List (List ℕ)) → index_behind (Some (kind_of_action action)) words ≡ None
no_index (action.DeclareInt name e) words = refl
no_index (action.DeclareBool name c) words = refl
no_index (action.SetInt slot e) words = refl
no_index (action.SetBool slot c) words = refl
no_index (action.ReduceInt slot reduction e) words = refl
no_index (action.SetEntry vector index e) words = refl
no_index (action.ReduceEntry vector index reduction e) words = refl
no_index (action.DeclareSet name value) words = no_index_of_set value words
no_index (action.AssignSet slot value) words = no_index_of_set value words
no_index (action.AddVertex slot e) words = refl
no_index (action.PrintInt e) words = refl
no_index (action.PrintBool c) words = refl
no_index (action.ApplyVertex slot function) words = refl
no_index (action.ApplyEdges ends function) words = refl

number_is : (to : ℕ) → to < 2 ^ 64 → number_of (2 ^ 64) (decimal to) ≡ Some to
number_is to below = decimal-IsReadBack (2 ^ 64) to below below 0

index_at : (p : ProgramTree) (apply_schedule : ApplySchedule) (o : OperationTree) → IfSome (index_of o) (λ to. to < 2 ^ 64)
    → index_behind (Some (instruction_kind_of o)) (operation_words p apply_schedule o ++ target_words o) ≡ index_of o
index_at p apply_schedule (operation.Do action) below = no_index action (statement_words p action apply_schedule ++ [])
index_at p apply_schedule (operation.ApplyEdgesTogether ends first second) below = refl
index_at p apply_schedule (operation.ApplyVerticesTogether slot first second) below = refl
index_at p apply_schedule (operation.Unless c to) below = number_is to below
index_at p apply_schedule (operation.Enter name e) below = refl
index_at p apply_schedule (operation.UnlessBelow name to) below = number_is to below
index_at p apply_schedule (operation.Advance name) below = refl
index_at p apply_schedule operation.Turn below = refl
index_at p apply_schedule (operation.Jump to) below = number_is to below
index_at p apply_schedule operation.End below = refl

pub index_is : (p : ProgramTree) (i : InstructionTree) → IfSome (index_of i.operation) (λ to. to < 2 ^ 64) → index_in (instruction_words p i) ≡ index_of i.operation
index_is p i below =
    ap (λ (k : Option InstructionKind). index_behind k (instruction_words p i)) (kind_is p i) ∙ index_at p i.apply_schedule i.operation below

-- what the words of a schedule say
direction_is : (o : Option Direction) → lookup (bytes_eq (direction_word o)) directions ≡ Some (unwrap_or o direction.SparsePush)
direction_is None = refl
direction_is (Some direction.SparsePush) = refl
direction_is (Some direction.DensePush) = refl
direction_is (Some direction.DensePull) = refl
direction_is (Some direction.Hybrid) = refl

parallelization_is : (o : Option Parallelization) → lookup (bytes_eq (parallelization_word o)) parallelizations ≡ Some (unwrap_or o parallelization.Serial)
parallelization_is None = refl
parallelization_is (Some parallelization.Serial) = refl
parallelization_is (Some parallelization.StaticVertex) = refl
parallelization_is (Some parallelization.DynamicVertex) = refl
parallelization_is (Some parallelization.EdgeAwareDynamicVertex) = refl

dense_is : (o : Option DenseVertexSet) → lookup (bytes_eq (dense_word o)) dense_vertex_sets ≡ Some (unwrap_or o dense.BoolArray)
dense_is None = refl
dense_is (Some dense.BoolArray) = refl
dense_is (Some dense.Bitvector) = refl

abbrev three_words : ApplySchedule → List (List ℕ)
three_words apply_schedule = direction_word apply_schedule.direction ∷ parallelization_word apply_schedule.parallelization ∷ dense_word apply_schedule.dense_vertex_set ∷ []

three_are : (apply_schedule : ApplySchedule) → settings_of (three_words apply_schedule) ≡ Some (settings_used apply_schedule)
three_are apply_schedule =
    let p = lookup (bytes_eq (parallelization_word apply_schedule.parallelization)) parallelizations in
    let v = lookup (bytes_eq (dense_word apply_schedule.dense_vertex_set)) dense_vertex_sets in
    let d = unwrap_or apply_schedule.direction direction.SparsePush in
    let q = unwrap_or apply_schedule.parallelization parallelization.Serial in
    ap (λ (x : Option Direction). settings_with x p v) (direction_is apply_schedule.direction)
    ∙ ap (λ (x : Option Parallelization). settings_with (Some d) x v) (parallelization_is apply_schedule.parallelization)
    ∙ ap (λ (x : Option DenseVertexSet). settings_with (Some d) (Some q) x) (dense_is apply_schedule.dense_vertex_set)

last_three : (front three : List (List ℕ)) → length three ≡ 3 → drop (length (front ++ three) - 3) (front ++ three) ≡ three
last_three front three long =
    let size : length (front ++ three) - 3 ≡ length front = omega (arith, length-append front three, long) in
    ap (λ (n : ℕ). drop n (front ++ three)) size ∙ drop-append_seam front three

edges_are : (p : ProgramTree) (ends : ApplyEnds) (first : AppliedFunction) (second : Option AppliedFunction) (apply_schedule : ApplySchedule)
    → settings_in (edges_words p ends first second apply_schedule ++ []) ≡ Some (settings_used apply_schedule)
edges_are p ends first second apply_schedule =
    let one = part_words p first in
    let two = second_words p second in
    let front = codes "eapply" ∷ end_word p ends.from ∷ end_word p ends.to ∷ (one ++ (two ++ codes ":" ∷ [])) in
    let inner : one ++ (two ++ codes ":" ∷ three_words apply_schedule) ≡ (one ++ (two ++ codes ":" ∷ [])) ++ three_words apply_schedule =
    ap (λ (l : List (List ℕ)). one ++ l) (sym (append_assoc two (codes ":" ∷ []) (three_words apply_schedule))) ∙ sym (append_assoc one (two ++ codes ":" ∷ []) (three_words apply_schedule)) in
    let whole : edges_words p ends first second apply_schedule ++ [] ≡ front ++ three_words apply_schedule =
    append-nil (edges_words p ends first second apply_schedule) ∙ ap (λ (l : List (List ℕ)). codes "eapply" ∷ end_word p ends.from ∷ end_word p ends.to ∷ l) inner in
    ap settings_in whole ∙ ap settings_of (last_three front (three_words apply_schedule) refl) ∙ three_are apply_schedule

-- an edge apply is one of these
set_settings : (p : ProgramTree) (name : ℕ) (value : SetValue) (apply_schedule : ApplySchedule) → kind_of_set value ≡ ApplyEdges
    → settings_in (set_instruction_words p name value apply_schedule ++ []) ≡ Some (settings_used apply_schedule)
set_settings p name set.Empty apply_schedule is = absurd cc
set_settings p name set.All apply_schedule is = absurd cc
set_settings p name (set.Copy slot) apply_schedule is = absurd cc
set_settings p name (set.Filter slot function) apply_schedule is = absurd cc
set_settings p name (set.Modified ends function vector) apply_schedule is =
    edges_are p ends (one_part function (Some (record { name = name; vector = vector }))) None apply_schedule

action_settings : (p : ProgramTree) (action : SimpleStatementTree) (apply_schedule : ApplySchedule) → kind_of_action action ≡ ApplyEdges
    → settings_in (statement_words p action apply_schedule ++ []) ≡ Some (settings_used apply_schedule)
action_settings p (action.DeclareInt name e) apply_schedule is = absurd cc
action_settings p (action.DeclareBool name c) apply_schedule is = absurd cc
action_settings p (action.SetInt slot e) apply_schedule is = absurd cc
action_settings p (action.SetBool slot c) apply_schedule is = absurd cc
action_settings p (action.ReduceInt slot reduction e) apply_schedule is = absurd cc
action_settings p (action.SetEntry vector index e) apply_schedule is = absurd cc
action_settings p (action.ReduceEntry vector index reduction e) apply_schedule is = absurd cc
action_settings p (action.DeclareSet name value) apply_schedule is = set_settings p name value apply_schedule is
action_settings p (action.AssignSet slot value) apply_schedule is = set_settings p slot.name value apply_schedule is
action_settings p (action.AddVertex slot e) apply_schedule is = absurd cc
action_settings p (action.PrintInt e) apply_schedule is = absurd cc
action_settings p (action.PrintBool c) apply_schedule is = absurd cc
action_settings p (action.ApplyVertex slot function) apply_schedule is = absurd cc
action_settings p (action.ApplyEdges ends function) apply_schedule is = edges_are p ends (one_part function None) None apply_schedule

settings_at : (p : ProgramTree) (apply_schedule : ApplySchedule) (o : OperationTree) → instruction_kind_of o ≡ ApplyEdges
    → settings_in (operation_words p apply_schedule o ++ target_words o) ≡ Some (settings_used apply_schedule)
settings_at p apply_schedule (operation.Do action) is = action_settings p action apply_schedule is
settings_at p apply_schedule (operation.ApplyEdgesTogether ends first second) is = edges_are p ends (shown_part first) (Some (shown_part second)) apply_schedule
settings_at p apply_schedule (operation.ApplyVerticesTogether slot first second) is = absurd cc
settings_at p apply_schedule (operation.Unless c to) is = absurd cc
settings_at p apply_schedule (operation.Enter name e) is = absurd cc
settings_at p apply_schedule (operation.UnlessBelow name to) is = absurd cc
settings_at p apply_schedule (operation.Advance name) is = absurd cc
settings_at p apply_schedule operation.Turn is = absurd cc
settings_at p apply_schedule (operation.Jump to) is = absurd cc
settings_at p apply_schedule operation.End is = absurd cc

pub settings_are : (p : ProgramTree) (i : InstructionTree) → instruction_kind_of i.operation ≡ ApplyEdges → settings_in (instruction_words p i) ≡ Some (settings_used i.apply_schedule)
settings_are p i is = settings_at p i.apply_schedule i.operation is
