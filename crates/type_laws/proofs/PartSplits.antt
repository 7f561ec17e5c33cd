-- Each part of a source has the faults of its parts and the rules that it breaks itself.
use Rattle.std.proofs.Common.{◌≡◌, inl, inr, refl, ap, sym, subst, ◌∙◌, ℕ, pos, suc, length, Bool, true, false, not, ◌&&◌, ◌||◌, if◌then◌else◌, List, [], ◌∷◌, ◌++◌, Option, Some, None}
use Rattle.std.specs.Prelude.{is_some, map}
use Rattle.std.specs.List.{Contains}
use Rattle.std.proofs.lemmas.List.{append-nil, append_assoc}
use Rattle.syntax.specs.Terminals.{Identifier}
use Rattle.syntax.specs.SourceTrees as source
use Rattle.syntax.specs.SourceTrees.{StatementKindTree, BlockTree, DeclarationTree, EndsTree, InitialTree, ParameterTree, SourceTree}
use Rattle.syntax.specs.declared.declaration.DeclaredType.{DeclaredType}
use Rattle.syntax.specs.declared.declaration.DeclaredType.TheVariants as declared_type
use Rattle.typed_tree.specs.declared.expression.Endpoint.{Endpoint}
use Rattle.typed_tree.specs.declared.expression.Endpoint.TheVariants as endpoint
use Rattle.typed_tree.specs.BlockTree as block
use Rattle.typed_tree.specs.FunctionStatementTree as step
use Rattle.expression_types.specs.declared.fault.Fault.{Fault}
use Rattle.expression_types.specs.declared.fault.TypeRule.{TypeRule}
use Rattle.expression_types.specs.declared.fault.TypeRule.TheVariants as rule
use Rattle.expression_types.specs.declared.scope.Entity.{Entity}
use Rattle.expression_types.specs.declared.scope.Entity.TheVariants as entity
use Rattle.expression_types.specs.Expression.{index_value, used_name, value_of, vector_index}
use Rattle.expression_types.specs.ScopeTree.{ScopeTree}
use Rattle.expression_types.specs.ValueTree.{is_error}
use Rattle.types.specs.Block.{then_statement, statements_typed, action_typed}
use Rattle.initializer_types.specs.Checker.{CheckerTree, counted, declared_in, with_label, restarted, in_scope, as_index}
use Rattle.initializer_types.specs.DeclarationForms.{FunctionKindTree, MainKind, EdgeKind, VertexKind, FilterKind, NoKind, kind, literal_condition, literal_integer}
use Rattle.types.specs.Declaration.{DeclaredTree, begins, declarations_typed, declaration_typed, declare_constant_as}
use Rattle.types.specs.Declaration.{declare_function, declare_name, declare_edges, literal_or_fault, loads, next_name, only_edges, opened, parameters_declared, parameter, result_declared}
use Rattle.types.specs.Declaration.{result_entity, has_all}
use Rattle.initializer_types.specs.Initial.{InitializerTree, apply_end_of, initializer_of, is_all, is_error_end, is_loaded, is_sound, names_error}
use Rattle.types.specs.Program.{main_of, no_declarations, set_count}
use Rattle.types.specs.Statement.{declare_as, has_ends}
use Rattle.types.specs.Step.{declare_step_as, may_reduce, may_set, own_vertex, step_after, step_typed, steps_typed, written_at}
use Rattle.type_laws.specs.BrokenRules.{begins_constant, declares_in_function, declares_in_main, is_edgeset, is_initial, is_kind}
use Rattle.type_laws.specs.ExpressionParts as form
use Rattle.type_laws.specs.ExpressionParts.{Form, any_faulty, faults_of_all, form_faults, parts}
use Rattle.type_laws.specs.ExpressionRules.{all_rules, breaks_indexes, breaks_types, breaks_visibility, own_faults, place_of}
use Rattle.type_laws.specs.SourceParts.{Part, Source, Declarations, Declaration, Parameters, MainBlock, MainStatement, FunctionBlock, FunctionStatement, Label, NewName, Initial, IntWanted, BoolWanted}
use Rattle.type_laws.specs.SourceParts.{VectorWanted, MainIndex, FunctionIndex, InExpression, end_forms_before, function_parts, in_for, initial_forms, name_before, parts_of}
use Rattle.type_laws.proofs.ExpressionRules.{rules_and_parts}
use Rattle.type_laws.proofs.FaultyParts.{end_faulty, or_left}
use Rattle.type_laws.proofs.OwnFaults.{added_own, applied_own, as_condition_own, as_index_own, as_integer_own, as_vector_own, assigned_own, assigned_step_own, begins_own, condition_given}
use Rattle.type_laws.proofs.OwnFaults.{declared_own, declares, fault_if, filtered_own, integer_given, label_own, literal_own, loaded_own, main_own, may_reduce_own, may_set_own, members_given}
use Rattle.type_laws.proofs.OwnFaults.{modified_own, new_set_own, of_edges_own, printed_own, reduced_own, reduced_step_own, wanted_own, written_own}
use Rattle.type_laws.proofs.SplitFaults.{Splits, after, both_own, broken, ends, faults, faults_of_parts, here, last, none_contained, nothing, own_before, same_faults, same_parts}

-- forms of expressions
guarded : (faulty v t i : Bool) (a b c : Fault) → (faulty ≡ true → v ≡ false)
    → (if faulty then [] else (if v then a ∷ (if t then b ∷ (if i then c ∷ [] else []) else (if i then c ∷ [] else [])) else
    (if t then b ∷ (if i then c ∷ [] else []) else (if i then c ∷ [] else []))))
    ≡ (if v then a ∷ (if not faulty && t then b ∷ (if not faulty && i then c ∷ [] else []) else (if not faulty && i then c ∷ [] else []))
    else (if not faulty && t then b ∷ (if not faulty && i then c ∷ [] else []) else (if not faulty && i then c ∷ [] else [])))
guarded false v t i a b c seen = refl
guarded true false t i a b c seen = refl
guarded true true t i a b c seen = absurd (true_false (seen refl))
  where
    true_false : true ≡ false → ⊥
    true_false is = cc

seen_if_faulty : (scope : ScopeTree) (at : ℕ) (f : Form) → any_faulty scope at (parts scope f) ≡ true → breaks_visibility scope f ≡ false
seen_if_faulty scope at (form.Name name) is = absurd cc
seen_if_faulty scope at _ is = refl

form_own : (scope : ScopeTree) (at : ℕ) (f : Form) → own_faults scope at f ≡ broken (InExpression scope at f) all_rules
form_own scope at f =
    guarded (any_faulty scope at (parts scope f)) (breaks_visibility scope f) (breaks_types scope at f) (breaks_indexes scope at f)
    (record { at = place_of at f; rule = rule.UnknownName }) (record { at = place_of at f; rule = rule.WrongType }) (record { at = place_of at f; rule = rule.WrongIndex })
    (seen_if_faulty scope at f)

forms_are_parts : (scope : ScopeTree) (at : ℕ) (all : List Form) → faults_of_all scope at all ≡ faults_of_parts (map (InExpression scope at) all)
forms_are_parts scope at [] = refl
forms_are_parts scope at (f ∷ others) = ap (λ fs. form_faults scope at f ++ fs) (forms_are_parts scope at others)

form_splits : (scope : ScopeTree) (at : ℕ) (f : Form) → Splits (faults (InExpression scope at f)) (faults_of_parts (map (InExpression scope at) (parts scope f)))
    (broken (InExpression scope at f) all_rules)
form_splits scope at f =
    let mine = broken (InExpression scope at f) all_rules in
    let all = faults_of_parts (map (InExpression scope at) (parts scope f)) in
    same_faults (form_faults scope at f) (all ++ mine) all mine
    (rules_and_parts scope at f ∙ ap (λ fs. fs ++ own_faults scope at f) (forms_are_parts scope at (parts scope f)) ∙ ap (λ fs. all ++ fs) (form_own scope at f))
    (same_parts (all ++ mine) (all ++ []) all mine (append-nil all) (after all mine [] mine (last mine mine refl)))

-- a value with one part, and a fault of its own
value_splits : (m : List Fault) (mine own : List Fault) → mine ≡ own → Splits (m ++ mine) (m ++ []) own
value_splits m mine own is = after m mine [] own (last mine own is)

-- the names of ends
end_splits : (scope : ScopeTree) (at : ℕ) (o : Option Identifier) (others : List Form) (rest own : List Fault)
    → Splits rest (faults_of_parts (map (InExpression scope at) others)) own
    → Splits ((apply_end_of scope o).faults ++ rest) (faults_of_parts (map (InExpression scope at) (name_before o others))) own
end_splits scope at None others rest own splits = splits
end_splits scope at (Some name) others rest own splits =
    let e = used_name scope name in
    let all = faults_of_parts (map (InExpression scope at) others) in
    same_faults ((e.faults ++ []) ++ rest) (e.faults ++ rest) (e.faults ++ all) own (ap (λ fs. fs ++ rest) (append-nil e.faults)) (after e.faults rest all own splits)

-- initial values
always_initial : (b : Bool) (at : ℕ) (r : TypeRule) → fault_if at r (not (b || true)) ≡ []
always_initial true at r = refl
always_initial false at r = refl

initial_splits : (c : CheckerTree) (at : ℕ) (x : InitialTree) → Splits (faults (Initial c at x)) (faults_of_parts (parts_of (Initial c at x))) (broken (Initial c at x) all_rules)
initial_splits c at (source.NewSet size) = last _ _ (new_set_own at size)
initial_splits c at (source.Load argument) = last _ _ (loaded_own at argument)
initial_splits c at (source.Vertices edges) = let e = used_name c.scope edges in value_splits e.faults _ _ (of_edges_own at _ e.value)
initial_splits c at (source.OutDegrees edges) = let e = used_name c.scope edges in value_splits e.faults _ _ (of_edges_own at _ e.value)
initial_splits c at (source.Filter set test) =
    let s = used_name c.scope set in
    let f = used_name c.scope test in
    after s.faults _ (f.faults ++ []) _ (value_splits f.faults _ _ (filtered_own at s.value f.value))
initial_splits c at (source.ApplyModified edges sides function vector) =
    let e = used_name c.scope edges in
    let a = apply_end_of c.scope sides.from in
    let b = apply_end_of c.scope sides.to in
    let f = used_name c.scope function in
    let v = used_name c.scope vector in
    let forms = form.Name function ∷ form.Name vector ∷ [] in
    let faulty = any_faulty c.scope at (initial_forms (source.ApplyModified edges sides function vector)) in
    after e.faults _ (faults_of_parts (map (InExpression c.scope at) (end_forms_before sides forms))) _
    (end_splits c.scope at sides.from (name_before sides.to forms) _ _ (end_splits c.scope at sides.to forms _ _
    (after f.faults _ (v.faults ++ []) _ (value_splits v.faults _ _ (modified_own c at e.value a.value b.value f.value v.value faulty
    (sym (or_left (names_error e.value) (is_error_end a.value) (is_error_end b.value) (names_error f.value) (names_error v.value))
    ∙ ap (λ x. names_error e.value || x) (sym (end_faulty c.scope at sides.from (name_before sides.to forms) _ (end_faulty c.scope at sides.to forms _ refl)))))))))
initial_splits c at (source.Value e) =
    let v = value_of c.scope at e in nothing (v.faults ++ []) _ (always_initial (is_error v.value || false) at rule.WrongType)

-- declared variables: a fault of its own, and then the name
own_then_name : (c : CheckerTree) (name : Identifier) (e : Entity) (mine own : List Fault) → mine ≡ own
    → Splits (mine ++ ((declared_in c name e).faults ++ [])) (faults (NewName c.scope name) ++ []) own
own_then_name c name e mine own is =
    same_parts (mine ++ ((declared_in c name e).faults ++ [])) ((declared_in c name e).faults ++ []) (faults (NewName c.scope name) ++ []) own
    (ap (λ fs. fs ++ []) (declares c name e)) (here mine ((declared_in c name e).faults ++ []) own is)

declare_splits : (c : CheckerTree) (at : ℕ) (name : Identifier) (x : InitializerTree) (type : DeclaredType)
    → Splits (declare_as c at name x type).faults (faults (NewName c.scope name) ++ []) (fault_if at rule.WrongType (not (declares_in_main type x)))
declare_splits c at name x declared_type.Int = own_then_name c name _ _ _ (integer_given at x)
declare_splits c at name x declared_type.Bool = own_then_name c name _ _ _ (condition_given at x)
declare_splits c at name x declared_type.VertexSet = own_then_name c name _ _ _ (members_given at x)
declare_splits c at name x declared_type.Vertex = own_then_name c name entity.Error (record { at = at; rule = rule.WrongType } ∷ []) _ refl
declare_splits c at name x declared_type.Vector = own_then_name c name entity.Error (record { at = at; rule = rule.WrongType } ∷ []) _ refl
declare_splits c at name x declared_type.EdgeSet = own_then_name c name entity.Error (record { at = at; rule = rule.WrongType } ∷ []) _ refl
declare_splits c at name x declared_type.WeightedEdgeSet = own_then_name c name entity.Error (record { at = at; rule = rule.WrongType } ∷ []) _ refl

declare_step_splits : (c : CheckerTree) (at : ℕ) (name : Identifier) (x : InitializerTree) (type : DeclaredType)
    → Splits (declare_step_as c at name x type).faults (faults (NewName c.scope name) ++ []) (fault_if at rule.WrongType (not (declares_in_function type x)))
declare_step_splits c at name x declared_type.Int = own_then_name c name _ _ _ (integer_given at x)
declare_step_splits c at name x declared_type.Bool = own_then_name c name _ _ _ (condition_given at x)
declare_step_splits c at name x declared_type.VertexSet = own_then_name c name entity.Error (record { at = at; rule = rule.WrongType } ∷ []) _ refl
declare_step_splits c at name x declared_type.Vertex = own_then_name c name entity.Error (record { at = at; rule = rule.WrongType } ∷ []) _ refl
declare_step_splits c at name x declared_type.Vector = own_then_name c name entity.Error (record { at = at; rule = rule.WrongType } ∷ []) _ refl
declare_step_splits c at name x declared_type.EdgeSet = own_then_name c name entity.Error (record { at = at; rule = rule.WrongType } ∷ []) _ refl
declare_step_splits c at name x declared_type.WeightedEdgeSet = own_then_name c name entity.Error (record { at = at; rule = rule.WrongType } ∷ []) _ refl

-- the same list, with the name of a `for`, and with an index as one part
for_parts : (c : CheckerTree) (name : Identifier) (e : Entity) (first limit body : List Fault)
    → first ++ (limit ++ ((declared_in c name e).faults ++ (body ++ []))) ≡ first ++ (limit ++ (faults (NewName c.scope name) ++ (body ++ [])))
for_parts c name e first limit body = ap (λ fs. first ++ (limit ++ (fs ++ (body ++ [])))) (declares c name e)

entry_parts_are : (vector index mine value : List Fault) → vector ++ (index ++ (mine ++ (value ++ []))) ≡ vector ++ ((index ++ mine) ++ (value ++ []))
entry_parts_are vector index mine value = ap (λ fs. vector ++ fs) (sym (append_assoc index mine (value ++ [])))

main_statement_splits : (c : CheckerTree) (action : StatementKindTree)
    → Splits (faults (MainStatement c action)) (faults_of_parts (parts_of (MainStatement c action))) (broken (MainStatement c action) all_rules)
main_statement_splits c (source.Declare at p initial) =
    let x = initializer_of c at initial in after x.faults _ (faults (NewName c.scope p.name) ++ []) _ (declare_splits c at p.name x.value p.declared)
main_statement_splits c (source.While at test body) = nothing _ _ refl
main_statement_splits c (source.For at name first limit body) =
    let a = faults (IntWanted c.scope at first) in
    let z = faults (IntWanted c.scope at limit) in
    let b = faults (MainBlock (in_for c name) body) in
    same_faults _ (a ++ (z ++ (faults (NewName c.scope name) ++ (b ++ [])))) _ _ (for_parts c name _ a z b) (nothing _ _ refl)
main_statement_splits c (source.If at test body) = nothing _ _ refl
main_statement_splits c (source.IfElse at test body otherwise) = nothing _ _ refl
main_statement_splits c (source.Print at e) =
    let v = value_of c.scope at e in ends _ _ _ (value_splits v.faults _ _ (printed_own at v.value))
main_statement_splits c (source.Assign name initial) =
    let e = used_name c.scope name in
    let x = initializer_of c name.at initial in
    ends _ _ _ (after e.faults _ (x.faults ++ []) _ (value_splits x.faults _ _ (assigned_own name.at x.value e.value)))
main_statement_splits c (source.Reduce name by value) =
    let e = used_name c.scope name in
    let v = value_of c.scope name.at value in
    ends _ _ _ (after e.faults _ (v.faults ++ []) _ (value_splits v.faults _ _ (reduced_own name.at by v.value e.value)))
main_statement_splits c (source.SetEntry vector index e) =
    let v = faults (VectorWanted c.scope vector.at vector) in
    let i = value_of c.scope vector.at index in
    let x = faults (IntWanted c.scope vector.at e) in
    let at = (as_index vector.at i.value).faults in
    ends _ _ _ (same_faults _ (v ++ ((i.faults ++ at) ++ (x ++ []))) _ _ (entry_parts_are v i.faults at x) (nothing _ _ refl))
main_statement_splits c (source.ReduceEntry vector index by e) =
    let v = faults (VectorWanted c.scope vector.at vector) in
    let i = value_of c.scope vector.at index in
    let x = faults (IntWanted c.scope vector.at e) in
    let at = (as_index vector.at i.value).faults in
    ends _ _ _ (same_faults _ (v ++ ((i.faults ++ at) ++ (x ++ []))) _ _ (entry_parts_are v i.faults at x) (nothing _ _ refl))
main_statement_splits c (source.AddVertex set value) =
    let e = used_name c.scope set in
    let v = value_of c.scope set.at value in
    ends _ _ _ (after e.faults _ (v.faults ++ []) _ (value_splits v.faults _ _ (added_own set.at v.value e.value)))
main_statement_splits c (source.Apply target sides function) =
    let t = used_name c.scope target in
    let f = used_name c.scope function in
    let forms = form.Name function ∷ [] in
    ends _ _ _ (after t.faults _ (faults_of_parts (map (InExpression c.scope target.at) (end_forms_before sides forms))) _
    (end_splits c.scope target.at sides.from (name_before sides.to forms) _ _ (end_splits c.scope target.at sides.to forms _ _
    (value_splits f.faults _ _ (applied_own target.at t.value (apply_end_of c.scope sides.from).value (apply_end_of c.scope sides.to).value (has_ends sides) f.value)))))

function_statement_splits : (c : CheckerTree) (action : StatementKindTree)
    → Splits (faults (FunctionStatement c action)) (faults_of_parts (parts_of (FunctionStatement c action))) (broken (FunctionStatement c action) all_rules)
function_statement_splits c (source.Declare at p initial) =
    let x = initializer_of c at initial in after x.faults _ (faults (NewName c.scope p.name) ++ []) _ (declare_step_splits c at p.name x.value p.declared)
function_statement_splits c (source.While at test body) = here _ _ _ refl
function_statement_splits c (source.For at name first limit body) =
    let a = faults (IntWanted c.scope at first) in
    let z = faults (IntWanted c.scope at limit) in
    let b = faults (FunctionBlock (in_for c name) body) in
    same_parts _ _ _ _ (for_parts c name _ a z b) (here _ _ _ refl)
function_statement_splits c (source.If at test body) = nothing _ _ refl
function_statement_splits c (source.IfElse at test body otherwise) = nothing _ _ refl
function_statement_splits c (source.Print at e) = last _ _ refl
function_statement_splits c (source.Assign name initial) =
    let e = used_name c.scope name in
    let x = initializer_of c name.at initial in
    ends _ _ _ (after e.faults _ (x.faults ++ []) _ (value_splits x.faults _ _ (assigned_step_own name.at x.value e.value)))
function_statement_splits c (source.Reduce name by value) =
    let e = used_name c.scope name in
    let v = value_of c.scope name.at value in
    ends _ _ _ (after e.faults _ (v.faults ++ []) _ (value_splits v.faults _ _ (reduced_step_own name.at by v.value e.value)))
function_statement_splits c (source.SetEntry vector index e) =
    let v = faults (VectorWanted c.scope vector.at vector) in
    let i = index_value c.scope vector.at index in
    let x = faults (IntWanted c.scope vector.at e) in
    let at = (written_at vector.at (own_vertex c.scope.inside) i.value).faults in
    ends _ _ _ (same_parts _ _ _ _ (entry_parts_are v i.faults at x) (here (may_set vector.at c.scope.inside).faults _ _ (may_set_own vector.at c.scope.inside)))
function_statement_splits c (source.ReduceEntry vector index by e) =
    let v = vector_index c.scope vector.at vector in
    let i = index_value c.scope vector.at index in
    let x = faults (IntWanted c.scope vector.at e) in
    let at = (written_at vector.at (own_vertex c.scope.inside) i.value).faults in
    after v.faults _ ((i.faults ++ at) ++ (x ++ [])) _ (same_parts _ _ _ _ (sym (append_assoc i.faults at (x ++ [])))
    (here (may_reduce vector.at c.scope.inside v.value by c.writes).faults _ _ (may_reduce_own vector.at c.scope.inside v.value by c.writes)))
function_statement_splits c (source.AddVertex set value) = ends _ _ _ (here _ _ _ refl)
function_statement_splits c (source.Apply target sides function) =
    let t = used_name c.scope target in
    let f = used_name c.scope function in
    let forms = form.Name function ∷ [] in
    ends _ _ _ (own_before _ _ _ (after t.faults _ (faults_of_parts (map (InExpression c.scope target.at) (end_forms_before sides forms))) []
    (end_splits c.scope target.at sides.from (name_before sides.to forms) _ [] (end_splits c.scope target.at sides.to forms _ [] (nothing (f.faults ++ []) [] refl)))))

-- the faults of statements do not depend on the statements before them
mutual
  statements_same : (c : CheckerTree) (s t : block.BlockTree) (statements : BlockTree) → (statements_typed c s statements).faults ≡ (statements_typed c t statements).faults
  statements_same c s t source.Empty = refl
  statements_same c s t (source.Then label action others) =
      let l = with_label c label in
      let a = action_typed (counted l.value.1) action in
      ap (λ fs. l.faults ++ (a.faults ++ fs)) (statements_same a.value.1 (then_statement s (suc l.value.1.statements) l.value.0 a.value.0)
      (then_statement t (suc l.value.1.statements) l.value.0 a.value.0) others)

  steps_same : (c : CheckerTree) (s t : step.FunctionStatementsTree) (statements : BlockTree) → (steps_typed c s statements).faults ≡ (steps_typed c t statements).faults
  steps_same c s t source.Empty = refl
  steps_same c s t (source.Then label action others) =
      let l = with_label c label in
      let a = step_typed l.value.1 action in
      ap (λ fs. l.faults ++ (a.faults ++ fs)) (steps_same a.value.1 (step_after s a.value.0) (step_after t a.value.0) others)

main_block_splits : (c : CheckerTree) (statements : BlockTree)
    → Splits (faults (MainBlock c statements)) (faults_of_parts (parts_of (MainBlock c statements))) (broken (MainBlock c statements) all_rules)
main_block_splits c source.Empty = nothing [] _ refl
main_block_splits c (source.Then label action others) =
    let l = with_label c label in
    let a = action_typed (counted l.value.1) action in
    let rest = faults (MainBlock a.value.1 others) in
    same_faults _ (l.faults ++ (a.faults ++ (rest ++ []))) _ _
    (ap (λ fs. l.faults ++ (a.faults ++ fs)) (statements_same a.value.1 (then_statement block.Empty (suc l.value.1.statements) l.value.0 a.value.0) block.Empty others ∙ sym (append-nil rest)))
    (nothing _ _ refl)

function_block_splits : (c : CheckerTree) (statements : BlockTree)
    → Splits (faults (FunctionBlock c statements)) (faults_of_parts (parts_of (FunctionBlock c statements))) (broken (FunctionBlock c statements) all_rules)
function_block_splits c source.Empty = nothing [] _ refl
function_block_splits c (source.Then label action others) =
    let l = with_label c label in
    let a = step_typed l.value.1 action in
    let rest = faults (FunctionBlock a.value.1 others) in
    same_faults _ (l.faults ++ (a.faults ++ (rest ++ []))) _ _
    (ap (λ fs. l.faults ++ (a.faults ++ fs)) (steps_same a.value.1 (step_after step.NoStep a.value.0) step.NoStep others ∙ sym (append-nil rest)))
    (nothing _ _ refl)

label_splits : (c : CheckerTree) (label : Option Identifier) → Splits (faults (Label c label)) [] (broken (Label c label) all_rules)
label_splits c None = last _ _ refl
label_splits c (Some label) = last _ _ (label_own c label)

parameters_split : (weighted : Bool) (k : FunctionKindTree) (c : CheckerTree) (p : Endpoint) (vs : List ParameterTree) (result : Option ParameterTree)
    → Splits (faults (Parameters weighted k c p vs result)) (faults_of_parts (parts_of (Parameters weighted k c p vs result))) (broken (Parameters weighted k c p vs result) all_rules)
parameters_split weighted k c p [] None = nothing [] _ refl
parameters_split weighted k c p [] (Some result) =
    same_faults _ (faults (NewName c.scope result.name) ++ []) _ _ (declares c result.name (result_entity c k) ∙ sym (append-nil (faults (NewName c.scope result.name)))) (nothing _ _ refl)
parameters_split weighted k c p (v ∷ others) result =
    let new = declared_in c v.name (parameter weighted p v.declared) in
    let rest = parameters_declared weighted new.value endpoint.Destination others in
    let last_one = result_declared rest.value k result in
    same_faults _ (faults (NewName c.scope v.name) ++ ((rest.faults ++ last_one.faults) ++ [])) _ _
    (append_assoc new.faults rest.faults last_one.faults
    ∙ ap (λ fs. fs ++ (rest.faults ++ last_one.faults)) (declares c v.name (parameter weighted p v.declared))
    ∙ ap (λ fs. faults (NewName c.scope v.name) ++ fs) (sym (append-nil (rest.faults ++ last_one.faults)))) (nothing _ _ refl)

-- declarations
name_last : (d : DeclaredTree) (name : Identifier) (e : Entity) (mine own : List Fault) → mine ≡ own
    → Splits (mine ++ (declare_name d name e).faults) (faults (NewName d.checker.scope name) ++ []) own
name_last d name e mine own is = own_then_name d.checker name e mine own is

name_last_but_one : (d : DeclaredTree) (name : Identifier) (e : Entity) (mine own : List Fault) → mine ≡ own
    → Splits (mine ++ ((declare_name d name e).faults ++ [])) (faults (NewName d.checker.scope name) ++ []) own
name_last_but_one d name e mine own is =
    same_faults _ (mine ++ (declare_name d name e).faults) _ _ (ap (λ fs. mine ++ fs) (append-nil (declare_name d name e).faults)) (name_last d name e mine own is)

only_own : (name : Identifier) (index : ℕ) (o : Option ℕ) → (only_edges name index o).faults ≡ fault_if name.at rule.Redeclared (is_some o)
only_own name index None = refl
only_own name index (Some old) = refl

two_own : (a b : Bool) (x y : Fault) → (if a then x ∷ [] else []) ++ (if b then y ∷ [] else []) ≡ (if a then x ∷ (if b then y ∷ [] else []) else (if b then y ∷ [] else []))
two_own true b x y = refl
two_own false b x y = refl

edges_split : (weights : Bool) (d : DeclaredTree) (at : ℕ) (name : Identifier) (x : InitializerTree)
    → Splits (declare_edges weights d at name x).faults (faults (NewName d.checker.scope name) ++ [])
    (if is_some d.edges then record { at = name.at; rule = rule.Redeclared } ∷ fault_if at rule.WrongType (not (not (is_sound x) || is_loaded x)) else fault_if at rule.WrongType
    (not (not (is_sound x) || is_loaded x)))
edges_split weights d at name x =
    let loading = loads at x in
    let edges = only_edges name (next_name d) d.edges in
    let new = declare_name d name (entity.Edges weights) in
    same_parts _ (new.faults ++ []) _ _ (append-nil new.faults ∙ ap (λ fs. fs ++ []) (declares d.checker name (entity.Edges weights)))
    (both_own loading.faults edges.faults (new.faults ++ []) _
    (ap (λ fs. fs ++ loading.faults) (only_own name (next_name d) d.edges)
    ∙ ap (λ fs. fault_if name.at rule.Redeclared (is_some d.edges) ++ fs) (wanted_own at (not (is_sound x) || is_loaded x))
    ∙ two_own (is_some d.edges) (not (not (is_sound x) || is_loaded x)) (record { at = name.at; rule = rule.Redeclared }) (record { at = at; rule = rule.WrongType })))

-- the faults that a constant has itself
abbrev constant_own : DeclaredTree → ℕ → Identifier → InitialTree → DeclaredType → InitializerTree → List Fault
constant_own d at name initial type x =
    if is_edgeset type && is_some d.edges then record { at = name.at; rule = rule.Redeclared } ∷ fault_if at rule.WrongType (not (begins_constant type x initial))
    else fault_if at rule.WrongType (not (begins_constant type x initial))

constant_as_splits : (d : DeclaredTree) (at : ℕ) (name : Identifier) (initial : InitialTree) (type : DeclaredType) (x : InitializerTree)
    → Splits (declare_constant_as d at name initial type x).faults (faults (NewName d.checker.scope name) ++ []) (constant_own d at name initial type x)
constant_as_splits d at name initial declared_type.Int x =
    let n = literal_or_fault at (is_sound x) (pos 0) (literal_integer initial) in
    name_last d name (entity.IntConstant (next_name d) n.value) n.faults _ (literal_own at (is_sound x) (pos 0) (literal_integer initial))
constant_as_splits d at name initial declared_type.Bool x =
    let b = literal_or_fault at (is_sound x) false (literal_condition initial) in
    name_last d name (entity.BoolConstant (next_name d) b.value) b.faults _ (literal_own at (is_sound x) false (literal_condition initial))
constant_as_splits d at name initial declared_type.Vertex x = name_last d name entity.Error (record { at = at; rule = rule.WrongType } ∷ []) _ refl
constant_as_splits d at name initial declared_type.VertexSet x =
    name_last_but_one d name (entity.ConstantSet (record { index = length d.sets; name = next_name d })) (has_all at x).faults _ (wanted_own at (not (is_sound x) || is_all x))
constant_as_splits d at name initial declared_type.Vector x = name_last_but_one d name (entity.Vector (length d.vectors)) (begins at x initial).faults _ (begins_own at x initial)
constant_as_splits d at name initial declared_type.EdgeSet x = edges_split false d at name x
constant_as_splits d at name initial declared_type.WeightedEdgeSet x = edges_split true d at name x

-- the name of a function, after its statements
name_after : (d : DeclaredTree) (c : CheckerTree) (name : Identifier) (e : Entity) (ps body : List Fault)
    → ps ++ (body ++ ((declare_name (record d { checker = in_scope c d.checker.scope }) name e).faults ++ [])) ≡ ps ++ (body ++ (faults (NewName d.checker.scope name) ++ []))
name_after d c name e ps body =
    ap (λ fs. ps ++ (body ++ fs)) (append-nil (declare_name (record d { checker = in_scope c d.checker.scope }) name e).faults ∙ ap (λ fs. fs ++ []) (declares (in_scope c d.checker.scope) name e))

function_splits : (d : DeclaredTree) (at : ℕ) (name : Identifier) (ps : List ParameterTree) (result : Option ParameterTree) (body : BlockTree) (k : FunctionKindTree)
    → Splits (declare_function d at name ps result body k).faults (faults_of_parts (function_parts d k name ps result body)) (fault_if at rule.WrongType (not (is_kind k)))
function_splits d at name ps result body (MainKind fits) =
    let o = opened (restarted d.checker) (MainKind fits) ps result in
    let b = statements_typed o.value block.Empty body in
    same_faults _ (o.faults ++ (b.faults ++ (faults (NewName d.checker.scope name) ++ []))) _ _ (name_after d b.value.1 name entity.Main o.faults b.faults) (nothing _ _ refl)
function_splits d at name ps result body (EdgeKind weighted) =
    let o = opened d.checker (EdgeKind weighted) ps result in
    let b = steps_typed o.value step.NoStep body in
    same_faults _ (o.faults ++ (b.faults ++ (faults (NewName d.checker.scope name) ++ []))) _ _
    (name_after d b.value.1 name (entity.EdgeFunction (length d.edge_functions) weighted) o.faults b.faults) (nothing _ _ refl)
function_splits d at name ps result body VertexKind =
    let o = opened d.checker VertexKind ps result in
    let b = steps_typed o.value step.NoStep body in
    same_faults _ (o.faults ++ (b.faults ++ (faults (NewName d.checker.scope name) ++ []))) _ _
    (name_after d b.value.1 name (entity.VertexFunction (length d.vertex_functions)) o.faults b.faults) (nothing _ _ refl)
function_splits d at name ps result body FilterKind =
    let o = opened d.checker FilterKind ps result in
    let b = steps_typed o.value step.NoStep body in
    same_faults _ (o.faults ++ (b.faults ++ (faults (NewName d.checker.scope name) ++ []))) _ _
    (name_after d b.value.1 name (entity.Filter (length d.filters)) o.faults b.faults) (nothing _ _ refl)
function_splits d at name ps result body NoKind =
    let o = opened d.checker NoKind ps result in
    let b = steps_typed o.value step.NoStep body in
    let new = declare_name (record d { checker = in_scope b.value.1 d.checker.scope }) name entity.Error in
    same_parts _ (o.faults ++ (b.faults ++ new.faults)) _ _
    (ap (λ fs. o.faults ++ (b.faults ++ (fs ++ []))) (declares (in_scope b.value.1 d.checker.scope) name entity.Error)) (here _ _ _ refl)

declaration_splits : (d : DeclaredTree) (x : DeclarationTree) → Splits (faults (Declaration d x)) (faults_of_parts (parts_of (Declaration d x))) (broken (Declaration d x) all_rules)
declaration_splits d (source.Constant at p initial) =
    let x = initializer_of d.checker at initial in
    after x.faults _ (faults (NewName d.checker.scope p.name) ++ []) _ (constant_as_splits d at p.name initial p.declared x.value)
declaration_splits d (source.Function at name ps result body) = function_splits d at name ps result body (kind name.bytes ps result)

declarations_split : (d : DeclaredTree) (xs : List DeclarationTree) → Splits (faults (Declarations d xs)) (faults_of_parts (parts_of (Declarations d xs))) (broken (Declarations d xs) all_rules)
declarations_split d [] = nothing [] _ refl
declarations_split d (x ∷ others) =
    let one = declaration_typed d x in
    let rest = declarations_typed one.value others in
    same_faults _ (one.faults ++ (rest.faults ++ [])) _ _ (ap (λ fs. one.faults ++ fs) (sym (append-nil rest.faults))) (nothing _ _ refl)

source_splits : (s : SourceTree) (length : ℕ) → Splits (faults (Source s length)) (faults_of_parts (parts_of (Source s length))) (broken (Source s length) all_rules)
source_splits s length =
    let d = declarations_typed (no_declarations (set_count s.declarations)) s.declarations in
    value_splits d.faults _ _ (append-nil (main_of length d.value.main).faults ∙ main_own length d.value.main)

pub splits : (part : Part) → Splits (faults part) (faults_of_parts (parts_of part)) (broken part all_rules)
splits (Source s length) = source_splits s length
splits (Declarations d xs) = declarations_split d xs
splits (Declaration d x) = declaration_splits d x
splits (Parameters weighted k c p vs result) = parameters_split weighted k c p vs result
splits (MainBlock c statements) = main_block_splits c statements
splits (MainStatement c action) = main_statement_splits c action
splits (FunctionBlock c statements) = function_block_splits c statements
splits (FunctionStatement c action) = function_statement_splits c action
splits (Label c label) = label_splits c label
splits (NewName scope name) = last _ _ (declared_own scope name)
splits (Initial c at x) = initial_splits c at x
splits (IntWanted scope at e) = let v = value_of scope at e in value_splits v.faults _ _ (as_integer_own at v.value)
splits (BoolWanted scope at e) = let v = value_of scope at e in value_splits v.faults _ _ (as_condition_own at v.value)
splits (VectorWanted scope at name) = let e = used_name scope name in value_splits e.faults _ _ (as_vector_own at e.value)
splits (MainIndex scope at e) = let v = value_of scope at e in value_splits v.faults _ _ (as_index_own at v.value)
splits (FunctionIndex scope at e) = let v = index_value scope at e in value_splits v.faults _ _ (written_own at (own_vertex scope.inside) v.value)
splits (InExpression scope at f) = form_splits scope at f

-- an initial value with a faulty form has the faults of its forms alone
pub faulty_initial : (c : CheckerTree) (at : ℕ) (x : InitialTree) (f : Fault) → any_faulty c.scope at (initial_forms x) ≡ true → Contains (initializer_of c at x).faults f
    → Contains (faults_of_all c.scope at (initial_forms x)) f
faulty_initial c at x f faulty has = elim ((initial_splits c at x).there f has) [
  | inl there ↦ subst (λ fs. Contains fs f) (sym (forms_are_parts c.scope at (initial_forms x))) there
  | inr mine ↦ absurd (none_contained f (subst (λ b. Contains (fault_if at rule.WrongType (not (b || is_initial c at x))) f) faulty mine))
]
