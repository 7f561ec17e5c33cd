-- A statement of main without a fault keeps the rules.
use Rattle.std.proofs.Common.{◌≡◌, ◌⊎◌, inl, inr, refl, sym, subst, ap, ◌∙◌, ℕ, suc, Bool, true, false, ◌||◌, if◌then◌else◌, List, [], ◌∷◌, ◌++◌, get_or}
use Rattle.std.proofs.Common.{Option, Some, None}
use Rattle.std.specs.Prelude.{is_some}
use Rattle.std.specs.List.{Contains, list_any}
use Rattle.std.specs.Option.{option_map}
use Rattle.std.specs.Str.{bytes_eq}
use Rattle.std.proofs.lemmas.List.Folds.{list_any_at}
use Rattle.std.proofs.lemmas.Slice.Eq.{bytes_eq-Decides}
use Rattle.syntax.specs.Terminals.{Identifier}
use Rattle.syntax.specs.SourceTrees.{ExpressionTree, EndsTree, InitialTree}
use Rattle.syntax.specs.SourceTrees as source
use Rattle.syntax.specs.declared.declaration.DeclaredType.{DeclaredType}
use Rattle.syntax.specs.declared.declaration.DeclaredType.TheVariants as declared
use Rattle.apply_options.specs.declared.reduction.Reduction.{Reduction}
use Rattle.typed_tree.specs.declared.expression.VarRef.{VarRef}
use Rattle.typed_tree.specs.declared.statement.SetValue.TheVariants as set
use Rattle.typed_tree.specs.BlockTree.{BlockTree, Empty}
use Rattle.typed_tree.specs.IntExpressionTree.{IntExpressionTree}
use Rattle.expression_types.specs.declared.fault.TypeRule.TheVariants as rule
use Rattle.expression_types.specs.declared.scope.Entity.{Entity}
use Rattle.expression_types.specs.declared.scope.Entity.TheVariants as entity
use Rattle.expression_types.specs.declared.scope.Inside.{Inside}
use Rattle.expression_types.specs.declared.scope.Inside.TheVariants as inside
use Rattle.expression_types.specs.Expression.{used_name, value_of, vector_index}
use Rattle.expression_types.specs.ScopeTree.{found, ScopeTree, declared_over}
use Rattle.expression_types.specs.Operators.{first_condition, first_integer}
use Rattle.expression_types.specs.ValueTree as value
use Rattle.expression_types.specs.ValueTree.{ValueTree, condition_reads_entry, entity_set, reads_entry}
use Rattle.expression_types.specs.Faults.{fault_at, sure}
use Rattle.types.specs.Block.{action_typed, then_statement, closed, statements_typed}
use Rattle.initializer_types.specs.Checker.{CheckerTree, condition_slot, counted, declared_in, integer_slot, with_label, new_label, set_slot, as_index, integer_wanted, condition_in}
use Rattle.initializer_types.specs.Checker.{integer_in, no_index}
use Rattle.initializer_types.specs.Initial as initial_value
use Rattle.initializer_types.specs.Initial.{ApplyEndTree, edge_function, apply_end_of}
use Rattle.initializer_types.specs.Initial.{initializer_condition, initializer_integer, initializer_members, initializer_of, is_edges, is_wrong, lacks_weights, names_error}
use Rattle.types.specs.Statement.{add_vertex, added_to_set, apply, assign, assigned, declare_variable, edges_applied, has_ends, print, printed, reduce, reduce_entry, reduced, set_applied}
use Rattle.types.specs.Statement.{set_entry, vertices_applied}
use Rattle.types.specs.Statement as statement
use Rattle.type_laws.specs.EntryAccess.{HasNoEntry}
use Rattle.type_laws.specs.ExpressionTypes.{ExpressionHas, ExpressionType, IsNumberExpression, IsTruth, Set, Vertex, type_named}
use Rattle.type_laws.specs.KeptRules.{ActionKeeps, AppliesEdges, AppliesVertices, ApplyFits, AssignFits, AssignsNumber, AssignsSet, AssignsTruth, BlockKeeps}
use Rattle.type_laws.specs.KeptRules.{VariableFits}
use Rattle.type_laws.specs.Meanings as meaning
use Rattle.type_laws.specs.ScopeMeanings.{meaning_of, meanings_of}
use Rattle.type_laws.specs.Meanings.{IsNew, Known, LabelIsNew, Meanings, closed_known, known_after, known_behind, labelled_known, reduced_in, variable_meaning, with_meaning}
use Rattle.type_laws.proofs.Booleans.{both_false, false_is_not_true, neither_true}
use Rattle.type_laws.proofs.Faultless.{no_left, no_right, not_empty}
use Rattle.type_laws.proofs.PlainIndexes.{IsPlain, expression_plain}
use Rattle.type_laws.proofs.TypedExpressions.{AreConditions, AreIntegers, IsOf, found_meaning}
use Rattle.type_laws.proofs.FaultlessExpressions.{IsMeant, as_number, as_truth}
use Rattle.type_laws.proofs.KeptNames.{Matches, closed_kept, counted_kept, declared_kept, labelled_kept, labels_named}
use Rattle.type_laws.proofs.KeptStatements.{action_kept, statements_kept}
use Rattle.type_laws.proofs.FaultlessInitials.{IsSome, AreSome, more_some, Sees, value_typed, not_error, value_number, integer_number, condition_truth, used_is, vector_is_found}
use Rattle.type_laws.proofs.FaultlessInitials.{clear_no_error, set_means, EdgesFit, edges_fit, vertex_function_means, means_as, has_as, end_fits, gives_number, gives_truth}
use Rattle.type_laws.proofs.FaultlessInitials.{gives_members}

-- declarations, whose names are new
no_meaning_found : (name : List ℕ) (visible : List (List ℕ × Entity)) (o : Option Entity) → found name visible ≡ o → o ≡ None → found name (meanings_of visible) ≡ None
no_meaning_found name visible o is none = found_meaning name visible ∙ ap (option_map meaning_of) (is ∙ none)

not_redeclared : (name : Identifier) (e : Entity) (scope : ScopeTree) (o : Option Entity) → (declared_over o name e scope).faults ++ [] ≡ [] → o ≡ None
not_redeclared name e scope None none = refl
not_redeclared name e scope (Some old) none = absurd (not_empty _ _ none)

pub declares_new : (i : Inside) (c : CheckerTree) (k : Known) → Sees i c k → (name : Identifier) (e : Entity) → (declared_in c name e).faults ≡ [] → IsNew k name
declares_new i c k s name e none =
    subst (λ ns. found name.bytes ns ≡ None) s.matches.names
    (no_meaning_found name.bytes c.scope.visible (found name.bytes c.scope.visible) refl (not_redeclared name e c.scope (found name.bytes c.scope.visible) none))

declare_keeps : (c : CheckerTree) (k : Known) → Sees inside.Main c k → (at : ℕ) (name : Identifier) (initial : InitialTree) (type : DeclaredType)
    → (declare_variable c at name type initial).faults ≡ []
    → VariableFits inside.Main k type initial × IsNew k name
declare_keeps c k s at name initial declared.Int none =
    let g = initializer_of c at initial in
    let x = initializer_integer at g.value in
    let after_g = no_right g.faults _ none in
    let d = no_right x.faults _ after_g in (
      gives_number inside.Main c k s at initial (no_left g.faults _ none) (no_left x.faults _ after_g),
      declares_new inside.Main c k s name (entity.IntVariable (integer_slot c)) (no_left (declared_in c name (entity.IntVariable (integer_slot c))).faults [] d),
    )
declare_keeps c k s at name initial declared.Bool none =
    let g = initializer_of c at initial in
    let x = initializer_condition at g.value in
    let after_g = no_right g.faults _ none in
    let d = no_right x.faults _ after_g in (
      gives_truth inside.Main c k s at initial (no_left g.faults _ none) (no_left x.faults _ after_g),
      declares_new inside.Main c k s name (entity.BoolVariable (condition_slot c)) (no_left (declared_in c name (entity.BoolVariable (condition_slot c))).faults [] d),
    )
declare_keeps c k s at name initial declared.VertexSet none =
    let g = initializer_of c at initial in
    let x = initializer_members at g.value in
    let after_g = no_right g.faults _ none in
    let d = no_right x.faults _ after_g in (
      (tt, gives_members inside.Main c k s at initial (no_left g.faults _ none) (no_left x.faults _ after_g)),
      declares_new inside.Main c k s name (entity.SetVariable (set_slot c)) (no_left (declared_in c name (entity.SetVariable (set_slot c))).faults [] d),
    )
declare_keeps c k s at name initial declared.Vertex none = absurd (not_empty _ _ (no_right (initializer_of c at initial).faults _ none))
declare_keeps c k s at name initial declared.Vector none = absurd (not_empty _ _ (no_right (initializer_of c at initial).faults _ none))
declare_keeps c k s at name initial declared.EdgeSet none = absurd (not_empty _ _ (no_right (initializer_of c at initial).faults _ none))
declare_keeps c k s at name initial declared.WeightedEdgeSet none = absurd (not_empty _ _ (no_right (initializer_of c at initial).faults _ none))

-- assignments
assigned_fits : (c : CheckerTree) (k : Known) → Sees inside.Main c k → (at : ℕ) (name : Identifier) (initial : InitialTree) → (initializer_of c at initial).faults ≡ [] → (e : Entity)
    → IsMeant k.names name e
    → (assigned at (initializer_of c at initial).value e).faults ≡ [] → AssignFits inside.Main k name initial
assigned_fits c k s at name initial given (entity.IntVariable slot) is none =
    AssignsNumber is.means (gives_number inside.Main c k s at initial given (no_left (initializer_integer at (initializer_of c at initial).value).faults [] none))
assigned_fits c k s at name initial given (entity.BoolVariable slot) is none =
    AssignsTruth is.means (gives_truth inside.Main c k s at initial given (no_left (initializer_condition at (initializer_of c at initial).value).faults [] none))
assigned_fits c k s at name initial given (entity.SetVariable slot) is none =
    AssignsSet is.means tt (gives_members inside.Main c k s at initial given (no_left (initializer_members at (initializer_of c at initial).value).faults [] none))
assigned_fits c k s at name initial given entity.Error is none = absurd (is.clear refl)
assigned_fits c k s at name initial given _ is none = absurd (not_empty _ _ none)

assign_keeps : (c : CheckerTree) (k : Known) → Sees inside.Main c k → (at : ℕ) (name : Identifier) (initial : InitialTree) → (assign c at name initial).faults ≡ []
    → AssignFits inside.Main k name initial
assign_keeps c k s at name initial none =
    let u = used_name c.scope name in
    let g = initializer_of c at initial in
    let after_u = no_right u.faults _ none in
    assigned_fits c k s at name initial (no_left g.faults _ after_u) u.value (used_is inside.Main c k s name (no_left u.faults _ none)) (no_right g.faults _ after_u)

-- reductions, and vertices that are added
reduced_is : (names : Meanings) (at : ℕ) (name : Identifier) (by : Reduction) (v : ValueTree) (e : Entity) → IsMeant names name e → (reduced at by v e).faults ≡ []
    → (found name.bytes names ≡ Some meaning.NumberVariable) × ((integer_wanted at v).faults ≡ [])
reduced_is names at name by v (entity.IntVariable slot) is none = (is.means, no_left (integer_wanted at v).faults [] none)
reduced_is names at name by v entity.Error is none = absurd (is.clear refl)
reduced_is names at name by v _ is none = absurd (not_empty _ _ none)

reduce_keeps : (c : CheckerTree) (k : Known) → Sees inside.Main c k → (at : ℕ) (name : Identifier) (by : Reduction) (e : ExpressionTree) → (reduce c.scope at name by e).faults ≡ []
    → (found name.bytes k.names ≡ Some meaning.NumberVariable) × IsNumberExpression k.names inside.Main e
reduce_keeps c k s at name by e none =
    let u = used_name c.scope name in
    let v = value_of c.scope at e in
    let after_u = no_right u.faults _ none in
    let x = reduced_is k.names at name by v.value u.value (used_is inside.Main c k s name (no_left u.faults _ none)) (no_right v.faults _ after_u) in
    (x.0, value_number inside.Main c k s at e (no_left v.faults _ after_u) x.1)

added_is : (names : Meanings) (at : ℕ) (name : Identifier) (v : ValueTree) (e : Entity) → IsMeant names name e → (added_to_set at v e).faults ≡ []
    → (found name.bytes names ≡ Some meaning.SetVariable) × ((integer_wanted at v).faults ≡ [])
added_is names at name v (entity.SetVariable slot) is none = (is.means, no_left (integer_wanted at v).faults [] none)
added_is names at name v entity.Error is none = absurd (is.clear refl)
added_is names at name v _ is none = absurd (not_empty _ _ none)

add_keeps : (c : CheckerTree) (k : Known) → Sees inside.Main c k → (at : ℕ) (name : Identifier) (e : ExpressionTree) → (add_vertex c.scope at name e).faults ≡ []
    → (found name.bytes k.names ≡ Some meaning.SetVariable) × IsNumberExpression k.names inside.Main e
add_keeps c k s at name e none =
    let u = used_name c.scope name in
    let v = value_of c.scope at e in
    let after_u = no_right u.faults _ none in
    let x = added_is k.names at name v.value u.value (used_is inside.Main c k s name (no_left u.faults _ none)) (no_right v.faults _ after_u) in
    (x.0, value_number inside.Main c k s at e (no_left v.faults _ after_u) x.1)

-- entries
if_plain_index : (at : ℕ) (e : IntExpressionTree) (b : Bool) → reads_entry e ≡ b → (if b then fault_at at rule.WrongIndex None else sure (Some e)).faults ≡ [] → reads_entry e ≡ false
if_plain_index at e true is none = absurd (not_empty _ _ none)
if_plain_index at e false is none = is

no_index_fault : (at : ℕ) (b : Bool) → (no_index at b).faults ≡ [] → ⊥
no_index_fault at true none = not_empty _ _ none
no_index_fault at false none = not_empty _ _ none

index_is : (at : ℕ) (type : ExpressionType) (v : ValueTree) → IsOf type v → (as_index at v).faults ≡ [] → AreIntegers (first_integer v) × IsPlain v
index_is at type (value.Integer e) is none = (tt, if_plain_index at e (reads_entry e) refl none)
index_is at type (value.Condition c) is none = absurd (no_index_fault at (condition_reads_entry c) none)
index_is at type (value.Vertex p) is none = (tt, tt)
index_is at type (value.Set slot) is none = absurd (not_empty _ _ none)
index_is at type value.ErrorValue is none = absurd (not_error type is)

pub record KeepsEntry (k : Known) (name : Identifier) (index e : ExpressionTree) : Type 0 where
  pub vector : ℕ
  pub means : found name.bytes k.names ≡ Some (meaning.Vector vector)
  pub number : IsNumberExpression k.names inside.Main index
  pub plain : HasNoEntry index
  pub value : IsNumberExpression k.names inside.Main e

entry_keeps : (c : CheckerTree) (k : Known) → Sees inside.Main c k → (at : ℕ) (name : Identifier) (subscript e : ExpressionTree)
    → (vector_index c.scope at name).faults ++ ((value_of c.scope at subscript).faults ++ ((as_index at (value_of c.scope at subscript).value).faults ++ ((integer_in c.scope at e).faults ++ []))) ≡ []
    → KeepsEntry k name subscript e
entry_keeps c k s at name subscript e none =
    let index = vector_index c.scope at name in
    let v = value_of c.scope at subscript in
    let i = as_index at v.value in
    let x = integer_in c.scope at e in
    let after_vector = no_right index.faults _ none in
    let after_v = no_right v.faults _ after_vector in
    let after_i = no_right i.faults _ after_v in
    let there = vector_is_found inside.Main c k s at name (no_left index.faults _ none) in
    let t = value_typed inside.Main c k s at subscript (no_left v.faults _ after_vector) in
    let fits = index_is at t.type v.value t.is (no_left i.faults _ after_v) in
    record {
      vector = there.vector;
      means = there.means;
      number = as_number v (ExpressionHas k.names inside.Main subscript) t fits.0;
      plain = expression_plain c.scope at subscript fits.1;
      value = integer_number inside.Main c k s at e (no_left x.faults [] after_i);
    }

-- what is printed
printed_is : (at : ℕ) (type : ExpressionType) (v : ValueTree) → IsOf type v → (printed at v).faults ≡ [] → AreIntegers (first_integer v) ⊎ AreConditions (first_condition v)
printed_is at type (value.Integer e) is none = inl tt
printed_is at type (value.Condition c) is none = inr tt
printed_is at type (value.Vertex p) is none = inl tt
printed_is at type (value.Set slot) is none = absurd (not_empty _ _ none)
printed_is at type value.ErrorValue is none = absurd (not_error type is)

print_keeps : (c : CheckerTree) (k : Known) → Sees inside.Main c k → (at : ℕ) (e : ExpressionTree) → (print c.scope at e).faults ≡ [] → IsNumberExpression k.names inside.Main e
    ⊎ IsTruth k.names inside.Main e
print_keeps c k s at e none =
    let v = value_of c.scope at e in
    let t = value_typed inside.Main c k s at e (no_left v.faults _ none) in
    elim (printed_is at t.type v.value t.is (no_right v.faults _ none)) [
      | inl number ↦ inl (as_number v (ExpressionHas k.names inside.Main e) t number)
      | inr truth ↦ inr (as_truth v (ExpressionHas k.names inside.Main e) t truth)
    ]

-- applies
pub record AppliesTo (t f : Entity) (a b : ApplyEndTree) (ends : Bool) : Type 0 where
  pub edges : ((is_wrong a ≡ false) × (is_wrong b ≡ false) × ((index : ℕ) × EdgesFit t f index))
      ⊎ ((type_named (Some (meaning_of t)) ≡ Some Set) × (ends ≡ false) × (meaning_of f ≡ meaning.VertexFunction))

edge_function_there : (at : ℕ) (a b : ApplyEndTree) (f : Entity) (o : Option ℕ) → edge_function f ≡ o → (edges_applied at a b false o).faults ≡ [] → (index : ℕ) × (edge_function f ≡ Some index)
edge_function_there at a b f None is none = absurd (not_empty _ _ none)
edge_function_there at a b f (Some index) is none = (index, is)

vertex_function_there : (at : ℕ) (slot : VarRef) (f : Entity) (o : Option ℕ) → initial_value.vertex_function f ≡ o → (vertices_applied at slot false o).faults ≡ []
    → meaning_of f ≡ meaning.VertexFunction
vertex_function_there at slot f None is none = absurd (not_empty _ _ none)
vertex_function_there at slot f (Some index) is none = vertex_function_means f index is

set_applies : (at : ℕ) (t f : Entity) (a b : ApplyEndTree) (ends : Bool) (o : Option VarRef) → names_error f ≡ false → entity_set t ≡ o → (set_applied at ends f o).faults ≡ [] → AppliesTo t f a b ends
set_applies at t f a b ends None clear is none = absurd (not_empty _ _ none)
set_applies at t f a b true (Some slot) clear is none = absurd (not_empty _ _ none)
set_applies at t f a b false (Some slot) clear is none = record {
  edges = inr (
    set_means t slot is,
    refl,
    vertex_function_there at slot f (initial_value.vertex_function f) refl
        (subst (λ x. (vertices_applied at slot x (initial_value.vertex_function f)).faults ≡ []) clear none),
  );
}

applied_where : (at : ℕ) (t f : Entity) (a b : ApplyEndTree) (ends : Bool) (error edges wrong : Bool) → error ≡ false → names_error f ≡ false → is_edges t ≡ edges
    → (is_wrong a || is_wrong b || lacks_weights t f) ≡ wrong
    → (if error then sure statement.no_action else (if edges then (if wrong then fault_at at rule.WrongType statement.no_action else edges_applied at a b (names_error f)
    (edge_function f)) else set_applied at ends f (entity_set t))).faults ≡ []
    → AppliesTo t f a b ends
applied_where at t f a b ends true edges wrong clear also are is none = absurd cc
applied_where at t f a b ends false false wrong clear also are is none = set_applies at t f a b ends (entity_set t) also refl none
applied_where at t f a b ends false true true clear also are is none = absurd (not_empty _ _ none)
applied_where at t f a b ends false true false clear also are is none =
    let all = both_false (is_wrong a || is_wrong b) (lacks_weights t f) is in
    let right = both_false (is_wrong a) (is_wrong b) all.0 in
    let there = edge_function_there at a b f (edge_function f) refl (subst (λ x. (edges_applied at a b x (edge_function f)).faults ≡ []) also none) in
    record { edges = inl (right.0, right.1, (there.0, edges_fit t f there.0 are there.1 all.1)) }

no_end : (from to : Option Identifier) → (is_some from || is_some to) ≡ false → (from ≡ None) × (to ≡ None)
no_end None None is = (refl, refl)
no_end None (Some to) is = absurd cc
no_end (Some from) to is = absurd cc

apply_keeps : (c : CheckerTree) (k : Known) → Sees inside.Main c k → (at : ℕ) (target : Identifier) (ends : EndsTree) (function : Identifier) → (apply c.scope at target ends function).faults ≡ []
    → ApplyFits k target ends function
apply_keeps c k s at target ends function none =
    let t = used_name c.scope target in
    let a = apply_end_of c.scope ends.from in
    let b = apply_end_of c.scope ends.to in
    let f = used_name c.scope function in
    let after_t = no_right t.faults _ none in
    let after_a = no_right a.faults _ after_t in
    let after_b = no_right b.faults _ after_a in
    let m = used_is inside.Main c k s target (no_left t.faults _ none) in
    let n = used_is inside.Main c k s function (no_left f.faults _ after_b) in
    let x = applied_where at t.value f.value a.value b.value (has_ends ends) (names_error t.value) (is_edges t.value) (is_wrong a.value || is_wrong b.value || lacks_weights t.value f.value)
    (clear_no_error t.value m.clear) (clear_no_error f.value n.clear) refl refl (no_right f.faults _ after_b) in
    elim x.edges [
      | inl edges ↦ let fit = edges.2.1 in AppliesEdges fit.weights edges.2.0 fit.weighted (means_as k.names target t.value (meaning.Edges fit.weights) m fit.edges)
          (end_fits inside.Main c k s ends.from (no_left a.faults _ after_t) edges.0, end_fits inside.Main c k s ends.to (no_left b.faults _ after_a) edges.1)
          (means_as k.names function f.value (meaning.EdgeFunction edges.2.0 fit.weighted) n fit.function) fit.sees
      | inr vertices ↦ AppliesVertices (has_as k.names target t.value Set m vertices.0) (no_end ends.from ends.to vertices.1).0 (no_end ends.from ends.to vertices.1).1
          (means_as k.names function f.value meaning.VertexFunction n vertices.2)
    ]

-- labels
is_first : (b : Bool) (index : ℕ) (o : Option ℕ) → (if b then Some index else o) ≡ None → (b ≡ false) × (o ≡ None)
is_first true index o is = absurd cc
is_first false index o is = (refl, is)

found_nowhere : (label : List ℕ) (labels : List (List ℕ × ℕ)) → found label labels ≡ None → list_any (bytes_eq label) (labels_named labels) ≡ false
found_nowhere label [] none = refl
found_nowhere label (x ∷ others) none =
    let first = is_first (bytes_eq label x.0) x.1 (found label others) none in
    neither_true (bytes_eq label x.0) (list_any (bytes_eq label) (labels_named others)) first.0 (found_nowhere label others first.1)

contained_nowhere : (label : List ℕ) (labels : List (List ℕ × ℕ)) → found label labels ≡ None → Contains (labels_named labels) label → ⊥
contained_nowhere label labels none there =
    let same : bytes_eq label (get_or (labels_named labels) there.0 label) ≡ true = (bytes_eq-Decides label (get_or (labels_named labels) there.0 label)).1 (sym there.2) in
    false_is_not_true (sym (found_nowhere label labels none) ∙ list_any_at (bytes_eq label) (labels_named labels) there.0 label there.1 same)

label_keeps : (i : Inside) (c : CheckerTree) (k : Known) → Matches i c k → (label : Option Identifier) → (with_label c label).faults ≡ [] → LabelIsNew k label
label_keeps i c k m None none = tt
label_keeps i c k m (Some label) none = subst (λ ls. Contains ls label.bytes → ⊥) m.labels (at_found (found label.bytes c.labels) refl none)
  where
    at_found : (o : Option ℕ) → found label.bytes c.labels ≡ o → (new_label c label o).faults ≡ [] → Contains (labels_named c.labels) label.bytes → ⊥
    at_found None is none there = contained_nowhere label.bytes c.labels is there
    at_found (Some index) is none there = not_empty _ _ none

-- what is known after a statement that keeps the rules means something
variable_some : (i : Inside) (k : Known) (type : DeclaredType) (initial : InitialTree) → VariableFits i k type initial → IsSome (variable_meaning type)
variable_some i k declared.Int initial fits = tt
variable_some i k declared.Bool initial fits = tt
variable_some i k declared.VertexSet initial fits = tt
variable_some i k declared.Vertex initial fits = absurd fits
variable_some i k declared.Vector initial fits = absurd fits
variable_some i k declared.EdgeSet initial fits = absurd fits
variable_some i k declared.WeightedEdgeSet initial fits = absurd fits

reduced_some : (i : Inside) (k : Known) (vector : Identifier) (by : Reduction) → AreSome k.names → AreSome (reduced_in i k vector by).names
reduced_some inside.Main k vector by some = some
reduced_some inside.EdgeFunction k vector by some = some
reduced_some inside.VertexFunction k vector by some = some
reduced_some inside.Filter k vector by some = some

pub after_some : (i : Inside) (k : Known) (action : source.StatementKindTree) → AreSome k.names → ActionKeeps i k action → AreSome (known_behind i k action).names
after_some i k (source.Declare at p initial) some keeps = more_some k.names p.name.bytes (variable_meaning p.declared) some (variable_some i k p.declared initial keeps.0)
after_some i k (source.While at test body) some keeps = some
after_some i k (source.For at name first limit body) some keeps = some
after_some i k (source.If at test body) some keeps = some
after_some i k (source.IfElse at test body otherwise) some keeps = some
after_some i k (source.Print at e) some keeps = some
after_some i k (source.Assign name initial) some keeps = some
after_some i k (source.Reduce name by e) some keeps = some
after_some i k (source.SetEntry vector index e) some keeps = some
after_some i k (source.ReduceEntry vector index by e) some keeps = reduced_some i k vector by some
after_some i k (source.AddVertex set e) some keeps = some
after_some i k (source.Apply target ends function) some keeps = some

label_some : (k : Known) (label : Option Identifier) → AreSome k.names → AreSome (labelled_known k label).names
label_some k None some = some
label_some k (Some label) some = some

pub labelled_sees : (i : Inside) (c : CheckerTree) (k : Known) → Sees i c k → (label : Option Identifier) → (with_label c label).faults ≡ [] → LabelIsNew k label
    × Sees i (with_label c label).value.1 (labelled_known k label)
labelled_sees i c k s label none =
    let new = label_keeps i c k s.matches label none in
    (new, record { matches = (labelled_kept i c k s.matches label new).1; some = label_some k label s.some })

mutual
  pub action_keeps : (c : CheckerTree) (k : Known) → Sees inside.Main c k → (action : source.StatementKindTree) → (action_typed c action).faults ≡ [] → ActionKeeps inside.Main k action
  action_keeps c k s (source.Declare at p initial) none = declare_keeps c k s at p.name initial p.declared none
  action_keeps c k s (source.While at test body) none =
      let t = condition_in c.scope at test in
      let b = statements_typed c Empty body in
      (tt, condition_truth inside.Main c k s at test (no_left t.faults _ none), statements_keep c k s Empty body (no_left b.faults [] (no_right t.faults _ none)))
  action_keeps c k s (source.For at name first limit body) none =
      let a = integer_in c.scope at first in
      let z = integer_in c.scope at limit in
      let e = entity.LoopVariable (integer_slot c) in
      let d = declared_in c name e in
      let b = statements_typed d.value Empty body in
      let after_a = no_right a.faults _ none in
      let after_z = no_right z.faults _ after_a in
      let new = declares_new inside.Main c k s name e (no_left d.faults _ after_z) in
      let inner : Sees inside.Main d.value (with_meaning k name meaning.LoopName) =
      record { matches = (declared_kept inside.Main c k s.matches name e meaning.LoopName refl new).1; some = more_some k.names name.bytes meaning.LoopName s.some tt } in (
        tt,
        integer_number inside.Main c k s at first (no_left a.faults _ none),
        integer_number inside.Main c k s at limit (no_left z.faults _ after_a),
        new,
        statements_keep d.value (with_meaning k name meaning.LoopName) inner Empty body (no_left b.faults [] (no_right d.faults _ after_z)),
      )
  action_keeps c k s (source.If at test body) none =
      let t = condition_in c.scope at test in
      let b = statements_typed c Empty body in
      (condition_truth inside.Main c k s at test (no_left t.faults _ none), statements_keep c k s Empty body (no_left b.faults [] (no_right t.faults _ none)))
  action_keeps c k s (source.IfElse at test body otherwise) none =
      let t = condition_in c.scope at test in
      let b = statements_typed c Empty body in
      let d = closed c b.value.1 in
      let o = statements_typed d Empty otherwise in
      let after_t = no_right t.faults _ none in
      let first = statements_keep c k s Empty body (no_left b.faults _ after_t) in
      let inner : Sees inside.Main d (closed_known k (known_after inside.Main k body)) =
      record { matches = closed_kept inside.Main inside.Main c b.value.1 k (known_after inside.Main k body) s.matches (statements_kept c k s.matches Empty body first).1; some = s.some } in (
        condition_truth inside.Main c k s at test (no_left t.faults _ none),
        first,
        statements_keep d (closed_known k (known_after inside.Main k body)) inner Empty otherwise (no_left o.faults [] (no_right b.faults _ after_t)),
      )
  action_keeps c k s (source.Print at e) none = (tt, print_keeps c k s at e (no_left (print c.scope at e).faults [] none))
  action_keeps c k s (source.Assign name initial) none = assign_keeps c k s name.at name initial (no_left (assign c name.at name initial).faults [] none)
  action_keeps c k s (source.Reduce name by e) none = reduce_keeps c k s name.at name by e (no_left (reduce c.scope name.at name by e).faults [] none)
  action_keeps c k s (source.SetEntry vector subscript e) none =
      let x = entry_keeps c k s vector.at vector subscript e (no_left (set_entry c.scope vector.at vector subscript e).faults [] none) in
      (tt, record { vector = x.vector; means = x.means }, (x.number, x.plain), x.value)
  action_keeps c k s (source.ReduceEntry vector subscript by e) none =
      let x = entry_keeps c k s vector.at vector subscript e (no_left (reduce_entry c.scope vector.at vector subscript by e).faults [] none) in
      record { index = x.vector; means = x.means; may = tt; at = (x.number, x.plain); value = x.value }
  action_keeps c k s (source.AddVertex set e) none =
      let x = add_keeps c k s set.at set e (no_left (add_vertex c.scope set.at set e).faults [] none) in (tt, x.0, x.1)
  action_keeps c k s (source.Apply target ends function) none = (tt, apply_keeps c k s target.at target ends function (no_left (apply c.scope target.at target ends function).faults [] none))

  pub statements_keep : (c : CheckerTree) (k : Known) → Sees inside.Main c k → (so_far : BlockTree) (block : source.BlockTree) → (statements_typed c so_far block).faults ≡ []
      → BlockKeeps inside.Main k block
  statements_keep c k s so_far source.Empty none = tt
  statements_keep c k s so_far (source.Then label action others) none =
      let l = with_label c label in
      let d = counted l.value.1 in
      let a = action_typed d action in
      let after_l = no_right l.faults _ none in
      let labels = labelled_sees inside.Main c k s label (no_left l.faults _ none) in
      let known = labelled_known k label in
      let here : Sees inside.Main d known = record { matches = counted_kept inside.Main l.value.1 known labels.1.matches; some = labels.1.some } in
      let keeps = action_keeps d known here action (no_left a.faults _ after_l) in
      let next : Sees inside.Main a.value.1 (known_behind inside.Main known action) =
      record { matches = (action_kept d known here.matches action keeps).1; some = after_some inside.Main known action here.some keeps } in (
        labels.0,
        keeps,
        statements_keep a.value.1 (known_behind inside.Main known action) next (then_statement so_far (suc l.value.1.statements) l.value.0 a.value.0) others
            (no_right a.faults _ after_l),
      )
