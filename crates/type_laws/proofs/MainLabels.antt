-- The labels of main are in order.
use Rattle.std.proofs.Common.{◌≡◌, refl, sym, subst, ◌∙◌, ap, ℕ, suc, ◌+◌, arith, Bool, true, false, ◌||◌, if◌then◌else◌, List, [], ◌∷◌, ◌++◌, length, length-append, Option, Some, None}
use Rattle.std.proofs.lemmas.List.{append_assoc}
use Rattle.syntax.specs.Terminals.{Identifier}
use Rattle.syntax.specs.declared.declaration.DeclaredType.{DeclaredType}
use Rattle.syntax.specs.declared.declaration.DeclaredType.TheVariants as declared
use Rattle.apply_options.specs.declared.reduction.Reduction.{Reduction}
use Rattle.syntax.specs.SourceTrees as source
use Rattle.syntax.specs.SourceTrees.{ParameterTree, InitialTree, DeclarationTree, SourceTree}
use Rattle.typed_tree.specs.declared.expression.VarRef.{VarRef}
use Rattle.typed_tree.specs.IntExpressionTree.{IntExpressionTree}
use Rattle.typed_tree.specs.BlockTree.{StatementKindTree, BlockTree, Empty, Then}
use Rattle.expression_types.specs.declared.scope.Entity.{Entity}
use Rattle.expression_types.specs.declared.scope.Entity.TheVariants as entity
use Rattle.expression_types.specs.Expression.{used_name, value_of, vector_index}
use Rattle.expression_types.specs.ScopeTree.{found}
use Rattle.expression_types.specs.Faults.{WithFaults}
use Rattle.expression_types.specs.ValueTree as value
use Rattle.expression_types.specs.ValueTree.{ValueTree, entity_set}
use Rattle.types.specs.Block.{action_typed, then_statement, closed, statements_typed}
use Rattle.initializer_types.specs.Checker.{CheckerTree, counted, declared_in, integer_slot, with_label, new_label, restarted, in_scope, as_index, condition_in, integer_in}
use Rattle.initializer_types.specs.DeclarationForms.{FunctionKindTree, MainKind, EdgeKind, VertexKind, FilterKind, NoKind, kind}
use Rattle.types.specs.Declaration.{DeclaredTree, declaration_typed, declarations_typed, declare_constant_as, declare_function, declare_name, opened, with_main_block}
use Rattle.initializer_types.specs.Initial.{ApplyEndTree, InitializerTree, edge_function, apply_end_of, initializer_of, is_edges, names_error, is_error_end, is_wrong, vertex_function, lacks_weights}
use Rattle.types.specs.Program.{main_of, no_declarations, program_of, set_count}
use Rattle.types.specs.Statement.{add_vertex, added_to_set, applied, apply, assign, assigned, declare_as, edges_applied, entry_reduced, entry_set, has_ends, print, printed, reduce, reduce_entry}
use Rattle.types.specs.Statement.{reduced, set_applied, set_entry, vertices_applied}
use Rattle.type_laws.specs.LabelIndices.{LabelsAreInOrder, inner_indices, label_indices, own_index}
use Rattle.type_laws.specs.Numbers.{InOrder}
use Rattle.type_laws.proofs.Faultless.{no_left, no_right, not_empty}
use Rattle.type_laws.proofs.Numbers.{order-append}

-- labels that follow those so far
record Follow (from : ℕ) (labels : List ℕ) (to : ℕ) : Type 0 where
  pub ordered : InOrder from labels
  pub count : to ≡ length labels + from

no_labels : (n : ℕ) → Follow n [] n
no_labels n = record { ordered = tt; count = omega arith }

then_labels : (a b c : ℕ) (xs ys : List ℕ) → Follow a xs b → Follow b ys c → Follow a (xs ++ ys) c
then_labels a b c xs ys first second =
    let h : b ≡ length xs + a = first.count in
    let k : c ≡ length ys + b = second.count in
    record {
      ordered = order-append a xs ys first.ordered (subst (λ m. InOrder m ys) h second.ordered);
      count = omega (arith, h, k, length-append xs ys);
    }

indices_after : (so_far : BlockTree) (number : ℕ) (label : Option ℕ) (action : StatementKindTree)
    → label_indices (then_statement so_far number label action) ≡ label_indices so_far ++ (own_index label ++ (inner_indices action ++ []))
indices_after Empty number label action = refl
indices_after (Then n l a others) number label action =
    ap (λ ls. own_index l ++ (inner_indices a ++ ls)) (indices_after others number label action)
    ∙ ap (λ ls. own_index l ++ ls) (sym (append_assoc (inner_indices a) (label_indices others) (own_index label ++ (inner_indices action ++ []))))
    ∙ sym (append_assoc (own_index l) (inner_indices a ++ label_indices others) (own_index label ++ (inner_indices action ++ [])))

-- no statement is in it
abbrev Plain : StatementKindTree → Type 0
Plain a = inner_indices a ≡ []

if_plain : (b : Bool) (x y : WithFaults StatementKindTree) → Plain x.value → Plain y.value → Plain (if b then x else y).value
if_plain true x y first second = first
if_plain false x y first second = second

assigned_plain : (at : ℕ) (initializer : InitializerTree) (e : Entity) → Plain (assigned at initializer e).value
assigned_plain at initializer (entity.Edges weights) = refl
assigned_plain at initializer _ = refl

reduced_plain : (at : ℕ) (by : Reduction) (v : ValueTree) (e : Entity) → Plain (reduced at by v e).value
reduced_plain at by v (entity.Edges weights) = refl
reduced_plain at by v _ = refl

added_plain : (at : ℕ) (v : ValueTree) (e : Entity) → Plain (added_to_set at v e).value
added_plain at v (entity.Edges weights) = refl
added_plain at v _ = refl

set_plain : (vector : Option ℕ) (index : Option IntExpressionTree) (e : IntExpressionTree) → Plain (entry_set vector index e)
set_plain None index e = refl
set_plain (Some vector) None e = refl
set_plain (Some vector) (Some index) e = refl

entry_plain : (vector : Option ℕ) (index : Option IntExpressionTree) (by : Reduction) (e : IntExpressionTree) → Plain (entry_reduced vector index by e)
entry_plain None index by e = refl
entry_plain (Some vector) None by e = refl
entry_plain (Some vector) (Some index) by e = refl

printed_plain : (at : ℕ) (v : ValueTree) → Plain (printed at v).value
printed_plain at (value.Integer e) = refl
printed_plain at (value.Condition c) = refl
printed_plain at (value.Vertex p) = refl
printed_plain at (value.Set slot) = refl
printed_plain at value.ErrorValue = refl

edges_plain : (at : ℕ) (a b : ApplyEndTree) (error : Bool) (function : Option ℕ) → Plain (edges_applied at a b error function).value
edges_plain at a b true None = refl
edges_plain at a b false None = refl
edges_plain at a b error (Some function) = if_plain (is_error_end a || is_error_end b) _ _ refl refl

vertices_plain : (at : ℕ) (slot : VarRef) (error : Bool) (function : Option ℕ) → Plain (vertices_applied at slot error function).value
vertices_plain at slot true None = refl
vertices_plain at slot false None = refl
vertices_plain at slot error (Some function) = refl

set_applied_plain : (at : ℕ) (ends : Bool) (f : Entity) (set : Option VarRef) → Plain (set_applied at ends f set).value
set_applied_plain at ends f None = refl
set_applied_plain at ends f (Some slot) = if_plain ends _ _ refl (vertices_plain at slot (names_error f) (vertex_function f))

applied_plain : (at : ℕ) (t : Entity) (a b : ApplyEndTree) (ends : Bool) (f : Entity) → Plain (applied at t a b ends f).value
applied_plain at t a b ends f =
    if_plain (names_error t) _ _ refl (if_plain (is_edges t) _ _
    (if_plain (is_wrong a || is_wrong b || lacks_weights t f) _ _ refl (edges_plain at a b (names_error f) (edge_function f)))
    (set_applied_plain at ends f (entity_set t)))

-- what a statement is, and the checker after it
abbrev met : CheckerTree → ℕ
met c = length c.labels

abbrev ActionFollows : ℕ → StatementKindTree × CheckerTree → Type 0
ActionFollows n r = Follow n (inner_indices r.0) (met r.1)

abbrev BlockFollows : ℕ → BlockTree × CheckerTree → Type 0
BlockFollows n b = Follow n (label_indices b.0) (met b.1)

plain_follows : (n : ℕ) (a : StatementKindTree) → Plain a → Follow n (inner_indices a) n
plain_follows n a plain = subst (λ ls. Follow n ls n) (sym plain) (no_labels n)

new_label_follows : (c : CheckerTree) (label : Identifier) (index : Option ℕ) → (new_label c label index).faults ≡ []
    → Follow (met c) (own_index (new_label c label index).value.0) (met (new_label c label index).value.1)
new_label_follows c label None none = record { ordered = (refl, tt); count = omega (arith, length-append c.labels ((label.bytes, length c.labels) ∷ [])) }
new_label_follows c label (Some index) none = absurd (not_empty _ _ none)

labelled_follows : (c : CheckerTree) (label : Option Identifier) → (with_label c label).faults ≡ [] → Follow (met c) (own_index (with_label c label).value.0) (met (with_label c label).value.1)
labelled_follows c None none = no_labels (met c)
labelled_follows c (Some label) none = new_label_follows c label (found label.bytes c.labels) none

declare_follows : (c : CheckerTree) (at : ℕ) (name : Identifier) (initializer : InitializerTree) (type : DeclaredType) → ActionFollows (met c) (declare_as c at name initializer type).value
declare_follows c at name initializer declared.Int = no_labels (met c)
declare_follows c at name initializer declared.Bool = no_labels (met c)
declare_follows c at name initializer declared.Vertex = no_labels (met c)
declare_follows c at name initializer declared.VertexSet = no_labels (met c)
declare_follows c at name initializer declared.Vector = no_labels (met c)
declare_follows c at name initializer declared.EdgeSet = no_labels (met c)
declare_follows c at name initializer declared.WeightedEdgeSet = no_labels (met c)

mutual
  action_follows : (c : CheckerTree) (action : source.StatementKindTree) → (action_typed c action).faults ≡ [] → ActionFollows (met c) (action_typed c action).value
  action_follows c (source.Declare at p initial) none = declare_follows c at p.name (initializer_of c at initial).value p.declared
  action_follows c (source.While at test body) none =
      let b = statements_typed c Empty body in
      statements_follow (met c) c Empty body (no_left b.faults [] (no_right (condition_in c.scope at test).faults _ none)) (no_labels (met c))
  action_follows c (source.For at name first limit body) none =
      let d = declared_in c name (entity.LoopVariable (integer_slot c)) in
      let b = statements_typed d.value Empty body in
      let names = no_right (integer_in c.scope at limit).faults (d.faults ++ (b.faults ++ [])) (no_right (integer_in c.scope at first).faults _ none) in
      statements_follow (met c) d.value Empty body (no_left b.faults [] (no_right d.faults (b.faults ++ []) names)) (no_labels (met c))
  action_follows c (source.If at test body) none =
      let b = statements_typed c Empty body in
      statements_follow (met c) c Empty body (no_left b.faults [] (no_right (condition_in c.scope at test).faults _ none)) (no_labels (met c))
  action_follows c (source.IfElse at test body otherwise) none =
      let b = statements_typed c Empty body in
      let d = closed c b.value.1 in
      let o = statements_typed d Empty otherwise in
      let both = no_right (condition_in c.scope at test).faults (b.faults ++ (o.faults ++ [])) none in
      then_labels (met c) (met b.value.1) (met o.value.1) (label_indices b.value.0) (label_indices o.value.0)
      (statements_follow (met c) c Empty body (no_left b.faults (o.faults ++ []) both) (no_labels (met c)))
      (statements_follow (met b.value.1) d Empty otherwise (no_left o.faults [] (no_right b.faults (o.faults ++ []) both)) (no_labels (met b.value.1)))
  action_follows c (source.Print at e) none = plain_follows (met c) (print c.scope at e).value (printed_plain at (value_of c.scope at e).value)
  action_follows c (source.Assign name initial) none =
      plain_follows (met c) (assign c name.at name initial).value (assigned_plain name.at (initializer_of c name.at initial).value (used_name c.scope name).value)
  action_follows c (source.Reduce name by e) none =
      plain_follows (met c) (reduce c.scope name.at name by e).value (reduced_plain name.at by (value_of c.scope name.at e).value (used_name c.scope name).value)
  action_follows c (source.SetEntry vector index e) none =
      plain_follows (met c) (set_entry c.scope vector.at vector index e).value (set_plain (vector_index c.scope vector.at vector).value
      (as_index vector.at (value_of c.scope vector.at index).value).value (integer_in c.scope vector.at e).value)
  action_follows c (source.ReduceEntry vector index by e) none =
      plain_follows (met c) (reduce_entry c.scope vector.at vector index by e).value
      (entry_plain (vector_index c.scope vector.at vector).value (as_index vector.at (value_of c.scope vector.at index).value).value by (integer_in c.scope vector.at e).value)
  action_follows c (source.AddVertex set e) none =
      plain_follows (met c) (add_vertex c.scope set.at set e).value (added_plain set.at (value_of c.scope set.at e).value (used_name c.scope set).value)
  action_follows c (source.Apply target ends function) none =
      plain_follows (met c) (apply c.scope target.at target ends function).value
      (applied_plain target.at (used_name c.scope target).value (apply_end_of c.scope ends.from).value (apply_end_of c.scope ends.to).value (has_ends ends) (used_name c.scope function).value)

  statements_follow : (n : ℕ) (c : CheckerTree) (so_far : BlockTree) (block : source.BlockTree) → (statements_typed c so_far block).faults ≡ [] → Follow n (label_indices so_far) (met c)
      → BlockFollows n (statements_typed c so_far block).value
  statements_follow n c so_far source.Empty none follow = follow
  statements_follow n c so_far (source.Then label action others) none follow =
      let l = with_label c label in
      let d = counted l.value.1 in
      let a = action_typed d action in
      let number = suc l.value.1.statements in
      let next = then_statement so_far number l.value.0 a.value.0 in
      let rest = statements_typed a.value.1 next others in
      let both = no_right l.faults (a.faults ++ rest.faults) none in
      let own = labelled_follows c label (no_left l.faults (a.faults ++ rest.faults) none) in
      let inner = action_follows d action (no_left a.faults rest.faults both) in
      let inside = then_labels (met l.value.1) (met a.value.1) (met a.value.1) (inner_indices a.value.0) [] inner (no_labels (met a.value.1)) in
      let here = then_labels (met c) (met l.value.1) (met a.value.1) (own_index l.value.0) (inner_indices a.value.0 ++ []) own inside in
      let all = then_labels n (met c) (met a.value.1) (label_indices so_far) (own_index l.value.0 ++ (inner_indices a.value.0 ++ [])) follow here in
      statements_follow n a.value.1 next others (no_right a.faults rest.faults both)
      (subst (λ ls. Follow n ls (met a.value.1)) (sym (indices_after so_far number l.value.0 a.value.0)) all)

-- the labels of what is main so far
abbrev AreOrdered : BlockTree → Type 0
AreOrdered main = (first : ℕ) × InOrder first (label_indices main)

abbrev MainIsOrdered : Option BlockTree → Type 0
MainIsOrdered None = Unit {0}
MainIsOrdered (Some main) = AreOrdered main

constant_ordered : (d : DeclaredTree) (at : ℕ) (name : Identifier) (initial : InitialTree) (type : DeclaredType) (initializer : InitializerTree) → MainIsOrdered d.main
    → MainIsOrdered (declare_constant_as d at name initial type initializer).value.main
constant_ordered d at name initial declared.Int initializer order = order
constant_ordered d at name initial declared.Bool initializer order = order
constant_ordered d at name initial declared.Vertex initializer order = order
constant_ordered d at name initial declared.VertexSet initializer order = order
constant_ordered d at name initial declared.Vector initializer order = order
constant_ordered d at name initial declared.EdgeSet initializer order = order
constant_ordered d at name initial declared.WeightedEdgeSet initializer order = order

with_main_ordered : (d : DeclaredTree) (fits : Bool) (main : BlockTree) → MainIsOrdered d.main → AreOrdered main → MainIsOrdered (with_main_block d fits main).main
with_main_ordered d true main old new = new
with_main_ordered d false main old new = old

main_ordered : (d : DeclaredTree) (at : ℕ) (name : Identifier) (parameters : List ParameterTree) (result : Option ParameterTree) (body : source.BlockTree) (kind : FunctionKindTree)
    → (declare_function d at name parameters result body kind).faults ≡ [] → MainIsOrdered d.main → MainIsOrdered (declare_function d at name parameters result body kind).value.main
main_ordered d at name parameters result body (MainKind fits) none order =
    let c = opened (restarted d.checker) (MainKind fits) parameters result in
    let b = statements_typed c.value Empty body in
    let e = declare_name (record d { checker = in_scope b.value.1 d.checker.scope }) name entity.Main in
    let clear = no_left b.faults (e.faults ++ []) (no_right c.faults (b.faults ++ (e.faults ++ [])) none) in
    with_main_ordered e.value fits b.value.0 order (met c.value, (statements_follow (met c.value) c.value Empty body clear (no_labels (met c.value))).ordered)
main_ordered d at name parameters result body (EdgeKind weighted) none order = order
main_ordered d at name parameters result body VertexKind none order = order
main_ordered d at name parameters result body FilterKind none order = order
main_ordered d at name parameters result body NoKind none order = order

declaration_ordered : (d : DeclaredTree) (x : DeclarationTree) → (declaration_typed d x).faults ≡ [] → MainIsOrdered d.main → MainIsOrdered (declaration_typed d x).value.main
declaration_ordered d (source.Constant at p initial) none order = constant_ordered d at p.name initial p.declared (initializer_of d.checker at initial).value order
declaration_ordered d (source.Function at name parameters result body) none order =
    main_ordered d at name parameters result body (kind name.bytes parameters result) none order

declarations_ordered : (d : DeclaredTree) (xs : List DeclarationTree) → (declarations_typed d xs).faults ≡ [] → MainIsOrdered d.main → MainIsOrdered (declarations_typed d xs).value.main
declarations_ordered d [] none order = order
declarations_ordered d (x ∷ others) none order =
    let e = declaration_typed d x in
    let rest = declarations_typed e.value others in
    declarations_ordered e.value others (no_right e.faults rest.faults none) (declaration_ordered d x (no_left e.faults rest.faults none) order)

run_ordered : (length : ℕ) (main : Option BlockTree) → MainIsOrdered main → AreOrdered (main_of length main).value
run_ordered length None order = (0, tt)
run_ordered length (Some main) order = order

pub labels_in_order : (source : SourceTree) (length : ℕ) → (program_of source length).faults ≡ [] → LabelsAreInOrder (program_of source length).value
labels_in_order source length none =
    let start = no_declarations (set_count source.declarations) in
    let d = declarations_typed start source.declarations in
    let all = run_ordered length d.value.main (declarations_ordered start source.declarations (no_left d.faults _ none) tt) in
    record { first = all.0; ordered = all.1 }
