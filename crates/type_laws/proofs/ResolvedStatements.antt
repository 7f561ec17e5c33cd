-- The statements of a main without a fault are resolved.
use Rattle.std.proofs.Common.{◌≡◌, refl, ap, sym, subst, ◌∙◌, ℕ, suc, Bool, true, false, ◌||◌, if◌then◌else◌, [], ◌∷◌, ◌++◌, length, length-append, arith, Option, Some, None}
use Rattle.std.specs.Prelude.{slice_get}
use Rattle.syntax.specs.Terminals.{Identifier}
use Rattle.syntax.specs.declared.declaration.DeclaredType.{DeclaredType}
use Rattle.syntax.specs.declared.declaration.DeclaredType.TheVariants as declared
use Rattle.apply_options.specs.declared.reduction.Reduction.{Reduction}
use Rattle.syntax.specs.SourceTrees as source
use Rattle.typed_tree.specs.declared.expression.VarRef.{VarRef}
use Rattle.typed_tree.specs.IntExpressionTree.{IntExpressionTree}
use Rattle.typed_tree.specs.BlockTree.{StatementKindTree, BlockTree, Empty, Then}
use Rattle.typed_tree.specs.ProgramTree.{ProgramTree}
use Rattle.typed_tree.specs.Resolved.{VisibleTree, ActionIsResolved, BlockIsResolved, IntegerIsResolved, IsEdgeFunction, IsLabel, IsSetVariable, IsVectorIndex, IsVertexFunction, after_action, in_loop}
use Rattle.typed_tree.specs.Resolved.{with_set}
use Rattle.expression_types.specs.declared.scope.Entity.{Entity}
use Rattle.expression_types.specs.declared.scope.Entity.TheVariants as entity
use Rattle.expression_types.specs.Expression.{used_name, value_of, vector_index}
use Rattle.expression_types.specs.Faults.{WithFaults}
use Rattle.expression_types.specs.ValueTree as value
use Rattle.expression_types.specs.ValueTree.{ValueTree, entity_set}
use Rattle.types.specs.Block.{action_typed, then_statement, closed, statements_typed}
use Rattle.initializer_types.specs.Checker.{CheckerTree, condition_slot, counted, declared_in, integer_slot, with_label, set_slot, as_index, condition_in, integer_in}
use Rattle.initializer_types.specs.Initial.{ApplyEndTree, InitializerTree, initializer_condition, edge_function, apply_end_of, initializer_of, initializer_integer, is_edges, names_error, is_error_end, is_wrong}
use Rattle.initializer_types.specs.Initial.{initializer_members, vertex_function, lacks_weights}
use Rattle.types.specs.Statement.{add_vertex, added_to_set, applied, apply, assign, assigned, declare_as, edges_applied, entry_reduced, entry_set, has_ends, print, printed, reduce, reduce_entry}
use Rattle.types.specs.Statement.{reduced, set_applied, set_entry, vertices_applied}
use Rattle.type_laws.proofs.Faultless.{no_left, no_right, not_empty}
use Rattle.type_laws.proofs.ResolvedScopes.{CheckerFits, Grows, Within, declared_before, declared_fits, declared_name, get_before, get_last, labelled_before, labelled_fits, left_fits}
use Rattle.type_laws.proofs.ResolvedSteps.{condition_declared, integer_declared}
use Rattle.type_laws.proofs.ResolvedValues.{EndTreeIsResolved, EntityIsResolved, InitializerIsResolved, MaybeIndex, MaybeVariable, MaybeSet, ValueIsResolved, as_integer_resolved}
use Rattle.type_laws.proofs.ResolvedValues.{initializer_condition_resolved, condition_in_resolved, edge_function_resolved, end_resolved, initializer_resolved, index_resolved}
use Rattle.type_laws.proofs.ResolvedValues.{initializer_integer_resolved, integer_in_resolved, initializer_members_resolved, named_set_resolved, used_resolved, value_resolved, vector_resolved}
use Rattle.type_laws.proofs.ResolvedValues.{vertex_function_resolved}

-- one more vertex set
set_grows : (name : ℕ) (v : VisibleTree) → Grows v (with_set name v)
set_grows name v = record {
  integers = λ k x is. is;
  conditions = λ k x is. is;
  sets = λ k x is. get_before v.sets (name ∷ []) k x is;
  vertices = omega arith;
}

set_declared : (p : ProgramTree) (v : VisibleTree) (c : CheckerTree) (name : Identifier) → (declared_in c name (entity.SetVariable (set_slot c))).faults ≡ []
    → Within p (declared_in c name (entity.SetVariable (set_slot c))).value → CheckerFits p v c
    → CheckerFits p (with_set (length c.names) v) (declared_in c name (entity.SetVariable (set_slot c))).value
set_declared p v c name none within fits =
    let e = entity.SetVariable (set_slot c) in
    let index = ap (λ k. slice_get (v.sets ++ length c.names ∷ []) k) fits.0.sets ∙ get_last v.sets (length c.names) [] in
    declared_fits p v (with_set (length c.names) v) c name e none fits (set_grows (length c.names) v) refl (index, declared_name p c name e within)
    (omega arith) (omega arith) (length-append v.sets (length c.names ∷ []))

-- a loop's name, with its bound after it
loop_grows : (name : ℕ) (v : VisibleTree) → Grows v (in_loop name v)
loop_grows name v = record {
  integers = λ k x is. get_before v.integers (Some name ∷ None ∷ []) k x is;
  conditions = λ k x is. is;
  sets = λ k x is. is;
  vertices = omega arith;
}

loop_declared : (p : ProgramTree) (v : VisibleTree) (c : CheckerTree) (name : Identifier) → (declared_in c name (entity.LoopVariable (integer_slot c))).faults ≡ []
    → Within p (declared_in c name (entity.LoopVariable (integer_slot c))).value → CheckerFits p v c
    → CheckerFits p (in_loop (length c.names) v) (declared_in c name (entity.LoopVariable (integer_slot c))).value
loop_declared p v c name none within fits =
    let e = entity.LoopVariable (integer_slot c) in
    let index = ap (λ k. slice_get (v.integers ++ Some (length c.names) ∷ None ∷ []) k) fits.0.integers ∙ get_last v.integers (Some (length c.names)) (None ∷ []) in
    declared_fits p v (in_loop (length c.names) v) c name e none fits (loop_grows (length c.names) v) refl (index, declared_name p c name e within)
    (length-append v.integers (Some (length c.names) ∷ None ∷ [])) (omega arith) (omega arith)

-- what was met before a statement was met before its end
declare_before : (p : ProgramTree) (c : CheckerTree) (at : ℕ) (name : Identifier) (initializer : InitializerTree) (type : DeclaredType) → Within p (declare_as c at name initializer type).value.1
    → Within p c
declare_before p c at name initializer declared.Int within = declared_before p c name (entity.IntVariable (integer_slot c)) within
declare_before p c at name initializer declared.Bool within = declared_before p c name (entity.BoolVariable (condition_slot c)) within
declare_before p c at name initializer declared.Vertex within = declared_before p c name entity.Error within
declare_before p c at name initializer declared.VertexSet within = declared_before p c name (entity.SetVariable (set_slot c)) within
declare_before p c at name initializer declared.Vector within = declared_before p c name entity.Error within
declare_before p c at name initializer declared.EdgeSet within = declared_before p c name entity.Error within
declare_before p c at name initializer declared.WeightedEdgeSet within = declared_before p c name entity.Error within

mutual
  action_before : (p : ProgramTree) (c : CheckerTree) (action : source.StatementKindTree) → Within p (action_typed c action).value.1 → Within p c
  action_before p c (source.Declare at v initial) within = declare_before p c at v.name (initializer_of c at initial).value v.declared within
  action_before p c (source.While at test body) within = statements_before p c Empty body within
  action_before p c (source.For at name first limit body) within =
      let e = entity.LoopVariable (integer_slot c) in
      declared_before p c name e (statements_before p (declared_in c name e).value Empty body within)
  action_before p c (source.If at test body) within = statements_before p c Empty body within
  action_before p c (source.IfElse at test body otherwise) within =
      let b = (statements_typed c Empty body).value in
      statements_before p c Empty body (statements_before p (closed c b.1) Empty otherwise within)
  action_before p c (source.Print at e) within = within
  action_before p c (source.Assign name initial) within = within
  action_before p c (source.Reduce name by e) within = within
  action_before p c (source.SetEntry vector index e) within = within
  action_before p c (source.ReduceEntry vector index by e) within = within
  action_before p c (source.AddVertex set e) within = within
  action_before p c (source.Apply target ends function) within = within

  pub statements_before : (p : ProgramTree) (c : CheckerTree) (so_far : BlockTree) (block : source.BlockTree) → Within p (statements_typed c so_far block).value.1 → Within p c
  statements_before p c so_far source.Empty within = within
  statements_before p c so_far (source.Then label action others) within =
      let l = (with_label c label).value in
      let a = (action_typed (counted l.1) action).value in
      labelled_before p c label
      (action_before p (counted l.1) action (statements_before p a.1 (then_statement so_far (suc l.1.statements) l.0 a.0) others within))

-- what is visible after statements
abbrev pub behind_block : BlockTree → VisibleTree → VisibleTree
behind_block Empty v = v
behind_block (Then number label action others) v = behind_block others (after_action action v)

block_then : (p : ProgramTree) (v : VisibleTree) (so_far : BlockTree) (number : ℕ) (label : Option ℕ) (action : StatementKindTree) → BlockIsResolved p v so_far → IsLabel p label
    → ActionIsResolved p (behind_block so_far v) action → BlockIsResolved p v (then_statement so_far number label action)
block_then p v Empty number label action resolved there last = (there, last, tt)
block_then p v (Then n l a others) number label action resolved there last =
    (resolved.0, resolved.1, block_then p (after_action a v) others number label action resolved.2 there last)

after_then : (v : VisibleTree) (so_far : BlockTree) (number : ℕ) (label : Option ℕ) (action : StatementKindTree)
    → behind_block (then_statement so_far number label action) v ≡ after_action action (behind_block so_far v)
after_then v Empty number label action = refl
after_then v (Then n l a others) number label action = after_then (after_action a v) others number label action

-- a statement that declares nothing
abbrev PlainAction : ProgramTree → VisibleTree → StatementKindTree → Type 0
PlainAction p v action = ActionIsResolved p v action × (after_action action v ≡ v)

if_plain : (p : ProgramTree) (v : VisibleTree) (b : Bool) (x y : WithFaults StatementKindTree) → PlainAction p v x.value → PlainAction p v y.value
    → PlainAction p v (if b then x else y).value
if_plain p v true x y first other = first
if_plain p v false x y first other = other

assigned_plain : (p : ProgramTree) (v : VisibleTree) (at : ℕ) (initializer : InitializerTree) (e : Entity) → InitializerIsResolved p v initializer → EntityIsResolved p v e
    → PlainAction p v (assigned at initializer e).value
assigned_plain p v at initializer (entity.IntVariable slot) value is = ((is, initializer_integer_resolved p v at initializer value), refl)
assigned_plain p v at initializer (entity.BoolVariable slot) value is = ((is, initializer_condition_resolved p v at initializer value), refl)
assigned_plain p v at initializer (entity.SetVariable slot) value is = ((is, initializer_members_resolved p v at initializer value), refl)
assigned_plain p v at initializer _ value is = (tt, refl)

reduced_plain : (p : ProgramTree) (v : VisibleTree) (at : ℕ) (by : Reduction) (x : ValueTree) (e : Entity) → ValueIsResolved p v x → EntityIsResolved p v e
    → PlainAction p v (reduced at by x e).value
reduced_plain p v at by x (entity.IntVariable slot) value is = ((is, as_integer_resolved p v at x value), refl)
reduced_plain p v at by x _ value is = (tt, refl)

added_plain : (p : ProgramTree) (v : VisibleTree) (at : ℕ) (x : ValueTree) (e : Entity) → ValueIsResolved p v x → EntityIsResolved p v e
    → PlainAction p v (added_to_set at x e).value
added_plain p v at x (entity.SetVariable slot) value is = ((is, as_integer_resolved p v at x value), refl)
added_plain p v at x _ value is = (tt, refl)

set_plain : (p : ProgramTree) (v : VisibleTree) (vector : Option ℕ) (index : Option IntExpressionTree) (e : IntExpressionTree) → MaybeVariable (IsVectorIndex p) vector → MaybeIndex p v index
    → IntegerIsResolved p v e → PlainAction p v (entry_set vector index e)
set_plain p v None index e is at value = (tt, refl)
set_plain p v (Some vector) None e is at value = (tt, refl)
set_plain p v (Some vector) (Some index) e is at value = ((is, at, value), refl)

entry_plain : (p : ProgramTree) (v : VisibleTree) (vector : Option ℕ) (index : Option IntExpressionTree) (by : Reduction) (e : IntExpressionTree) → MaybeVariable (IsVectorIndex p) vector
    → MaybeIndex p v index → IntegerIsResolved p v e → PlainAction p v (entry_reduced vector index by e)
entry_plain p v None index by e is at value = (tt, refl)
entry_plain p v (Some vector) None by e is at value = (tt, refl)
entry_plain p v (Some vector) (Some index) by e is at value = ((is, at, value), refl)

printed_plain : (p : ProgramTree) (v : VisibleTree) (at : ℕ) (x : ValueTree) → ValueIsResolved p v x → PlainAction p v (printed at x).value
printed_plain p v at (value.Integer e) is = (is, refl)
printed_plain p v at (value.Condition c) is = (is, refl)
printed_plain p v at (value.Vertex e) is = (is, refl)
printed_plain p v at (value.Set slot) is = (tt, refl)
printed_plain p v at value.ErrorValue is = (tt, refl)

edges_plain : (p : ProgramTree) (v : VisibleTree) (at : ℕ) (a b : ApplyEndTree) (error : Bool) (function : Option ℕ) → EndTreeIsResolved p v a → EndTreeIsResolved p v b
    → MaybeVariable (IsEdgeFunction p) function → PlainAction p v (edges_applied at a b error function).value
edges_plain p v at a b true None from to is = (tt, refl)
edges_plain p v at a b false None from to is = (tt, refl)
edges_plain p v at a b error (Some function) from to is = if_plain p v (is_error_end a || is_error_end b) _ _ (tt, refl) (((from, to), is), refl)

vertices_plain : (p : ProgramTree) (v : VisibleTree) (at : ℕ) (slot : VarRef) (error : Bool) (function : Option ℕ) → IsSetVariable p v slot
    → MaybeVariable (IsVertexFunction p) function → PlainAction p v (vertices_applied at slot error function).value
vertices_plain p v at slot true None set is = (tt, refl)
vertices_plain p v at slot false None set is = (tt, refl)
vertices_plain p v at slot error (Some function) set is = ((set, is), refl)

set_applied_plain : (p : ProgramTree) (v : VisibleTree) (at : ℕ) (ends : Bool) (f : Entity) (slot : Option VarRef) → EntityIsResolved p v f → MaybeSet p v slot
    → PlainAction p v (set_applied at ends f slot).value
set_applied_plain p v at ends f None is set = (tt, refl)
set_applied_plain p v at ends f (Some slot) is set =
    if_plain p v ends _ _ (tt, refl) (vertices_plain p v at slot (names_error f) (vertex_function f) set (vertex_function_resolved p v f is))

applied_plain : (p : ProgramTree) (v : VisibleTree) (at : ℕ) (t : Entity) (a b : ApplyEndTree) (ends : Bool) (f : Entity) → EntityIsResolved p v t → EndTreeIsResolved p v a
    → EndTreeIsResolved p v b → EntityIsResolved p v f → PlainAction p v (applied at t a b ends f).value
applied_plain p v at t a b ends f target from to is =
    if_plain p v (names_error t) _ _ (tt, refl) (if_plain p v (is_edges t) _ _
    (if_plain p v (is_wrong a || is_wrong b || lacks_weights t f) _ _ (tt, refl)
    (edges_plain p v at a b (names_error f) (edge_function f) from to (edge_function_resolved p v f is)))
    (set_applied_plain p v at ends f (entity_set t) is (named_set_resolved p v t target)))

-- a statement, and what is known after it
abbrev ActionFits : ProgramTree → VisibleTree → StatementKindTree × CheckerTree → Type 0
ActionFits p v r = ActionIsResolved p v r.0 × CheckerFits p (after_action r.0 v) r.1

abbrev pub BlockFits : ProgramTree → VisibleTree → BlockTree × CheckerTree → Type 0
BlockFits p v r = BlockIsResolved p v r.0 × CheckerFits p (behind_block r.0 v) r.1

plain_fits : (p : ProgramTree) (v : VisibleTree) (c : CheckerTree) (action : StatementKindTree) → CheckerFits p v c → PlainAction p v action → ActionFits p v (action, c)
plain_fits p v c action fits plain = (plain.0, subst (λ w. CheckerFits p w c) (sym plain.1) fits)

declare_fits : (p : ProgramTree) (v : VisibleTree) (c : CheckerTree) (at : ℕ) (name : Identifier) (initializer : InitializerTree) (type : DeclaredType)
    → (declare_as c at name initializer type).faults ≡ [] → Within p (declare_as c at name initializer type).value.1 → CheckerFits p v c → InitializerIsResolved p v initializer
    → ActionFits p v (declare_as c at name initializer type).value
declare_fits p v c at name initializer declared.Int none within fits value =
    let e = entity.IntVariable (integer_slot c) in
    let left = no_left (declared_in c name e).faults [] (no_right (initializer_integer at initializer).faults _ none) in
    ((declared_name p c name e within, initializer_integer_resolved p v at initializer value), integer_declared p v c name left within fits)
declare_fits p v c at name initializer declared.Bool none within fits value =
    let e = entity.BoolVariable (condition_slot c) in
    let left = no_left (declared_in c name e).faults [] (no_right (initializer_condition at initializer).faults _ none) in
    ((declared_name p c name e within, initializer_condition_resolved p v at initializer value), condition_declared p v c name left within fits)
declare_fits p v c at name initializer declared.Vertex none within fits value = absurd (not_empty _ _ none)
declare_fits p v c at name initializer declared.VertexSet none within fits value =
    let e = entity.SetVariable (set_slot c) in
    let left = no_left (declared_in c name e).faults [] (no_right (initializer_members at initializer).faults _ none) in
    ((declared_name p c name e within, initializer_members_resolved p v at initializer value), set_declared p v c name left within fits)
declare_fits p v c at name initializer declared.Vector none within fits value = absurd (not_empty _ _ none)
declare_fits p v c at name initializer declared.EdgeSet none within fits value = absurd (not_empty _ _ none)
declare_fits p v c at name initializer declared.WeightedEdgeSet none within fits value = absurd (not_empty _ _ none)

mutual
  action_fits : (p : ProgramTree) (v : VisibleTree) (c : CheckerTree) (action : source.StatementKindTree) → (action_typed c action).faults ≡ [] → Within p (action_typed c action).value.1
      → CheckerFits p v c → ActionFits p v (action_typed c action).value
  action_fits p v c (source.Declare at x initial) none within fits =
      let initializer = initializer_of c at initial in
      declare_fits p v c at x.name initializer.value x.declared (no_right initializer.faults _ none) within fits (initializer_resolved p v c at fits.0.known initial)
  action_fits p v c (source.While at test body) none within fits =
      let b = statements_typed c Empty body in
      let left = no_left b.faults [] (no_right (condition_in c.scope at test).faults _ none) in
      let inner = statements_fit p v c Empty body left within tt fits in
      ((condition_in_resolved p v c.scope at fits.0.known test, inner.0), left_fits p v (behind_block b.value.0 v) c b.value.1 fits inner.1)
  action_fits p v c (source.For at name first limit body) none within fits =
      let e = entity.LoopVariable (integer_slot c) in
      let d = declared_in c name e in
      let b = statements_typed d.value Empty body in
      let w = in_loop (length c.names) v in
      let names = no_right (integer_in c.scope at limit).faults (d.faults ++ (b.faults ++ [])) (no_right (integer_in c.scope at first).faults _ none) in
      let left = no_left b.faults [] (no_right d.faults (b.faults ++ []) names) in
      let between = statements_before p d.value Empty body within in
      let inner = statements_fit p w d.value Empty body left within tt (loop_declared p v c name (no_left d.faults (b.faults ++ []) names) between fits) in (
        (declared_name p c name e between, integer_in_resolved p v c.scope at fits.0.known first, integer_in_resolved p v c.scope at fits.0.known limit, inner.0),
        left_fits p v (behind_block b.value.0 w) c b.value.1 fits inner.1,
      )
  action_fits p v c (source.If at test body) none within fits =
      let b = statements_typed c Empty body in
      let left = no_left b.faults [] (no_right (condition_in c.scope at test).faults _ none) in
      let inner = statements_fit p v c Empty body left within tt fits in
      ((condition_in_resolved p v c.scope at fits.0.known test, inner.0), left_fits p v (behind_block b.value.0 v) c b.value.1 fits inner.1)
  action_fits p v c (source.IfElse at test body otherwise) none within fits =
      let b = statements_typed c Empty body in
      let d = closed c b.value.1 in
      let o = statements_typed d Empty otherwise in
      let both = no_right (condition_in c.scope at test).faults (b.faults ++ (o.faults ++ [])) none in
      let inner = statements_fit p v c Empty body (no_left b.faults (o.faults ++ []) both) (statements_before p d Empty otherwise within) tt fits in
      let again = left_fits p v (behind_block b.value.0 v) c b.value.1 fits inner.1 in
      let other = statements_fit p v d Empty otherwise (no_left o.faults [] (no_right b.faults (o.faults ++ []) both)) within tt again in
      ((condition_in_resolved p v c.scope at fits.0.known test, inner.0, other.0), left_fits p v (behind_block o.value.0 v) d o.value.1 again other.1)
  action_fits p v c (source.Print at e) none within fits =
      plain_fits p v c (print c.scope at e).value fits (printed_plain p v at (value_of c.scope at e).value (value_resolved p v c.scope at fits.0.known e))
  action_fits p v c (source.Assign name initial) none within fits =
      plain_fits p v c (assign c name.at name initial).value fits
      (assigned_plain p v name.at (initializer_of c name.at initial).value (used_name c.scope name).value (initializer_resolved p v c name.at fits.0.known initial)
      (used_resolved p v c.scope name fits.0.known))
  action_fits p v c (source.Reduce name by e) none within fits =
      plain_fits p v c (reduce c.scope name.at name by e).value fits
      (reduced_plain p v name.at by (value_of c.scope name.at e).value (used_name c.scope name).value (value_resolved p v c.scope name.at fits.0.known e) (used_resolved p v c.scope name fits.0.known))
  action_fits p v c (source.SetEntry vector index e) none within fits =
      let i = (value_of c.scope vector.at index).value in
      plain_fits p v c (set_entry c.scope vector.at vector index e).value fits
      (set_plain p v (vector_index c.scope vector.at vector).value (as_index vector.at i).value (integer_in c.scope vector.at e).value
      (vector_resolved p v c.scope vector.at vector fits.0.known) (index_resolved p v vector.at i (value_resolved p v c.scope vector.at fits.0.known index))
      (integer_in_resolved p v c.scope vector.at fits.0.known e))
  action_fits p v c (source.ReduceEntry vector index by e) none within fits =
      let i = (value_of c.scope vector.at index).value in
      plain_fits p v c (reduce_entry c.scope vector.at vector index by e).value fits
      (entry_plain p v (vector_index c.scope vector.at vector).value (as_index vector.at i).value by (integer_in c.scope vector.at e).value
      (vector_resolved p v c.scope vector.at vector fits.0.known) (index_resolved p v vector.at i (value_resolved p v c.scope vector.at fits.0.known index))
      (integer_in_resolved p v c.scope vector.at fits.0.known e))
  action_fits p v c (source.AddVertex set e) none within fits =
      plain_fits p v c (add_vertex c.scope set.at set e).value fits
      (added_plain p v set.at (value_of c.scope set.at e).value (used_name c.scope set).value (value_resolved p v c.scope set.at fits.0.known e) (used_resolved p v c.scope set fits.0.known))
  action_fits p v c (source.Apply target ends function) none within fits =
      plain_fits p v c (apply c.scope target.at target ends function).value fits
      (applied_plain p v target.at (used_name c.scope target).value (apply_end_of c.scope ends.from).value (apply_end_of c.scope ends.to).value (has_ends ends) (used_name c.scope function).value
      (used_resolved p v c.scope target fits.0.known) (end_resolved p v c.scope fits.0.known ends.from) (end_resolved p v c.scope fits.0.known ends.to)
      (used_resolved p v c.scope function fits.0.known))

  pub statements_fit : (p : ProgramTree) (v : VisibleTree) (c : CheckerTree) (so_far : BlockTree) (block : source.BlockTree) → (statements_typed c so_far block).faults ≡ []
      → Within p (statements_typed c so_far block).value.1 → BlockIsResolved p v so_far → CheckerFits p (behind_block so_far v) c
      → BlockFits p v (statements_typed c so_far block).value
  statements_fit p v c so_far source.Empty none within resolved fits = (resolved, fits)
  statements_fit p v c so_far (source.Then label action others) none within resolved fits =
      let l = with_label c label in
      let d = counted l.value.1 in
      let a = action_typed d action in
      let number = suc l.value.1.statements in
      let rest = statements_typed a.value.1 (then_statement so_far number l.value.0 a.value.0) others in
      let w = behind_block so_far v in
      let both = no_right l.faults (a.faults ++ rest.faults) none in
      let between = statements_before p a.value.1 (then_statement so_far number l.value.0 a.value.0) others within in
      let labels = labelled_fits p w c label (no_left l.faults (a.faults ++ rest.faults) none) fits (action_before p d action between) in
      let first = action_fits p w d action (no_left a.faults rest.faults both) between labels.0 in
      statements_fit p v a.value.1 (then_statement so_far number l.value.0 a.value.0) others (no_right a.faults rest.faults both) within
      (block_then p v so_far number l.value.0 a.value.0 resolved labels.1 first.0)
      (subst (λ x. CheckerFits p x a.value.1) (sym (after_then v so_far number l.value.0 a.value.0)) first.1)
