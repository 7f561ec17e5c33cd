-- Each fault of a statement of main stands at one of its names or labels, or at its first token.
use Rattle.std.proofs.Common.{ℕ, suc, Bool, ◌||◌, List, [], ◌++◌, Option, Some, None}
use Rattle.std.specs.List.{AllByRecursion}
use Rattle.syntax.specs.Terminals.{Terminal, Identifier}
use Rattle.syntax.specs.declared.declaration.DeclaredType.{DeclaredType}
use Rattle.syntax.specs.declared.declaration.DeclaredType.TheVariants as declared
use Rattle.apply_options.specs.declared.reduction.Reduction.{Reduction}
use Rattle.syntax.specs.SourceTrees.{ExpressionTree}
use Rattle.syntax.specs.ExpressionSpelling.{expression_terminals}
use Rattle.syntax.specs.Offsets.{StandWhere, StandsWhere}
use Rattle.syntax.specs.SourceTrees as source
use Rattle.syntax.specs.SourceSpelling.{action_before, assigned_before, block_before, ends_before, initial_before, label_terminals}
use Rattle.syntax.proofs.Behind.{action_after, all_left, all_right, block_behind, ends_after, typed_after}
use Rattle.syntax.proofs.Offsets.{from_stands, to_stands}
use Rattle.typed_tree.specs.declared.expression.VarRef.{VarRef}
use Rattle.typed_tree.specs.BlockTree.{StatementKindTree, BlockTree, Empty}
use Rattle.expression_types.specs.declared.scope.Entity.{Entity}
use Rattle.expression_types.specs.declared.scope.Entity.TheVariants as entity
use Rattle.expression_types.specs.Expression.{used_name, value_of, vector_index}
use Rattle.expression_types.specs.ScopeTree.{found, ScopeTree, declared as scope_declared}
use Rattle.expression_types.specs.Faults.{WithFaults}
use Rattle.expression_types.specs.ValueTree.{ValueTree, Integer, Condition, Vertex, Set, ErrorValue, entity_set}
use Rattle.expression_types.proofs.FaultOffsets.{FaultsStand, both_stand, declared_stands, if_stand, used_stands, value_stands, vector_stands}
use Rattle.types.specs.Block.{action_typed, then_statement, closed, in_place, statements_typed}
use Rattle.initializer_types.specs.Checker.{CheckerTree, condition_slot, counted, declared_in, integer_slot, with_label, new_label, set_slot, as_index, integer_wanted, condition_in, integer_in}
use Rattle.initializer_types.specs.Initial.{ApplyEndTree, InitializerTree, initializer_condition, edge_function, apply_end_of, initializer_of, initializer_integer, is_edges, names_error, is_error_end, is_wrong}
use Rattle.initializer_types.specs.Initial.{initializer_members, vertex_function, lacks_weights}
use Rattle.types.specs.Statement.{add_vertex, added_to_set, applied, apply, assign, assigned, declare_as, edges_applied, has_ends, print, printed, reduce, reduce_entry, reduced, set_applied}
use Rattle.types.specs.Statement.{set_entry, vertices_applied}
use Rattle.initializer_types.proofs.ValueOffsets.{as_index_stands, as_integer_stands, initializer_condition_stands, condition_in_stands, end_stands, initializer_stands, initializer_integer_stands}
use Rattle.initializer_types.proofs.ValueOffsets.{integer_in_stands, initializer_members_stands}

-- names and labels
pub declared_in_stands : (P : ℕ → Type 0) (c : CheckerTree) (name : Identifier) (e : Entity) → P name.at → FaultsStand P (declared_in c name e)
declared_in_stands P c name e there =
    let d = scope_declared name e c.scope in both_stand P d.faults [] (declared_stands P name e c.scope there) tt

new_label_stands : (P : ℕ → Type 0) (c : CheckerTree) (label : Identifier) (o : Option ℕ) → P label.at → FaultsStand P (new_label c label o)
new_label_stands P c label None there = tt
new_label_stands P c label (Some index) there = (there, tt)

pub labelled_stands : (P : ℕ → Type 0) (c : CheckerTree) (label : Option Identifier) → StandWhere P (label_terminals label) → FaultsStand P (with_label c label)
labelled_stands P c None all = tt
labelled_stands P c (Some label) all = new_label_stands P c label (found label.bytes c.labels) all.0

-- the last of a row of steps
pub last_stands : (P : ℕ → Type 0) (c : CheckerTree) (name : Identifier) (e : Entity) → P name.at → AllByRecursion (λ f. P f.at) ((declared_in c name e).faults ++ [])
last_stands P c name e there = let d = declared_in c name e in both_stand P d.faults [] (declared_in_stands P c name e there) tt

declare_as_stands : (P : ℕ → Type 0) (c : CheckerTree) (at : ℕ) (name : Identifier) (initializer : InitializerTree) (type : DeclaredType) → P at → P name.at
    → FaultsStand P (declare_as c at name initializer type)
declare_as_stands P c at name initializer declared.Int here there =
    let e = initializer_integer at initializer in both_stand P e.faults _ (initializer_integer_stands P at initializer here) (last_stands P c name (entity.IntVariable (integer_slot c)) there)
declare_as_stands P c at name initializer declared.Bool here there =
    let e = initializer_condition at initializer in both_stand P e.faults _ (initializer_condition_stands P at initializer here)
    (last_stands P c name (entity.BoolVariable (condition_slot c)) there)
declare_as_stands P c at name initializer declared.VertexSet here there =
    let s = initializer_members at initializer in both_stand P s.faults _ (initializer_members_stands P at initializer here) (last_stands P c name (entity.SetVariable (set_slot c)) there)
declare_as_stands P c at name initializer declared.Vertex here there = (here, last_stands P c name entity.Error there)
declare_as_stands P c at name initializer declared.Vector here there = (here, last_stands P c name entity.Error there)
declare_as_stands P c at name initializer declared.EdgeSet here there = (here, last_stands P c name entity.Error there)
declare_as_stands P c at name initializer declared.WeightedEdgeSet here there = (here, last_stands P c name entity.Error there)

assigned_stands : (P : ℕ → Type 0) (at : ℕ) (initializer : InitializerTree) (e : Entity) → P at → FaultsStand P (assigned at initializer e)
assigned_stands P at initializer (entity.IntVariable slot) here = let e = initializer_integer at initializer in both_stand P e.faults [] (initializer_integer_stands P at initializer here) tt
assigned_stands P at initializer (entity.BoolVariable slot) here = let e = initializer_condition at initializer in both_stand P e.faults [] (initializer_condition_stands P at initializer here) tt
assigned_stands P at initializer (entity.SetVariable slot) here = let s = initializer_members at initializer in both_stand P s.faults [] (initializer_members_stands P at initializer here) tt
assigned_stands P at initializer entity.Error here = tt
assigned_stands P at initializer _ here = (here, tt)

reduced_stands : (P : ℕ → Type 0) (at : ℕ) (by : Reduction) (v : ValueTree) (e : Entity) → P at → FaultsStand P (reduced at by v e)
reduced_stands P at by v (entity.IntVariable slot) here = let e = integer_wanted at v in both_stand P e.faults [] (as_integer_stands P at v here) tt
reduced_stands P at by v entity.Error here = tt
reduced_stands P at by v _ here = (here, tt)

added_stands : (P : ℕ → Type 0) (at : ℕ) (v : ValueTree) (e : Entity) → P at → FaultsStand P (added_to_set at v e)
added_stands P at v (entity.SetVariable slot) here = let e = integer_wanted at v in both_stand P e.faults [] (as_integer_stands P at v here) tt
added_stands P at v entity.Error here = tt
added_stands P at v _ here = (here, tt)

printed_stands : (P : ℕ → Type 0) (at : ℕ) (v : ValueTree) → P at → FaultsStand P (printed at v)
printed_stands P at (Integer e) here = tt
printed_stands P at (Condition c) here = tt
printed_stands P at (Vertex p) here = tt
printed_stands P at (Set slot) here = (here, tt)
printed_stands P at ErrorValue here = tt

-- applies
edges_applied_stands : (P : ℕ → Type 0) (at : ℕ) (a b : ApplyEndTree) (error : Bool) (function : Option ℕ) → P at → FaultsStand P (edges_applied at a b error function)
edges_applied_stands P at a b error None here = if_stand P error _ _ tt (here, tt)
edges_applied_stands P at a b error (Some function) here = if_stand P (is_error_end a || is_error_end b) _ _ tt tt

vertices_applied_stands : (P : ℕ → Type 0) (at : ℕ) (slot : VarRef) (error : Bool) (function : Option ℕ) → P at → FaultsStand P (vertices_applied at slot error function)
vertices_applied_stands P at slot error None here = if_stand P error _ _ tt (here, tt)
vertices_applied_stands P at slot error (Some function) here = tt

set_applied_stands : (P : ℕ → Type 0) (at : ℕ) (ends : Bool) (f : Entity) (set : Option VarRef) → P at → FaultsStand P (set_applied at ends f set)
set_applied_stands P at ends f None here = (here, tt)
set_applied_stands P at ends f (Some slot) here = if_stand P ends _ _ (here, tt) (vertices_applied_stands P at slot (names_error f) (vertex_function f) here)

applied_stands : (P : ℕ → Type 0) (at : ℕ) (t : Entity) (a b : ApplyEndTree) (ends : Bool) (f : Entity) → P at → FaultsStand P (applied at t a b ends f)
applied_stands P at t a b ends f here =
    if_stand P (names_error t) _ _ tt (if_stand P (is_edges t) _ _
    (if_stand P (is_wrong a || is_wrong b || lacks_weights t f) _ _ (here, tt) (edges_applied_stands P at a b (names_error f) (edge_function f) here))
    (set_applied_stands P at ends f (entity_set t) here))

-- statements that declare nothing
in_place_stands : (P : ℕ → Type 0) (c : CheckerTree) (action : WithFaults StatementKindTree) → FaultsStand P action → FaultsStand P (in_place c action)
in_place_stands P c action all = both_stand P action.faults [] all tt

assign_stands : (P : ℕ → Type 0) (c : CheckerTree) (name : Identifier) (initial : source.InitialTree) (rest : List Terminal) → P name.at → StandWhere P (initial_before initial rest)
    → FaultsStand P (assign c name.at name initial)
assign_stands P c name initial rest there all =
    let e = used_name c.scope name in
    let initializer = initializer_of c name.at initial in
    both_stand P e.faults _ (used_stands P c.scope name there)
    (both_stand P initializer.faults _ (initializer_stands P c name.at initial rest there all) (assigned_stands P name.at initializer.value e.value there))

reduce_stands : (P : ℕ → Type 0) (scope : ScopeTree) (name : Identifier) (by : Reduction) (e : ExpressionTree) → P name.at → StandWhere P (expression_terminals e)
    → FaultsStand P (reduce scope name.at name by e)
reduce_stands P scope name by e there all =
    let n = used_name scope name in
    let v = value_of scope name.at e in
    both_stand P n.faults _ (used_stands P scope name there)
    (both_stand P v.faults _ (value_stands P scope name.at e there all) (reduced_stands P name.at by v.value n.value there))

-- a vector, an index and a value
entry_parts_stand : (P : ℕ → Type 0) (scope : ScopeTree) (name : Identifier) (index e : ExpressionTree) → P name.at → StandWhere P (expression_terminals index) → StandWhere P (expression_terminals e)
    → AllByRecursion (λ f. P f.at) ((vector_index scope name.at name).faults ++ ((value_of scope name.at index).faults
    ++ ((as_index name.at (value_of scope name.at index).value).faults ++ ((integer_in scope name.at e).faults ++ []))))
entry_parts_stand P scope name index e there first second =
    let vector = vector_index scope name.at name in
    let v = value_of scope name.at index in
    let i = as_index name.at v.value in
    let x = integer_in scope name.at e in
    both_stand P vector.faults _ (vector_stands P scope name.at name there there)
    (both_stand P v.faults _ (value_stands P scope name.at index there first)
    (both_stand P i.faults _ (as_index_stands P name.at v.value there)
    (both_stand P x.faults [] (integer_in_stands P scope name.at e there second) tt)))

add_vertex_stands : (P : ℕ → Type 0) (scope : ScopeTree) (set : Identifier) (e : ExpressionTree) → P set.at → StandWhere P (expression_terminals e)
    → FaultsStand P (add_vertex scope set.at set e)
add_vertex_stands P scope set e there all =
    let s = used_name scope set in
    let v = value_of scope set.at e in
    both_stand P s.faults _ (used_stands P scope set there)
    (both_stand P v.faults _ (value_stands P scope set.at e there all) (added_stands P set.at v.value s.value there))

print_stands : (P : ℕ → Type 0) (scope : ScopeTree) (at : ℕ) (e : ExpressionTree) → P at → StandWhere P (expression_terminals e) → FaultsStand P (print scope at e)
print_stands P scope at e here all = let v = value_of scope at e in both_stand P v.faults _ (value_stands P scope at e here all) (printed_stands P at v.value here)

apply_stands : (P : ℕ → Type 0) (scope : ScopeTree) (target : Identifier) (ends : source.EndsTree) (function : Identifier) (rest : List Terminal)
    → P target.at → P function.at → StandWhere P (ends_before ends rest) → FaultsStand P (apply scope target.at target ends function)
apply_stands P scope target ends function rest there named all =
    let t = used_name scope target in
    let a = apply_end_of scope ends.from in
    let b = apply_end_of scope ends.to in
    let f = used_name scope function in
    both_stand P t.faults _ (used_stands P scope target there)
    (both_stand P a.faults _ (end_stands P scope ends.from (from_stands P ends rest all))
    (both_stand P b.faults _ (end_stands P scope ends.to (to_stands P ends rest all))
    (both_stand P f.faults _ (used_stands P scope function named)
    (applied_stands P target.at t.value a.value b.value (has_ends ends) f.value there))))

-- what stands in front of a terminal, and what after it
pub in_front : (P : ℕ → Type 0) (e : ExpressionTree) (rest : List Terminal) → StandWhere P (expression_terminals e ++ rest) → StandWhere P (expression_terminals e)
in_front P e rest all = all_left (StandsWhere P) (expression_terminals e) rest all

pub at_back : (P : ℕ → Type 0) (e : ExpressionTree) (rest : List Terminal) → StandWhere P (expression_terminals e ++ rest) → StandWhere P rest
at_back P e rest all = all_right (StandsWhere P) (expression_terminals e) rest all

mutual
  action_stands : (P : ℕ → Type 0) (c : CheckerTree) (action : source.StatementKindTree) (rest : List Terminal) → StandWhere P (action_before action rest) → FaultsStand P (action_typed c action)
  action_stands P c (source.Declare at p initial) rest all =
      let initializer = initializer_of c at initial in
      let after_type = typed_after (StandsWhere P) p (assigned_before initial rest) all.1 in
      both_stand P initializer.faults _ (initializer_stands P c at initial _ all.0 after_type.1) (declare_as_stands P c at p.name initializer.value p.declared all.0 all.1.0)
  action_stands P c (source.While at test body) rest all =
      let t = condition_in c.scope at test in
      let b = statements_typed c Empty body in
      both_stand P t.faults _ (condition_in_stands P c.scope at test all.0 (in_front P test _ all.1))
      (both_stand P b.faults [] (statements_stand P c Empty body _ (at_back P test _ all.1)) tt)
  action_stands P c (source.For at name first limit body) rest all =
      let a = integer_in c.scope at first in
      let z = integer_in c.scope at limit in
      let d = declared_in c name (entity.LoopVariable (integer_slot c)) in
      let b = statements_typed d.value Empty body in
      let second = at_back P first _ all.1.1.1 in
      both_stand P a.faults _ (integer_in_stands P c.scope at first all.0 (in_front P first _ all.1.1.1))
      (both_stand P z.faults _ (integer_in_stands P c.scope at limit all.0 (in_front P limit _ second.1))
      (both_stand P d.faults _ (declared_in_stands P c name (entity.LoopVariable (integer_slot c)) all.1.0)
      (both_stand P b.faults [] (statements_stand P d.value Empty body _ (at_back P limit _ second.1)) tt)))
  action_stands P c (source.If at test body) rest all =
      let t = condition_in c.scope at test in
      let b = statements_typed c Empty body in
      both_stand P t.faults _ (condition_in_stands P c.scope at test all.0 (in_front P test _ all.1))
      (both_stand P b.faults [] (statements_stand P c Empty body _ (at_back P test _ all.1)) tt)
  action_stands P c (source.IfElse at test body otherwise) rest all =
      let t = condition_in c.scope at test in
      let b = statements_typed c Empty body in
      let o = statements_typed (closed c b.value.1) Empty otherwise in
      let inside = at_back P test _ all.1 in
      let second = block_behind (StandsWhere P) body _ inside in
      both_stand P t.faults _ (condition_in_stands P c.scope at test all.0 (in_front P test _ all.1))
      (both_stand P b.faults _ (statements_stand P c Empty body _ inside)
      (both_stand P o.faults [] (statements_stand P (closed c b.value.1) Empty otherwise _ second.1) tt))
  action_stands P c (source.Print at e) rest all = in_place_stands P c (print c.scope at e) (print_stands P c.scope at e all.0 (in_front P e _ all.1))
  action_stands P c (source.Assign name initial) rest all = in_place_stands P c (assign c name.at name initial) (assign_stands P c name initial _ all.0 all.1.1)
  action_stands P c (source.Reduce name by e) rest all = in_place_stands P c (reduce c.scope name.at name by e) (reduce_stands P c.scope name by e all.0 (in_front P e _ all.1.1))
  action_stands P c (source.SetEntry vector index e) rest all =
      let second = at_back P index _ all.1.1 in
      in_place_stands P c (set_entry c.scope vector.at vector index e) (entry_parts_stand P c.scope vector index e all.0 (in_front P index _ all.1.1) (in_front P e _ second.1.1))
  action_stands P c (source.ReduceEntry vector index by e) rest all =
      let second = at_back P index _ all.1.1 in
      in_place_stands P c (reduce_entry c.scope vector.at vector index by e) (entry_parts_stand P c.scope vector index e all.0 (in_front P index _ all.1.1) (in_front P e _ second.1.1))
  action_stands P c (source.AddVertex set e) rest all = in_place_stands P c (add_vertex c.scope set.at set e) (add_vertex_stands P c.scope set e all.0 (in_front P e _ all.1.1.1.1))
  action_stands P c (source.Apply target ends function) rest all =
      let names = ends_after (StandsWhere P) ends _ all.1 in
      in_place_stands P c (apply c.scope target.at target ends function) (apply_stands P c.scope target ends function _ all.0 names.1.1.1.0 all.1)

  pub statements_stand : (P : ℕ → Type 0) (c : CheckerTree) (so_far : BlockTree) (block : source.BlockTree) (rest : List Terminal) → StandWhere P (block_before block rest)
      → FaultsStand P (statements_typed c so_far block)
  statements_stand P c so_far source.Empty rest all = tt
  statements_stand P c so_far (source.Then label action others) rest all =
      let l = with_label c label in
      let a = action_typed (counted l.value.1) action in
      let statement = all_right (StandsWhere P) (label_terminals label) _ all in
      both_stand P l.faults _ (labelled_stands P c label (all_left (StandsWhere P) (label_terminals label) _ all))
      (both_stand P a.faults _ (action_stands P (counted l.value.1) action _ statement)
      (statements_stand P a.value.1 (then_statement so_far (suc l.value.1.statements) l.value.0 a.value.0) others rest (action_after (StandsWhere P) action _ statement)))
