-- Statements of main are numbered in order.
use Rattle.std.proofs.Common.{◌≡◌, refl, sym, subst, ◌∙◌, ap, ℕ, suc, ◌+◌, arith, Bool, true, false, ◌||◌, if◌then◌else◌, List, [], ◌∷◌, ◌++◌, length, length-append, Option, Some, None}
use Rattle.std.proofs.lemmas.List.{append_assoc}
use Rattle.syntax.specs.Terminals.{Identifier}
use Rattle.syntax.specs.declared.declaration.DeclaredType.{DeclaredType}
use Rattle.syntax.specs.declared.declaration.DeclaredType.TheVariants as declared
use Rattle.apply_options.specs.declared.reduction.Reduction.{Reduction}
use Rattle.syntax.specs.SourceTrees as source
use Rattle.syntax.specs.SourceTrees.{ParameterTree, InitialTree, DeclarationTree, SourceTree}
use Rattle.typed_tree.specs.declared.expression.VarRef.{VarRef}
use Rattle.typed_tree.specs.IntExpressionTree.{IntExpressionTree}
use Rattle.typed_tree.specs.BlockTree.{StatementKindTree, BlockTree, Empty, Then}
use Rattle.expression_types.specs.declared.scope.Entity.{Entity}
use Rattle.expression_types.specs.declared.scope.Entity.TheVariants as entity
use Rattle.expression_types.specs.Expression.{used_name, value_of, vector_index}
use Rattle.expression_types.specs.ScopeTree.{found}
use Rattle.expression_types.specs.Faults.{WithFaults}
use Rattle.expression_types.specs.ValueTree as value
use Rattle.expression_types.specs.ValueTree.{ValueTree, entity_set}
use Rattle.types.specs.Block.{action_typed, then_statement, statements_typed}
use Rattle.initializer_types.specs.Checker.{CheckerTree, counted, declared_in, integer_slot, with_label, new_label, restarted, in_scope, as_index, integer_in}
use Rattle.initializer_types.specs.DeclarationForms.{FunctionKindTree, MainKind, EdgeKind, VertexKind, FilterKind, NoKind, kind}
use Rattle.types.specs.Declaration.{DeclaredTree, declaration_typed, declarations_typed, declare_constant_as, declare_function}
use Rattle.types.specs.Declaration.{declare_name, opened, parameter, parameters_declared, result_declared, with_main_block}
use Rattle.initializer_types.specs.Initial.{ApplyEndTree, InitializerTree, edge_function, apply_end_of, initializer_of, is_edges, names_error, is_error_end, is_wrong, vertex_function, lacks_weights}
use Rattle.type_laws.specs.Numbers.{InOrder, inner_numbers, numbers}
use Rattle.types.specs.Program.{main_of, no_declarations, program_of, set_count}
use Rattle.types.specs.Statement.{added_to_set, applied, assigned, declare_as, edges_applied, entry_reduced, entry_set, has_ends, printed, reduced, set_applied, vertices_applied}

-- numbers that go on after so many
record Counts (from : ℕ) (ns : List ℕ) (to : ℕ) : Type 0 where
  pub ordered : InOrder (suc from) ns
  pub count : to ≡ length ns + from

pub order-append : (n : ℕ) (xs ys : List ℕ) → InOrder n xs → InOrder (length xs + n) ys → InOrder n (xs ++ ys)
order-append n [] ys first second = let e : 0 + n ≡ n = omega arith in subst (λ m. InOrder m ys) e second
order-append n (x ∷ xs) ys first second =
    let e : suc (length xs) + n ≡ length xs + suc n = omega arith in
    (first.0, order-append (suc n) xs ys first.1 (subst (λ m. InOrder m ys) e second))

no_numbers : (n : ℕ) → Counts n [] n
no_numbers n = record { ordered = tt; count = omega arith }

then_numbers : (a b c : ℕ) (xs ys : List ℕ) → Counts a xs b → Counts b ys c → Counts a (xs ++ ys) c
then_numbers a b c xs ys first second =
    let h : b ≡ length xs + a = first.count in
    let k : c ≡ length ys + b = second.count in
    let e : suc b ≡ length xs + suc a = omega (arith, h) in
    record {
      ordered = order-append (suc a) xs ys first.ordered (subst (λ m. InOrder m ys) e second.ordered);
      count = omega (arith, h, k, length-append xs ys);
    }

one_number : (a c : ℕ) (xs : List ℕ) → Counts (suc a) xs c → Counts a (suc a ∷ xs) c
one_number a c xs rest =
    let k : c ≡ length xs + suc a = rest.count in
    record { ordered = (refl, rest.ordered); count = omega (arith, k) }

numbers_after : (so_far : BlockTree) (number : ℕ) (label : Option ℕ) (action : StatementKindTree)
    → numbers (then_statement so_far number label action) ≡ numbers so_far ++ (number ∷ (inner_numbers action ++ []))
numbers_after Empty number label action = refl
numbers_after (Then n l a others) number label action =
    ap (λ ns. n ∷ (inner_numbers a ++ ns)) (numbers_after others number label action)
    ∙ ap (λ ns. n ∷ ns) (sym (append_assoc (inner_numbers a) (numbers others) (number ∷ (inner_numbers action ++ []))))

-- no statement is in it
abbrev Plain : StatementKindTree → Type 0
Plain a = inner_numbers a ≡ []

if_plain : (b : Bool) (x y : WithFaults StatementKindTree) → Plain x.value → Plain y.value → Plain (if b then x else y).value
if_plain true x y first second = first
if_plain false x y first second = second

assigned_plain : (at : ℕ) (initializer : InitializerTree) (e : Entity) → Plain (assigned at initializer e).value
assigned_plain at initializer (entity.Edges weights) = refl
assigned_plain at initializer _ = refl

reduced_plain : (at : ℕ) (by : Reduction) (v : ValueTree) (e : Entity) → Plain (reduced at by v e).value
reduced_plain at by v (entity.Edges weights) = refl
reduced_plain at by v _ = refl

added_plain : (at : ℕ) (v : ValueTree) (e : Entity) → Plain (added_to_set at v e).value
added_plain at v (entity.Edges weights) = refl
added_plain at v _ = refl

set_plain : (vector : Option ℕ) (index : Option IntExpressionTree) (e : IntExpressionTree) → Plain (entry_set vector index e)
set_plain None index e = refl
set_plain (Some vector) None e = refl
set_plain (Some vector) (Some index) e = refl

entry_plain : (vector : Option ℕ) (index : Option IntExpressionTree) (by : Reduction) (e : IntExpressionTree) → Plain (entry_reduced vector index by e)
entry_plain None index by e = refl
entry_plain (Some vector) None by e = refl
entry_plain (Some vector) (Some index) by e = refl

printed_plain : (at : ℕ) (v : ValueTree) → Plain (printed at v).value
printed_plain at (value.Integer e) = refl
printed_plain at (value.Condition c) = refl
printed_plain at (value.Vertex p) = refl
printed_plain at (value.Set slot) = refl
printed_plain at value.ErrorValue = refl

edges_plain : (at : ℕ) (a b : ApplyEndTree) (error : Bool) (function : Option ℕ) → Plain (edges_applied at a b error function).value
edges_plain at a b true None = refl
edges_plain at a b false None = refl
edges_plain at a b error (Some function) = if_plain (is_error_end a || is_error_end b) _ _ refl refl

vertices_plain : (at : ℕ) (slot : VarRef) (error : Bool) (function : Option ℕ) → Plain (vertices_applied at slot error function).value
vertices_plain at slot true None = refl
vertices_plain at slot false None = refl
vertices_plain at slot error (Some function) = refl

set_applied_plain : (at : ℕ) (ends : Bool) (f : Entity) (set : Option VarRef) → Plain (set_applied at ends f set).value
set_applied_plain at ends f None = refl
set_applied_plain at ends f (Some slot) = if_plain ends _ _ refl (vertices_plain at slot (names_error f) (vertex_function f))

applied_plain : (at : ℕ) (t : Entity) (a b : ApplyEndTree) (ends : Bool) (f : Entity) → Plain (applied at t a b ends f).value
applied_plain at t a b ends f =
    if_plain (names_error t) _ _ refl (if_plain (is_edges t) _ _
    (if_plain (is_wrong a || is_wrong b || lacks_weights t f) _ _ refl (edges_plain at a b (names_error f) (edge_function f)))
    (set_applied_plain at ends f (entity_set t)))

-- what a statement is, and the checker after it
abbrev ActionCounts : ℕ → StatementKindTree × CheckerTree → Type 0
ActionCounts n r = Counts n (inner_numbers r.0) r.1.statements

abbrev BlockCounts : ℕ → BlockTree × CheckerTree → Type 0
BlockCounts n b = Counts n (numbers b.0) b.1.statements

plain_counts : (n : ℕ) (a : StatementKindTree) → Plain a → Counts n (inner_numbers a) n
plain_counts n a plain = subst (λ ns. Counts n ns n) (sym plain) (no_numbers n)

new_label_same : (c : CheckerTree) (label : Identifier) (index : Option ℕ) → (new_label c label index).value.1.statements ≡ c.statements
new_label_same c label None = refl
new_label_same c label (Some index) = refl

labelled_same : (c : CheckerTree) (label : Option Identifier) → (with_label c label).value.1.statements ≡ c.statements
labelled_same c None = refl
labelled_same c (Some label) = new_label_same c label (found label.bytes c.labels)

declare_counts : (c : CheckerTree) (at : ℕ) (name : Identifier) (initializer : InitializerTree) (type : DeclaredType) → ActionCounts c.statements (declare_as c at name initializer type).value
declare_counts c at name initializer declared.Int = no_numbers c.statements
declare_counts c at name initializer declared.Bool = no_numbers c.statements
declare_counts c at name initializer declared.Vertex = no_numbers c.statements
declare_counts c at name initializer declared.VertexSet = no_numbers c.statements
declare_counts c at name initializer declared.Vector = no_numbers c.statements
declare_counts c at name initializer declared.EdgeSet = no_numbers c.statements
declare_counts c at name initializer declared.WeightedEdgeSet = no_numbers c.statements

mutual
  action_counts : (c : CheckerTree) (action : source.StatementKindTree) → ActionCounts c.statements (action_typed c action).value
  action_counts c (source.Declare at p initial) = declare_counts c at p.name (initializer_of c at initial).value p.declared
  action_counts c (source.While at test body) = statements_count c.statements c Empty body (no_numbers c.statements)
  action_counts c (source.For at name first limit body) =
      statements_count c.statements (declared_in c name (entity.LoopVariable (integer_slot c))).value Empty body (no_numbers c.statements)
  action_counts c (source.If at test body) = statements_count c.statements c Empty body (no_numbers c.statements)
  action_counts c (source.IfElse at test body otherwise) =
      let b = (statements_typed c Empty body).value in
      let d = in_scope b.1 c.scope in
      let o = (statements_typed d Empty otherwise).value in
      then_numbers c.statements b.1.statements o.1.statements (numbers b.0) (numbers o.0)
      (statements_count c.statements c Empty body (no_numbers c.statements))
      (statements_count b.1.statements d Empty otherwise (no_numbers b.1.statements))
  action_counts c (source.Print at e) = plain_counts c.statements _ (printed_plain at (value_of c.scope at e).value)
  action_counts c (source.Assign name initial) =
      plain_counts c.statements _ (assigned_plain name.at (initializer_of c name.at initial).value (used_name c.scope name).value)
  action_counts c (source.Reduce name by e) =
      plain_counts c.statements _ (reduced_plain name.at by (value_of c.scope name.at e).value (used_name c.scope name).value)
  action_counts c (source.SetEntry vector index e) =
      plain_counts c.statements _ (set_plain (vector_index c.scope vector.at vector).value (as_index vector.at (value_of c.scope vector.at index).value).value (integer_in c.scope vector.at e).value)
  action_counts c (source.ReduceEntry vector index by e) =
      plain_counts c.statements _ (entry_plain (vector_index c.scope vector.at vector).value (as_index vector.at (value_of c.scope vector.at index).value).value by
      (integer_in c.scope vector.at e).value)
  action_counts c (source.AddVertex set e) =
      plain_counts c.statements _ (added_plain set.at (value_of c.scope set.at e).value (used_name c.scope set).value)
  action_counts c (source.Apply target ends function) =
      plain_counts c.statements _ (applied_plain target.at (used_name c.scope target).value (apply_end_of c.scope ends.from).value (apply_end_of c.scope ends.to).value (has_ends ends)
      (used_name c.scope function).value)

  statements_count : (n : ℕ) (c : CheckerTree) (so_far : BlockTree) (block : source.BlockTree) → Counts n (numbers so_far) c.statements
      → BlockCounts n (statements_typed c so_far block).value
  statements_count n c so_far source.Empty counts = counts
  statements_count n c so_far (source.Then label action others) counts =
      let l = (with_label c label).value in
      let a = (action_typed (counted l.1) action).value in
      let inside = then_numbers (suc l.1.statements) a.1.statements a.1.statements (inner_numbers a.0) [] (action_counts (counted l.1) action) (no_numbers a.1.statements) in
      let first = one_number l.1.statements a.1.statements (inner_numbers a.0 ++ []) inside in
      let before = subst (λ m. Counts n (numbers so_far) m) (sym (labelled_same c label)) counts in
      let both = then_numbers n l.1.statements a.1.statements (numbers so_far) (suc l.1.statements ∷ (inner_numbers a.0 ++ [])) before first in
      statements_count n a.1 (then_statement so_far (suc l.1.statements) l.0 a.0) others
      (subst (λ ns. Counts n ns a.1.statements) (sym (numbers_after so_far (suc l.1.statements) l.0 a.0)) both)

-- what is main so far is numbered in order
abbrev MainInOrder : Option BlockTree → Type 0
MainInOrder None = Unit {0}
MainInOrder (Some b) = InOrder 1 (numbers b)

constant_order : (d : DeclaredTree) (at : ℕ) (name : Identifier) (initial : InitialTree) (type : DeclaredType) (initializer : InitializerTree) → MainInOrder d.main
    → MainInOrder (declare_constant_as d at name initial type initializer).value.main
constant_order d at name initial declared.Int initializer order = order
constant_order d at name initial declared.Bool initializer order = order
constant_order d at name initial declared.Vertex initializer order = order
constant_order d at name initial declared.VertexSet initializer order = order
constant_order d at name initial declared.Vector initializer order = order
constant_order d at name initial declared.EdgeSet initializer order = order
constant_order d at name initial declared.WeightedEdgeSet initializer order = order

parameters_same : (w : Bool) (c : CheckerTree) (p : _) (parameters : List ParameterTree) → (parameters_declared w c p parameters).value.statements ≡ c.statements
parameters_same w c p [] = refl
parameters_same w c p (v ∷ others) = parameters_same w (declared_in c v.name (parameter w p v.declared)).value _ others

result_same : (c : CheckerTree) (kind : FunctionKindTree) (result : Option ParameterTree) → (result_declared c kind result).value.statements ≡ c.statements
result_same c kind None = refl
result_same c kind (Some result) = refl

with_main_order : (d : DeclaredTree) (fits : Bool) (main : BlockTree) → MainInOrder d.main → InOrder 1 (numbers main) → MainInOrder (with_main_block d fits main).main
with_main_order d true main old new = new
with_main_order d false main old new = old

main_order : (d : DeclaredTree) (at : ℕ) (name : Identifier) (parameters : List ParameterTree) (result : Option ParameterTree) (body : source.BlockTree) (kind : FunctionKindTree)
    → MainInOrder d.main → MainInOrder (declare_function d at name parameters result body kind).value.main
main_order d at name parameters result body (MainKind fits) order =
    let c = (opened (restarted d.checker) (MainKind fits) parameters result).value in
    let b = (statements_typed c Empty body).value in
    let none : c.statements ≡ 0 = result_same (parameters_declared false _ _ parameters).value (MainKind fits) result ∙ parameters_same false _ _ parameters in
    with_main_order (declare_name (record d { checker = in_scope b.1 d.checker.scope }) name entity.Main).value fits b.0 order
    (statements_count 0 c Empty body (subst (λ n. Counts 0 [] n) (sym none) (no_numbers 0))).ordered
main_order d at name parameters result body (EdgeKind weighted) order = order
main_order d at name parameters result body VertexKind order = order
main_order d at name parameters result body FilterKind order = order
main_order d at name parameters result body NoKind order = order

declaration_order : (d : DeclaredTree) (x : DeclarationTree) → MainInOrder d.main → MainInOrder (declaration_typed d x).value.main
declaration_order d (source.Constant at p initial) order = constant_order d at p.name initial p.declared (initializer_of d.checker at initial).value order
declaration_order d (source.Function at name parameters result body) order =
    main_order d at name parameters result body (kind name.bytes parameters result) order

declarations_order : (d : DeclaredTree) (xs : List DeclarationTree) → MainInOrder d.main → MainInOrder (declarations_typed d xs).value.main
declarations_order d [] order = order
declarations_order d (x ∷ others) order = declarations_order (declaration_typed d x).value others (declaration_order d x order)

run_order : (length : ℕ) (main : Option BlockTree) → MainInOrder main → InOrder 1 (numbers (main_of length main).value)
run_order length None order = tt
run_order length (Some main) order = order

pub program_order : (source : SourceTree) (length : ℕ) → InOrder 1 (numbers (program_of source length).value.main)
program_order source length =
    let start = no_declarations (set_count source.declarations) in
    run_order length (declarations_typed start source.declarations).value.main (declarations_order start source.declarations tt)
