-- Names that were declared stay, in the order of the text.
use Rattle.std.proofs.Common.{◌≡◌, ℕ, suc, List, [], ◌∷◌, Option, Some, None, Bool}
use Rattle.std.specs.Prelude.{slice_get}
use Rattle.syntax.specs.Terminals.{Identifier}
use Rattle.syntax.specs.declared.declaration.DeclaredType.{DeclaredType}
use Rattle.syntax.specs.declared.declaration.DeclaredType.TheVariants as declared
use Rattle.syntax.specs.SourceTrees as source
use Rattle.syntax.specs.SourceTrees.{ParameterTree, InitialTree, DeclarationTree}
use Rattle.typed_tree.specs.declared.expression.Endpoint.{Endpoint}
use Rattle.typed_tree.specs.declared.expression.Endpoint.TheVariants as endpoint
use Rattle.typed_tree.specs.BlockTree.{BlockTree, Empty}
use Rattle.typed_tree.specs.FunctionStatementTree.{FunctionStatementsTree, NoStep}
use Rattle.expression_types.specs.declared.scope.Entity.{Entity}
use Rattle.expression_types.specs.declared.scope.Entity.TheVariants as entity
use Rattle.expression_types.specs.ScopeTree.{found, entered}
use Rattle.types.specs.Block.{action_typed, then_statement, closed, statements_typed}
use Rattle.initializer_types.specs.Checker.{CheckerTree, counted, declared_in, integer_slot, with_label, new_label, in_scope}
use Rattle.initializer_types.specs.DeclarationForms.{FunctionKindTree}
use Rattle.types.specs.Declaration.{inside_of, opened, parameter, parameters_declared, result_declared, result_entity, takes_weight}
use Rattle.initializer_types.specs.Initial.{InitializerTree, initializer_of}
use Rattle.types.specs.Statement.{declare_as}
use Rattle.types.specs.Step.{declare_step_as, step_after, step_typed, steps_after, steps_typed, with_writes}
use Rattle.type_laws.proofs.ResolvedScopes.{get_before}

-- each element of the first list stands at its index in the second
abbrev pub Begins : {A : Type 0} → List A → List A → Type 0
Begins {A} xs ys = (k : ℕ) (x : A) → slice_get xs k ≡ Some x → slice_get ys k ≡ Some x

abbrev pub Grow : CheckerTree → CheckerTree → Type 0
Grow c d = Begins c.names d.names

pub declared_grow : (c : CheckerTree) (name : Identifier) (e : Entity) → Grow c (declared_in c name e).value
declared_grow c name e k x is = get_before c.names (name.bytes ∷ []) k x is

new_label_grow : (c : CheckerTree) (label : Identifier) (index : Option ℕ) → Grow c (new_label c label index).value.1
new_label_grow c label None k x is = is
new_label_grow c label (Some index) k x is = is

labelled_grow : (c : CheckerTree) (label : Option Identifier) → Grow c (with_label c label).value.1
labelled_grow c None k x is = is
labelled_grow c (Some label) k x is = new_label_grow c label (found label.bytes c.labels) k x is

-- statements of main
declare_grow : (c : CheckerTree) (at : ℕ) (name : Identifier) (initializer : InitializerTree) (type : DeclaredType) → Grow c (declare_as c at name initializer type).value.1
declare_grow c at name initializer declared.Int k x is = get_before c.names (name.bytes ∷ []) k x is
declare_grow c at name initializer declared.Bool k x is = get_before c.names (name.bytes ∷ []) k x is
declare_grow c at name initializer declared.Vertex k x is = get_before c.names (name.bytes ∷ []) k x is
declare_grow c at name initializer declared.VertexSet k x is = get_before c.names (name.bytes ∷ []) k x is
declare_grow c at name initializer declared.Vector k x is = get_before c.names (name.bytes ∷ []) k x is
declare_grow c at name initializer declared.EdgeSet k x is = get_before c.names (name.bytes ∷ []) k x is
declare_grow c at name initializer declared.WeightedEdgeSet k x is = get_before c.names (name.bytes ∷ []) k x is

mutual
  pub action_grow : (c : CheckerTree) (action : source.StatementKindTree) → Grow c (action_typed c action).value.1
  action_grow c (source.Declare at v initial) k x is = declare_grow c at v.name (initializer_of c at initial).value v.declared k x is
  action_grow c (source.While at test body) k x is = statements_grow c Empty body k x is
  action_grow c (source.For at name first limit body) k x is =
      let e = entity.LoopVariable (integer_slot c) in statements_grow (declared_in c name e).value Empty body k x (declared_grow c name e k x is)
  action_grow c (source.If at test body) k x is = statements_grow c Empty body k x is
  action_grow c (source.IfElse at test body otherwise) k x is =
      let b = (statements_typed c Empty body).value in statements_grow (closed c b.1) Empty otherwise k x (statements_grow c Empty body k x is)
  action_grow c (source.Print at e) k x is = is
  action_grow c (source.Assign name initial) k x is = is
  action_grow c (source.Reduce name by e) k x is = is
  action_grow c (source.SetEntry vector index e) k x is = is
  action_grow c (source.ReduceEntry vector index by e) k x is = is
  action_grow c (source.AddVertex set e) k x is = is
  action_grow c (source.Apply target ends function) k x is = is

  pub statements_grow : (c : CheckerTree) (so_far : BlockTree) (block : source.BlockTree) → Grow c (statements_typed c so_far block).value.1
  statements_grow c so_far source.Empty k x is = is
  statements_grow c so_far (source.Then label action others) k x is =
      let l = (with_label c label).value in
      let a = (action_typed (counted l.1) action).value in
      statements_grow a.1 (then_statement so_far (suc l.1.statements) l.0 a.0) others k x (action_grow (counted l.1) action k x (labelled_grow c label k x is))

-- statements of functions
declare_step_grow : (c : CheckerTree) (at : ℕ) (name : Identifier) (initializer : InitializerTree) (type : DeclaredType) → Grow c (declare_step_as c at name initializer type).value.1
declare_step_grow c at name initializer declared.Int k x is = get_before c.names (name.bytes ∷ []) k x is
declare_step_grow c at name initializer declared.Bool k x is = get_before c.names (name.bytes ∷ []) k x is
declare_step_grow c at name initializer declared.Vertex k x is = get_before c.names (name.bytes ∷ []) k x is
declare_step_grow c at name initializer declared.VertexSet k x is = get_before c.names (name.bytes ∷ []) k x is
declare_step_grow c at name initializer declared.Vector k x is = get_before c.names (name.bytes ∷ []) k x is
declare_step_grow c at name initializer declared.EdgeSet k x is = get_before c.names (name.bytes ∷ []) k x is
declare_step_grow c at name initializer declared.WeightedEdgeSet k x is = get_before c.names (name.bytes ∷ []) k x is

mutual
  step_grow : (c : CheckerTree) (action : source.StatementKindTree) → Grow c (step_typed c action).value.1
  step_grow c (source.Declare at v initial) k x is = declare_step_grow c at v.name (initializer_of c at initial).value v.declared k x is
  step_grow c (source.While at test body) k x is = steps_grow c NoStep body k x is
  step_grow c (source.For at name first limit body) k x is =
      let e = entity.LoopVariable (integer_slot c) in steps_grow (declared_in c name e).value NoStep body k x (declared_grow c name e k x is)
  step_grow c (source.If at test body) k x is = steps_grow c NoStep body k x is
  step_grow c (source.IfElse at test body otherwise) k x is =
      let b = (steps_typed c NoStep body).value in steps_grow (steps_after c b.1) NoStep otherwise k x (steps_grow c NoStep body k x is)
  step_grow c (source.Print at e) k x is = is
  step_grow c (source.Assign name initial) k x is = is
  step_grow c (source.Reduce name by e) k x is = is
  step_grow c (source.SetEntry vector index e) k x is = is
  step_grow c (source.ReduceEntry vector index by e) k x is = is
  step_grow c (source.AddVertex set e) k x is = is
  step_grow c (source.Apply target ends function) k x is = is

  pub steps_grow : (c : CheckerTree) (so_far : FunctionStatementsTree) (block : source.BlockTree) → Grow c (steps_typed c so_far block).value.1
  steps_grow c so_far source.Empty k x is = is
  steps_grow c so_far (source.Then label action others) k x is =
      let l = (with_label c label).value in
      let s = (step_typed l.1 action).value in
      steps_grow s.1 (step_after so_far s.0) others k x (step_grow l.1 action k x (labelled_grow c label k x is))

-- parameters and a result
parameters_grow : (w : Bool) (c : CheckerTree) (at : Endpoint) (parameters : List ParameterTree) → Grow c (parameters_declared w c at parameters).value
parameters_grow w c at [] k x is = is
parameters_grow w c at (v ∷ others) k x is =
    let e = parameter w at v.declared in parameters_grow w (declared_in c v.name e).value endpoint.Destination others k x (declared_grow c v.name e k x is)

result_grow : (c : CheckerTree) (kind : FunctionKindTree) (result : Option ParameterTree) → Grow c (result_declared c kind result).value
result_grow c kind None k x is = is
result_grow c kind (Some result) k x is = declared_grow c result.name (result_entity c kind) k x is

pub opened_grow : (c : CheckerTree) (kind : FunctionKindTree) (parameters : List ParameterTree) (result : Option ParameterTree) → Grow c (opened c kind parameters result).value
opened_grow c kind parameters result k x is =
    let e = with_writes (in_scope c (entered (inside_of kind) c.scope)) [] in
    let d = (parameters_declared (takes_weight kind) e endpoint.Source parameters).value in
    result_grow d kind result k x (parameters_grow (takes_weight kind) e endpoint.Source parameters k x is)
