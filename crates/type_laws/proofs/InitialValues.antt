-- In a source without a fault each `new vertexset` has no member and each `load` reads the first argument.
use Rattle.std.proofs.Common.{◌≡◌, refl, ℕ, zero, suc, ℤ, pos, negsuc, Bool, List, [], ◌++◌, Option}
use Rattle.std.specs.List.{AllByRecursion}
use Rattle.syntax.specs.Terminals.{Identifier}
use Rattle.syntax.specs.SourceTrees as source
use Rattle.syntax.specs.SourceTrees.{InitialTree, ParameterTree, DeclarationTree, SourceTree}
use Rattle.typed_tree.specs.BlockTree.{BlockTree, Empty}
use Rattle.typed_tree.specs.FunctionStatementTree.{FunctionStatementsTree, NoStep}
use Rattle.expression_types.specs.declared.scope.Entity.TheVariants as entity
use Rattle.expression_types.specs.Expression.{used_name}
use Rattle.types.specs.Block.{action_typed, then_statement, closed, statements_typed}
use Rattle.initializer_types.specs.Checker.{CheckerTree, counted, declared_in, integer_slot, with_label, restarted, condition_in, integer_in}
use Rattle.initializer_types.specs.DeclarationForms.{FunctionKindTree, MainKind, EdgeKind, VertexKind, FilterKind, NoKind, kind}
use Rattle.types.specs.Declaration.{DeclaredTree, declaration_typed, declarations_typed, declare_function, kind_fits, main_declared, opened, steps_declared}
use Rattle.initializer_types.specs.Initial.{initializer_of, loaded, new_set}
use Rattle.type_laws.specs.InitialValues.{ActionInitialsFit, BlockInitialsFit, DeclarationInitialsFit, InitialFits}
use Rattle.types.specs.Program.{no_declarations, program_of, set_count}
use Rattle.types.specs.Statement.{assign}
use Rattle.types.specs.Step.{assign_step, step_after, step_typed, steps_after, steps_typed}
use Rattle.type_laws.proofs.EachDeclaration.{each_declaration}
use Rattle.type_laws.proofs.Faultless.{no_left, no_right, not_empty}

new_set_fits : (at : ℕ) (size : ℤ) → (new_set at size).faults ≡ [] → size ≡ pos 0
new_set_fits at (pos zero) none = refl
new_set_fits at (pos (suc n)) none = absurd (not_empty _ _ none)
new_set_fits at (negsuc n) none = absurd (not_empty _ _ none)

loaded_fits : (at : ℕ) (argument : ℤ) → (loaded at argument).faults ≡ [] → argument ≡ pos 1
loaded_fits at (pos zero) none = absurd (not_empty _ _ none)
loaded_fits at (pos (suc zero)) none = refl
loaded_fits at (pos (suc (suc n))) none = absurd (not_empty _ _ none)
loaded_fits at (negsuc n) none = absurd (not_empty _ _ none)

initializer_fits : (c : CheckerTree) (at : ℕ) (initial : InitialTree) → (initializer_of c at initial).faults ≡ [] → InitialFits initial
initializer_fits c at (source.NewSet size) none = new_set_fits at size none
initializer_fits c at (source.Load argument) none = loaded_fits at argument none
initializer_fits c at (source.Vertices edges) none = tt
initializer_fits c at (source.OutDegrees edges) none = tt
initializer_fits c at (source.Filter s f) none = tt
initializer_fits c at (source.ApplyModified edges ends f v) none = tt
initializer_fits c at (source.Value e) none = tt

-- statements of functions
mutual
  step_initials_fit : (c : CheckerTree) (action : source.StatementKindTree) → (step_typed c action).faults ≡ [] → ActionInitialsFit action
  step_initials_fit c (source.Declare at x initial) none = initializer_fits c at initial (no_left (initializer_of c at initial).faults _ none)
  step_initials_fit c (source.While at test body) none = absurd (not_empty _ _ none)
  step_initials_fit c (source.For at name first limit body) none = absurd (not_empty _ _ none)
  step_initials_fit c (source.If at test body) none =
      let b = steps_typed c NoStep body in
      steps_initials_fit c NoStep body (no_left b.faults [] (no_right (condition_in c.scope at test).faults _ none))
  step_initials_fit c (source.IfElse at test body otherwise) none =
      let b = steps_typed c NoStep body in
      let d = steps_after c b.value.1 in
      let o = steps_typed d NoStep otherwise in
      let both = no_right (condition_in c.scope at test).faults (b.faults ++ (o.faults ++ [])) none in (
        steps_initials_fit c NoStep body (no_left b.faults (o.faults ++ []) both),
        steps_initials_fit d NoStep otherwise (no_left o.faults [] (no_right b.faults (o.faults ++ []) both)),
      )
  step_initials_fit c (source.Print at e) none = tt
  step_initials_fit c (source.Assign name initial) none =
      let all = no_left (assign_step c name.at name initial).faults [] none in
      initializer_fits c name.at initial (no_left (initializer_of c name.at initial).faults _ (no_right (used_name c.scope name).faults _ all))
  step_initials_fit c (source.Reduce name by e) none = tt
  step_initials_fit c (source.SetEntry vector index e) none = tt
  step_initials_fit c (source.ReduceEntry vector index by e) none = tt
  step_initials_fit c (source.AddVertex set e) none = tt
  step_initials_fit c (source.Apply target ends function) none = tt

  steps_initials_fit : (c : CheckerTree) (so_far : FunctionStatementsTree) (block : source.BlockTree) → (steps_typed c so_far block).faults ≡ [] → BlockInitialsFit block
  steps_initials_fit c so_far source.Empty none = tt
  steps_initials_fit c so_far (source.Then label action others) none =
      let l = with_label c label in
      let s = step_typed l.value.1 action in
      let rest = steps_typed s.value.1 (step_after so_far s.value.0) others in
      let both = no_right l.faults (s.faults ++ rest.faults) none in (
        step_initials_fit l.value.1 action (no_left s.faults rest.faults both),
        steps_initials_fit s.value.1 (step_after so_far s.value.0) others (no_right s.faults rest.faults both),
      )

-- statements of main
mutual
  action_initials_fit : (c : CheckerTree) (action : source.StatementKindTree) → (action_typed c action).faults ≡ [] → ActionInitialsFit action
  action_initials_fit c (source.Declare at x initial) none = initializer_fits c at initial (no_left (initializer_of c at initial).faults _ none)
  action_initials_fit c (source.While at test body) none =
      let b = statements_typed c Empty body in
      statements_initials_fit c Empty body (no_left b.faults [] (no_right (condition_in c.scope at test).faults _ none))
  action_initials_fit c (source.For at name first limit body) none =
      let d = declared_in c name (entity.LoopVariable (integer_slot c)) in
      let b = statements_typed d.value Empty body in
      let both = no_right (integer_in c.scope at limit).faults (d.faults ++ (b.faults ++ [])) (no_right (integer_in c.scope at first).faults _ none) in
      statements_initials_fit d.value Empty body (no_left b.faults [] (no_right d.faults (b.faults ++ []) both))
  action_initials_fit c (source.If at test body) none =
      let b = statements_typed c Empty body in
      statements_initials_fit c Empty body (no_left b.faults [] (no_right (condition_in c.scope at test).faults _ none))
  action_initials_fit c (source.IfElse at test body otherwise) none =
      let b = statements_typed c Empty body in
      let d = closed c b.value.1 in
      let o = statements_typed d Empty otherwise in
      let both = no_right (condition_in c.scope at test).faults (b.faults ++ (o.faults ++ [])) none in (
        statements_initials_fit c Empty body (no_left b.faults (o.faults ++ []) both),
        statements_initials_fit d Empty otherwise (no_left o.faults [] (no_right b.faults (o.faults ++ []) both)),
      )
  action_initials_fit c (source.Print at e) none = tt
  action_initials_fit c (source.Assign name initial) none =
      let all = no_left (assign c name.at name initial).faults [] none in
      initializer_fits c name.at initial (no_left (initializer_of c name.at initial).faults _ (no_right (used_name c.scope name).faults _ all))
  action_initials_fit c (source.Reduce name by e) none = tt
  action_initials_fit c (source.SetEntry vector index e) none = tt
  action_initials_fit c (source.ReduceEntry vector index by e) none = tt
  action_initials_fit c (source.AddVertex set e) none = tt
  action_initials_fit c (source.Apply target ends function) none = tt

  statements_initials_fit : (c : CheckerTree) (so_far : BlockTree) (block : source.BlockTree) → (statements_typed c so_far block).faults ≡ [] → BlockInitialsFit block
  statements_initials_fit c so_far source.Empty none = tt
  statements_initials_fit c so_far (source.Then label action others) none =
      let l = with_label c label in
      let a = action_typed (counted l.value.1) action in
      let more = then_statement so_far (suc l.value.1.statements) l.value.0 a.value.0 in
      let rest = statements_typed a.value.1 more others in
      let both = no_right l.faults (a.faults ++ rest.faults) none in (
        action_initials_fit (counted l.value.1) action (no_left a.faults rest.faults both),
        statements_initials_fit a.value.1 more others (no_right a.faults rest.faults both),
      )

-- functions
user_initials_fit : (d : DeclaredTree) (at : ℕ) (kind : FunctionKindTree) (name : Identifier) (parameters : List ParameterTree) (result : Option ParameterTree) (body : source.BlockTree)
    → (steps_declared d at kind name parameters result body).faults ≡ [] → BlockInitialsFit body
user_initials_fit d at kind name parameters result body none =
    let c = opened d.checker kind parameters result in
    let b = steps_typed c.value NoStep body in
    steps_initials_fit c.value NoStep body (no_left b.faults _ (no_right c.faults _ (no_right (kind_fits at kind).faults _ none)))

main_initials_fit : (d : DeclaredTree) (fits : Bool) (name : Identifier) (parameters : List ParameterTree) (result : Option ParameterTree) (body : source.BlockTree)
    → (main_declared d fits name parameters result body).faults ≡ [] → BlockInitialsFit body
main_initials_fit d fits name parameters result body none =
    let c = opened (restarted d.checker) (MainKind fits) parameters result in
    let b = statements_typed c.value Empty body in
    statements_initials_fit c.value Empty body (no_left b.faults _ (no_right c.faults _ none))

function_initials_fit : (d : DeclaredTree) (at : ℕ) (name : Identifier) (parameters : List ParameterTree) (result : Option ParameterTree) (body : source.BlockTree) (kind : FunctionKindTree)
    → (declare_function d at name parameters result body kind).faults ≡ [] → BlockInitialsFit body
function_initials_fit d at name parameters result body (MainKind fits) none = main_initials_fit d fits name parameters result body none
function_initials_fit d at name parameters result body (EdgeKind weighted) none = user_initials_fit d at (EdgeKind weighted) name parameters result body none
function_initials_fit d at name parameters result body VertexKind none = user_initials_fit d at VertexKind name parameters result body none
function_initials_fit d at name parameters result body FilterKind none = user_initials_fit d at FilterKind name parameters result body none
function_initials_fit d at name parameters result body NoKind none = user_initials_fit d at NoKind name parameters result body none

declaration_initials_fit : (d : DeclaredTree) (x : DeclarationTree) → Unit {0} → (declaration_typed d x).faults ≡ [] → DeclarationInitialsFit x × Unit {0}
declaration_initials_fit d (source.Constant at x initial) known none = (initializer_fits d.checker at initial (no_left (initializer_of d.checker at initial).faults _ none), tt)
declaration_initials_fit d (source.Function at name parameters result body) known none =
    (function_initials_fit d at name parameters result body (kind name.bytes parameters result) none, tt)

pub initials_fit : (source : SourceTree) (length : ℕ) → (program_of source length).faults ≡ [] → AllByRecursion DeclarationInitialsFit source.declarations
initials_fit source length none =
    let start = no_declarations (set_count source.declarations) in
    each_declaration (λ d. Unit {0}) DeclarationInitialsFit declaration_initials_fit start source.declarations tt (no_left (declarations_typed start source.declarations).faults _ none)
