-- A source without a fault prints in main alone.
use Rattle.std.proofs.Common.{◌≡◌, ℕ, List, [], ◌++◌, Option}
use Rattle.std.specs.List.{AllByRecursion}
use Rattle.syntax.specs.Terminals.{Identifier}
use Rattle.syntax.specs.SourceTrees as source
use Rattle.syntax.specs.SourceTrees.{ParameterTree, DeclarationTree, SourceTree}
use Rattle.typed_tree.specs.FunctionStatementTree.{FunctionStatementsTree, NoStep}
use Rattle.initializer_types.specs.Checker.{CheckerTree, with_label, condition_in}
use Rattle.initializer_types.specs.DeclarationForms.{FunctionKindTree, kind_of}
use Rattle.types.specs.Declaration.{DeclaredTree, declaration_typed, declarations_typed, kind_fits, opened, steps_declared}
use Rattle.type_laws.specs.Prints.{ActionPrintsNothing, BlockPrintsNothing, PrintsInMainAlone}
use Rattle.types.specs.Program.{no_declarations, program_of, set_count}
use Rattle.types.specs.Step.{step_after, step_typed, steps_after, steps_typed}
use Rattle.type_laws.proofs.EachDeclaration.{each_declaration, user_declared}
use Rattle.type_laws.proofs.Faultless.{no_left, no_right, not_empty}

mutual
  step_prints_nothing : (c : CheckerTree) (action : source.StatementKindTree) → (step_typed c action).faults ≡ [] → ActionPrintsNothing action
  step_prints_nothing c (source.Declare at x initial) none = tt
  step_prints_nothing c (source.While at test body) none = absurd (not_empty _ _ none)
  step_prints_nothing c (source.For at name first limit body) none = absurd (not_empty _ _ none)
  step_prints_nothing c (source.If at test body) none =
      let b = steps_typed c NoStep body in
      steps_print_nothing c NoStep body (no_left b.faults [] (no_right (condition_in c.scope at test).faults _ none))
  step_prints_nothing c (source.IfElse at test body otherwise) none =
      let b = steps_typed c NoStep body in
      let d = steps_after c b.value.1 in
      let o = steps_typed d NoStep otherwise in
      let both = no_right (condition_in c.scope at test).faults (b.faults ++ (o.faults ++ [])) none in (
        steps_print_nothing c NoStep body (no_left b.faults (o.faults ++ []) both),
        steps_print_nothing d NoStep otherwise (no_left o.faults [] (no_right b.faults (o.faults ++ []) both)),
      )
  step_prints_nothing c (source.Print at e) none = absurd (not_empty _ _ none)
  step_prints_nothing c (source.Assign name initial) none = tt
  step_prints_nothing c (source.Reduce name by e) none = tt
  step_prints_nothing c (source.SetEntry vector index e) none = tt
  step_prints_nothing c (source.ReduceEntry vector index by e) none = tt
  step_prints_nothing c (source.AddVertex set e) none = tt
  step_prints_nothing c (source.Apply target ends function) none = tt

  steps_print_nothing : (c : CheckerTree) (so_far : FunctionStatementsTree) (block : source.BlockTree) → (steps_typed c so_far block).faults ≡ [] → BlockPrintsNothing block
  steps_print_nothing c so_far source.Empty none = tt
  steps_print_nothing c so_far (source.Then label action others) none =
      let l = with_label c label in
      let s = step_typed l.value.1 action in
      let rest = steps_typed s.value.1 (step_after so_far s.value.0) others in
      let both = no_right l.faults (s.faults ++ rest.faults) none in (
        step_prints_nothing l.value.1 action (no_left s.faults rest.faults both),
        steps_print_nothing s.value.1 (step_after so_far s.value.0) others (no_right s.faults rest.faults both),
      )

function_prints_nothing : (d : DeclaredTree) (at : ℕ) (kind : FunctionKindTree) (name : Identifier) (parameters : List ParameterTree) (result : Option ParameterTree) (body : source.BlockTree)
    → (steps_declared d at kind name parameters result body).faults ≡ [] → BlockPrintsNothing body
function_prints_nothing d at kind name parameters result body none =
    let c = opened d.checker kind parameters result in
    let b = steps_typed c.value NoStep body in
    steps_print_nothing c.value NoStep body (no_left b.faults _ (no_right c.faults _ (no_right (kind_fits at kind).faults _ none)))

prints_in_main : (d : DeclaredTree) (x : DeclarationTree) → Unit {0} → (declaration_typed d x).faults ≡ [] → PrintsInMainAlone x × Unit {0}
prints_in_main d (source.Constant at x initial) known none = (tt, tt)
prints_in_main d (source.Function at name parameters result body) known none =
    (λ other. function_prints_nothing d at (kind_of parameters result) name parameters result body (user_declared d at name parameters result body other none), tt)

pub prints_stand_in_main : (source : SourceTree) (length : ℕ) → (program_of source length).faults ≡ [] → AllByRecursion PrintsInMainAlone source.declarations
prints_stand_in_main source length none =
    let start = no_declarations (set_count source.declarations) in
    each_declaration (λ d. Unit {0}) PrintsInMainAlone prints_in_main start source.declarations tt (no_left (declarations_typed start source.declarations).faults _ none)
