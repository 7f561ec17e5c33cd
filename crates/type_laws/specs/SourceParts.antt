-- The parts of a source, in the order of the text: which are looked at, and what is known there. A part is a declaration, a statement, an
-- expression where a type is wanted, a name, and so on.
use Rattle.std.specs.Prelude.{ℕ, Bool, List, [], ◌∷◌, map, Option, Some, None}
use Rattle.syntax.specs.SourceTrees.{ExpressionTree, StatementKindTree, BlockTree, DeclarationTree, EndsTree, InitialTree, ParameterTree, SourceTree}
use Rattle.syntax.specs.SourceTrees as source
use Rattle.syntax.specs.Terminals.{Identifier}
use Rattle.typed_tree.specs.declared.expression.Endpoint.{Endpoint}
use Rattle.typed_tree.specs.declared.expression.Endpoint.TheVariants as endpoint
use Rattle.typed_tree.specs.BlockTree.{Empty}
use Rattle.typed_tree.specs.FunctionStatementTree.{NoStep}
use Rattle.expression_types.specs.declared.scope.Entity.TheVariants as entity
use Rattle.expression_types.specs.ScopeTree.{ScopeTree, entered}
use Rattle.types.specs.Block.{action_typed, closed, statements_typed}
use Rattle.initializer_types.specs.Checker.{CheckerTree, counted, declared_in, integer_slot, with_label, restarted, in_scope}
use Rattle.initializer_types.specs.DeclarationForms.{FunctionKindTree, MainKind, kind}
use Rattle.types.specs.Declaration.{DeclaredTree, declaration_typed, inside_of, opened, parameter, takes_weight}
use Rattle.types.specs.Program.{no_declarations, set_count}
use Rattle.types.specs.Step.{step_typed, steps_after, steps_typed, with_writes}
use Rattle.type_laws.specs.ExpressionParts as form
use Rattle.type_laws.specs.ExpressionParts.{Form}

pub data Part : Type 0 where
  Source : SourceTree → (length : ℕ) → Part
  Declarations : DeclaredTree → List DeclarationTree → Part
  Declaration : DeclaredTree → DeclarationTree → Part
  Parameters : (weighted : Bool) → FunctionKindTree → CheckerTree → Endpoint → List ParameterTree → (result : Option ParameterTree) → Part
  MainBlock : CheckerTree → BlockTree → Part
  MainStatement : CheckerTree → StatementKindTree → Part
  FunctionBlock : CheckerTree → BlockTree → Part
  FunctionStatement : CheckerTree → StatementKindTree → Part
  Label : CheckerTree → Option Identifier → Part
  NewName : ScopeTree → Identifier → Part
  Initial : CheckerTree → ℕ → InitialTree → Part
  IntWanted : ScopeTree → ℕ → ExpressionTree → Part
  BoolWanted : ScopeTree → ℕ → ExpressionTree → Part
  VectorWanted : ScopeTree → ℕ → Identifier → Part
  MainIndex : ScopeTree → ℕ → ExpressionTree → Part
  FunctionIndex : ScopeTree → ℕ → ExpressionTree → Part
  InExpression : ScopeTree → ℕ → Form → Part

abbrev pub name_part : ScopeTree → ℕ → Identifier → Part
name_part scope at name = InExpression scope at (form.Name name)

abbrev pub whole : ScopeTree → ℕ → ExpressionTree → Part
whole scope at e = InExpression scope at (form.Expression e)

-- the names of the ends, and those after them
abbrev pub name_before : Option Identifier → List Form → List Form
name_before None others = others
name_before (Some name) others = form.Name name ∷ others

abbrev pub end_forms_before : EndsTree → List Form → List Form
end_forms_before ends others = name_before ends.from (name_before ends.to others)

-- the forms in an initial value
abbrev pub initial_forms : InitialTree → List Form
initial_forms (source.NewSet size) = []
initial_forms (source.Load argument) = []
initial_forms (source.Vertices edges) = form.Name edges ∷ []
initial_forms (source.OutDegrees edges) = form.Name edges ∷ []
initial_forms (source.Filter set test) = form.Name set ∷ form.Name test ∷ []
initial_forms (source.ApplyModified edges ends function vector) = form.Name edges ∷ end_forms_before ends (form.Name function ∷ form.Name vector ∷ [])
initial_forms (source.Value e) = form.Expression e ∷ []

abbrev pub apply_forms : Identifier → EndsTree → Identifier → List Form
apply_forms target ends function = form.Name target ∷ end_forms_before ends (form.Name function ∷ [])

-- what is known after the name of a `for`, and after a block
abbrev pub in_for : CheckerTree → Identifier → CheckerTree
in_for c name = (declared_in c name (entity.LoopVariable (integer_slot c))).value

abbrev pub main_statement_parts : CheckerTree → StatementKindTree → List Part
main_statement_parts c (source.Declare at p initial) = Initial c at initial ∷ NewName c.scope p.name ∷ []
main_statement_parts c (source.While at test body) = BoolWanted c.scope at test ∷ MainBlock c body ∷ []
main_statement_parts c (source.For at name first limit body) =
    IntWanted c.scope at first ∷ IntWanted c.scope at limit ∷ NewName c.scope name ∷ MainBlock (in_for c name) body ∷ []
main_statement_parts c (source.If at test body) = BoolWanted c.scope at test ∷ MainBlock c body ∷ []
main_statement_parts c (source.IfElse at test body otherwise) =
    BoolWanted c.scope at test ∷ MainBlock c body ∷ MainBlock (closed c (statements_typed c Empty body).value.1) otherwise ∷ []
main_statement_parts c (source.Print at e) = whole c.scope at e ∷ []
main_statement_parts c (source.Assign name initial) = name_part c.scope name.at name ∷ Initial c name.at initial ∷ []
main_statement_parts c (source.Reduce name by e) = name_part c.scope name.at name ∷ whole c.scope name.at e ∷ []
main_statement_parts c (source.SetEntry vector index e) =
    VectorWanted c.scope vector.at vector ∷ MainIndex c.scope vector.at index ∷ IntWanted c.scope vector.at e ∷ []
main_statement_parts c (source.ReduceEntry vector index by e) =
    VectorWanted c.scope vector.at vector ∷ MainIndex c.scope vector.at index ∷ IntWanted c.scope vector.at e ∷ []
main_statement_parts c (source.AddVertex set e) = name_part c.scope set.at set ∷ whole c.scope set.at e ∷ []
main_statement_parts c (source.Apply target ends function) = map (InExpression c.scope target.at) (apply_forms target ends function)

-- in a function of a user no part of a `print` is looked at
abbrev pub function_statement_parts : CheckerTree → StatementKindTree → List Part
function_statement_parts c (source.Declare at p initial) = Initial c at initial ∷ NewName c.scope p.name ∷ []
function_statement_parts c (source.While at test body) = BoolWanted c.scope at test ∷ FunctionBlock c body ∷ []
function_statement_parts c (source.For at name first limit body) =
    IntWanted c.scope at first ∷ IntWanted c.scope at limit ∷ NewName c.scope name ∷ FunctionBlock (in_for c name) body ∷ []
function_statement_parts c (source.If at test body) = BoolWanted c.scope at test ∷ FunctionBlock c body ∷ []
function_statement_parts c (source.IfElse at test body otherwise) =
    BoolWanted c.scope at test ∷ FunctionBlock c body ∷ FunctionBlock (steps_after c (steps_typed c NoStep body).value.1) otherwise ∷ []
function_statement_parts c (source.Print at e) = []
function_statement_parts c (source.Assign name initial) = name_part c.scope name.at name ∷ Initial c name.at initial ∷ []
function_statement_parts c (source.Reduce name by e) = name_part c.scope name.at name ∷ whole c.scope name.at e ∷ []
function_statement_parts c (source.SetEntry vector index e) =
    VectorWanted c.scope vector.at vector ∷ FunctionIndex c.scope vector.at index ∷ IntWanted c.scope vector.at e ∷ []
function_statement_parts c (source.ReduceEntry vector index by e) =
    VectorWanted c.scope vector.at vector ∷ FunctionIndex c.scope vector.at index ∷ IntWanted c.scope vector.at e ∷ []
function_statement_parts c (source.AddVertex set e) = name_part c.scope set.at set ∷ whole c.scope set.at e ∷ []
function_statement_parts c (source.Apply target ends function) = map (InExpression c.scope target.at) (apply_forms target ends function)

-- a block comes before its body: a statement of main is labelled, numbered and then looked at
abbrev pub main_block_parts : CheckerTree → BlockTree → List Part
main_block_parts c source.Empty = []
main_block_parts c (source.Then label action others) =
    Label c label ∷ MainStatement (counted (with_label c label).value.1) action ∷ MainBlock
    (action_typed (counted (with_label c label).value.1) action).value.1 others ∷ []

abbrev pub function_block_parts : CheckerTree → BlockTree → List Part
function_block_parts c source.Empty = []
function_block_parts c (source.Then label action others) =
    Label c label ∷ FunctionStatement (with_label c label).value.1 action ∷ FunctionBlock (step_typed (with_label c label).value.1 action).value.1 others ∷ []

-- each parameter is declared after those before it, and the result last
abbrev pub parameter_parts : Bool → FunctionKindTree → CheckerTree → Endpoint → List ParameterTree → Option ParameterTree → List Part
parameter_parts weighted k c p [] None = []
parameter_parts weighted k c p [] (Some result) = NewName c.scope result.name ∷ []
parameter_parts weighted k c p (v ∷ others) result =
    NewName c.scope v.name ∷ Parameters weighted k (declared_in c v.name (parameter weighted p v.declared)).value endpoint.Destination others result ∷ []

-- what is known before the parameters of a function
abbrev pub before_parameters : DeclaredTree → FunctionKindTree → CheckerTree
before_parameters d (MainKind fits) = with_writes (in_scope (restarted d.checker) (entered (inside_of (MainKind fits)) d.checker.scope)) []
before_parameters d k = with_writes (in_scope d.checker (entered (inside_of k) d.checker.scope)) []

-- what is known at the first statement of a function
abbrev pub at_body : DeclaredTree → FunctionKindTree → List ParameterTree → Option ParameterTree → CheckerTree
at_body d (MainKind fits) parameters result = (opened (restarted d.checker) (MainKind fits) parameters result).value
at_body d k parameters result = (opened d.checker k parameters result).value

-- the statements of a function
abbrev pub body_part : FunctionKindTree → CheckerTree → BlockTree → Part
body_part (MainKind fits) c body = MainBlock c body
body_part k c body = FunctionBlock c body

abbrev pub function_parts : DeclaredTree → FunctionKindTree → Identifier → List ParameterTree → Option ParameterTree → BlockTree → List Part
function_parts d k name parameters result body =
    Parameters (takes_weight k) k (before_parameters d k) endpoint.Source parameters result ∷ body_part k
    (at_body d k parameters result) body ∷ NewName d.checker.scope name ∷ []

abbrev pub declaration_parts : DeclaredTree → DeclarationTree → List Part
declaration_parts d (source.Constant at p initial) = Initial d.checker at initial ∷ NewName d.checker.scope p.name ∷ []
declaration_parts d (source.Function at name parameters result body) = function_parts d (kind name.bytes parameters result) name parameters result body

abbrev pub declarations_parts : DeclaredTree → List DeclarationTree → List Part
declarations_parts d [] = []
declarations_parts d (x ∷ others) = Declaration d x ∷ Declarations (declaration_typed d x).value others ∷ []

-- the parts of a part
abbrev pub parts_of : Part → List Part
parts_of (Source s length) = Declarations (no_declarations (set_count s.declarations)) s.declarations ∷ []
parts_of (Declarations d xs) = declarations_parts d xs
parts_of (Declaration d x) = declaration_parts d x
parts_of (Parameters weighted k c p vs result) = parameter_parts weighted k c p vs result
parts_of (MainBlock c block) = main_block_parts c block
parts_of (MainStatement c action) = main_statement_parts c action
parts_of (FunctionBlock c block) = function_block_parts c block
parts_of (FunctionStatement c action) = function_statement_parts c action
parts_of (Label c label) = []
parts_of (NewName scope name) = []
parts_of (Initial c at x) = map (InExpression c.scope at) (initial_forms x)
parts_of (IntWanted scope at e) = whole scope at e ∷ []
parts_of (BoolWanted scope at e) = whole scope at e ∷ []
parts_of (VectorWanted scope at name) = name_part scope at name ∷ []
parts_of (MainIndex scope at e) = whole scope at e ∷ []
parts_of (FunctionIndex scope at e) = InExpression scope at (form.Index e) ∷ []
parts_of (InExpression scope at f) = map (InExpression scope at) (form.parts scope f)
