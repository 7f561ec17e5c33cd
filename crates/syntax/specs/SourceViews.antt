-- The trees that the structs are.
use Rattle.std.specs.Prelude.{[], ℕ, List, ◌∷◌, map, option_map}
use Rattle.syntax.specs.declared.declaration.Declaration.{Declaration}
use Rattle.syntax.specs.declared.declaration.Parameter.{Parameter}
use Rattle.syntax.specs.declared.declaration.Source.{Source}
use Rattle.syntax.specs.declared.schedule.Call.{Call}
use Rattle.syntax.specs.declared.schedule.Chain.{Chain}
use Rattle.syntax.specs.declared.schedule.QuotedText.{QuotedText}
use Rattle.syntax.specs.declared.initial.Ends.{Ends}
use Rattle.syntax.specs.declared.initial.Initial.{Initial}
use Rattle.syntax.specs.declared.simple_action.SimpleAction.{SimpleAction}
use Rattle.syntax.specs.declared.statement.Action.{Action}
use Rattle.syntax.specs.declared.statement.ForLoop.{ForLoop, ForLoop'}
use Rattle.syntax.specs.declared.statement.Statement.{Statement}
use Rattle.syntax.specs.SourceTrees.{EndsTree, InitialTree, NewSet, Load, Vertices, OutDegrees, Filter, ApplyModified, Value, StatementKindTree, Declare, While}
use Rattle.syntax.specs.SourceTrees.{For, If, IfElse, Print, Assign, Reduce, SetEntry, ReduceEntry, AddVertex, Apply, BlockTree, Empty, Then, ParameterTree}
use Rattle.syntax.specs.SourceTrees.{DeclarationTree, Constant, Function, CallTree, ChainTree, SourceTree}
use Rattle.syntax.specs.declared.declaration.Declaration.TheVariants as declaration
use Rattle.syntax.specs.declared.initial.Initial.TheVariants as initial
use Rattle.syntax.specs.declared.simple_action.SimpleAction.TheVariants as simple
use Rattle.syntax.specs.declared.statement.Action.TheVariants as action
use Rattle.syntax.specs.declared.statement.Action as row

abbrev pub parameter_tree : Parameter → ParameterTree
parameter_tree p = record { name = p.name; declared = p.declared }

abbrev pub ends_tree : Ends → EndsTree
ends_tree ends = record { from = ends.from; to = ends.to }

abbrev pub initial_tree : Initial → InitialTree
initial_tree (initial.NewSet size) = NewSet size
initial_tree (initial.Load argument) = Load argument
initial_tree (initial.Vertices edges) = Vertices edges
initial_tree (initial.OutDegrees edges) = OutDegrees edges
initial_tree (initial.Filter set test) = Filter set test
initial_tree (initial.ApplyModified edges ends function vector) = ApplyModified edges (ends_tree ends) function vector
initial_tree (initial.Value e) = Value e

-- the tree of a statement without a block
abbrev pub simple_action_tree : SimpleAction → StatementKindTree
simple_action_tree (simple.Declare at variable initial) = Declare at (parameter_tree variable) (initial_tree initial)
simple_action_tree (simple.Print at e) = Print at e
simple_action_tree (simple.Assign name value) = Assign name (initial_tree value)
simple_action_tree (simple.Reduce name reduction value) = Reduce name reduction value
simple_action_tree (simple.SetEntry vector index value) = SetEntry vector index value
simple_action_tree (simple.ReduceEntry vector index reduction value) = ReduceEntry vector index reduction value
simple_action_tree (simple.AddVertex set vertex) = AddVertex set vertex
simple_action_tree (simple.Apply target ends function) = Apply target (ends_tree ends) function

abbrev mutual
  pub statement_kind_tree : Action → StatementKindTree
  statement_kind_tree (action.Simple a) = simple_action_tree a
  statement_kind_tree (action.While' at test m body) = While at test (rows_tree body)
  statement_kind_tree (action.For loop) = for_loop_tree loop
  statement_kind_tree (action.If' at test m body) = If at test (rows_tree body)
  statement_kind_tree (action.IfElse' at test m body n otherwise) = IfElse at test (rows_tree body) (rows_tree otherwise)

  pub for_loop_tree : ForLoop → StatementKindTree
  for_loop_tree (ForLoop' at name first last m body) = For at name first last (rows_tree body)

  pub rows_tree : {m : _} → row.Row_of-Statement m → BlockTree
  rows_tree row.end_of-Statement = Empty
  rows_tree (row.more_of-Statement label action rest) = Then label (statement_kind_tree action) (rows_tree rest)

abbrev pub block_tree : List Statement → BlockTree
block_tree [] = Empty
block_tree (s ∷ others) = Then s.label (statement_kind_tree s.action) (block_tree others)

abbrev pub declaration_tree : Declaration → DeclarationTree
declaration_tree (declaration.Constant at constant initial) = Constant at (parameter_tree constant) (initial_tree initial)
declaration_tree (declaration.Function at name parameters result body) =
    Function at name (map parameter_tree parameters.items) (option_map parameter_tree result) (block_tree body.items)

abbrev pub text_of : QuotedText → List ℕ
text_of text = text.bytes.items

abbrev pub call_tree : Call → CallTree
call_tree c = record { at = c.at; setting = c.setting; first = text_of c.first; more = map text_of c.more.items }

abbrev pub chain_tree : Chain → ChainTree
chain_tree c = record { first = call_tree c.first; more = map call_tree c.more.items }

abbrev pub source_tree : Source → SourceTree
source_tree s = record {
  declarations = map declaration_tree s.declarations.items;
  schedule = option_map (λ chains. map chain_tree chains.items) s.schedule;
}
