-- Sources without the offsets that are in them: each is 0.
use Rattle.std.specs.Prelude.{map, option_map}
use Rattle.syntax.specs.Terminals.{Identifier}
use Rattle.syntax.specs.SourceTrees.{ExpressionTree, ConjunctionTree, ComparisonTree, SumTree, TermTree, UnaryTree, PrimaryTree, LastConjunction}
use Rattle.syntax.specs.SourceTrees.{ConjunctionThen, LastComparison, ComparisonThen, OneSum, TwoSums, LastTerm, TermThen, LastUnary, UnaryThen, Bare, Signed}
use Rattle.syntax.specs.SourceTrees.{Literal, Truth, Variable, Entry, Size, Parentheses, EndsTree, InitialTree, NewSet, Load, Vertices, OutDegrees, Filter}
use Rattle.syntax.specs.SourceTrees.{ApplyModified, Value, StatementKindTree, Declare, While, For, If, IfElse, Print, Assign, Reduce, SetEntry, ReduceEntry}
use Rattle.syntax.specs.SourceTrees.{AddVertex, Apply, BlockTree, Empty, Then, ParameterTree, DeclarationTree, Constant, Function, CallTree, ChainTree}
use Rattle.syntax.specs.SourceTrees.{SourceTree}

abbrev pub bare_name : Identifier → Identifier
bare_name name = record { bytes = name.bytes; at = 0 }

abbrev mutual
  pub bare_expression : ExpressionTree → ExpressionTree
  bare_expression (LastConjunction c) = LastConjunction (bare_conjunction c)
  bare_expression (ConjunctionThen c others) = ConjunctionThen (bare_conjunction c) (bare_expression others)

  pub bare_conjunction : ConjunctionTree → ConjunctionTree
  bare_conjunction (LastComparison c) = LastComparison (bare_comparison c)
  bare_conjunction (ComparisonThen c others) = ComparisonThen (bare_comparison c) (bare_conjunction others)

  pub bare_comparison : ComparisonTree → ComparisonTree
  bare_comparison (OneSum s) = OneSum (bare_sum s)
  bare_comparison (TwoSums left relation right) = TwoSums (bare_sum left) relation (bare_sum right)

  pub bare_sum : SumTree → SumTree
  bare_sum (LastTerm t) = LastTerm (bare_term t)
  bare_sum (TermThen t operator others) = TermThen (bare_term t) operator (bare_sum others)

  pub bare_term : TermTree → TermTree
  bare_term (LastUnary u) = LastUnary (bare_unary u)
  bare_term (UnaryThen u operator others) = UnaryThen (bare_unary u) operator (bare_term others)

  pub bare_unary : UnaryTree → UnaryTree
  bare_unary (Bare p) = Bare (bare_primary p)
  bare_unary (Signed sign u) = Signed sign (bare_unary u)

  pub bare_primary : PrimaryTree → PrimaryTree
  bare_primary (Literal n) = Literal n
  bare_primary (Truth b) = Truth b
  bare_primary (Variable name) = Variable (bare_name name)
  bare_primary (Entry name index) = Entry (bare_name name) (bare_expression index)
  bare_primary (Size name) = Size (bare_name name)
  bare_primary (Parentheses inside) = Parentheses (bare_expression inside)

abbrev pub bare_ends : EndsTree → EndsTree
bare_ends ends = record { from = option_map bare_name ends.from; to = option_map bare_name ends.to }

abbrev pub bare_initial : InitialTree → InitialTree
bare_initial (NewSet size) = NewSet size
bare_initial (Load argument) = Load argument
bare_initial (Vertices edges) = Vertices (bare_name edges)
bare_initial (OutDegrees edges) = OutDegrees (bare_name edges)
bare_initial (Filter set test) = Filter (bare_name set) (bare_name test)
bare_initial (ApplyModified edges ends function vector) = ApplyModified (bare_name edges) (bare_ends ends) (bare_name function) (bare_name vector)
bare_initial (Value e) = Value (bare_expression e)

abbrev pub bare_parameter : ParameterTree → ParameterTree
bare_parameter p = record { name = bare_name p.name; declared = p.declared }

abbrev mutual
  pub bare_action : StatementKindTree → StatementKindTree
  bare_action (Declare at p initial) = Declare 0 (bare_parameter p) (bare_initial initial)
  bare_action (While at test body) = While 0 (bare_expression test) (bare_block body)
  bare_action (For at name first limit body) = For 0 (bare_name name) (bare_expression first) (bare_expression limit) (bare_block body)
  bare_action (If at test body) = If 0 (bare_expression test) (bare_block body)
  bare_action (IfElse at test body otherwise) = IfElse 0 (bare_expression test) (bare_block body) (bare_block otherwise)
  bare_action (Print at value) = Print 0 (bare_expression value)
  bare_action (Assign name value) = Assign (bare_name name) (bare_initial value)
  bare_action (Reduce name reduction value) = Reduce (bare_name name) reduction (bare_expression value)
  bare_action (SetEntry vector index value) = SetEntry (bare_name vector) (bare_expression index) (bare_expression value)
  bare_action (ReduceEntry vector index reduction value) = ReduceEntry (bare_name vector) (bare_expression index) reduction (bare_expression value)
  bare_action (AddVertex set vertex) = AddVertex (bare_name set) (bare_expression vertex)
  bare_action (Apply target ends function) = Apply (bare_name target) (bare_ends ends) (bare_name function)

  pub bare_block : BlockTree → BlockTree
  bare_block Empty = Empty
  bare_block (Then label action others) = Then (option_map bare_name label) (bare_action action) (bare_block others)

abbrev pub bare_declaration : DeclarationTree → DeclarationTree
bare_declaration (Constant at p initial) = Constant 0 (bare_parameter p) (bare_initial initial)
bare_declaration (Function at name parameters result body) =
    Function 0 (bare_name name) (map bare_parameter parameters) (option_map bare_parameter result) (bare_block body)

abbrev pub bare_call : CallTree → CallTree
bare_call call = record { at = 0; setting = call.setting; first = call.first; more = call.more }

abbrev pub bare_chain : ChainTree → ChainTree
bare_chain chain = record { first = bare_call chain.first; more = map bare_call chain.more }

abbrev pub bare_source : SourceTree → SourceTree
bare_source source = record {
  declarations = map bare_declaration source.declarations;
  schedule = option_map (map bare_chain) source.schedule;
}
