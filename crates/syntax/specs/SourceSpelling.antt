-- The terminals of a tree before others: one equation for each rule of the grammar.
use Rattle.std.specs.Prelude.{ℕ, List, [], ◌∷◌, ◌++◌, Option, Some, None}
use Rattle.lexer.specs.declared.keyword.Keyword.{Keyword}
use Rattle.lexer.specs.declared.keyword.Keyword.TheVariants as keyword
use Rattle.lexer.specs.declared.symbol.Symbol.TheVariants as symbol
use Rattle.syntax.specs.Terminals.{Terminal, Identifier, Name, Number, Label, Text, LeadingKeyword, OfKeyword, OfSymbol}
use Rattle.syntax.specs.SourceTrees.{ExpressionTree, EndsTree, InitialTree, NewSet, Load, Vertices, OutDegrees, Filter, ApplyModified, Value, StatementKindTree}
use Rattle.syntax.specs.SourceTrees.{Declare, While, For, If, IfElse, Print, Assign, Reduce, SetEntry, ReduceEntry, AddVertex, Apply, BlockTree, Empty, Then}
use Rattle.syntax.specs.SourceTrees.{ParameterTree, DeclarationTree, Constant, Function, CallTree, ChainTree, SourceTree}
use Rattle.syntax.specs.ExpressionSpelling.{expression_terminals}
use Rattle.syntax.specs.declared.declaration.DeclaredType.{DeclaredType}
use Rattle.syntax.specs.declared.declaration.DeclaredType.TheVariants as type
use Rattle.apply_options.specs.declared.setting.Setting.{Setting}
use Rattle.apply_options.specs.declared.setting.Setting.TheVariants as setting
use Rattle.apply_options.specs.declared.reduction.Reduction.{Reduction}
use Rattle.apply_options.specs.declared.reduction.Reduction.TheVariants as reduction

-- the terminals of each tree in order, and then the rest
abbrev pub each_before : {A : Type 0} → (A → List Terminal → List Terminal) → List A → List Terminal → List Terminal
each_before before [] rest = rest
each_before before (tree ∷ others) rest = before tree (each_before before others rest)

-- a type
abbrev pub type_terminals : DeclaredType → List Terminal
type_terminals type.Int = OfKeyword keyword.Int ∷ []
type_terminals type.Bool = OfKeyword keyword.Bool ∷ []
type_terminals type.Vertex = OfKeyword keyword.Vertex ∷ []
type_terminals type.VertexSet =
    OfKeyword keyword.VertexSet ∷ OfSymbol symbol.OpenBrace ∷ OfKeyword keyword.Vertex ∷ OfSymbol symbol.CloseBrace ∷ []
type_terminals type.Vector =
    OfKeyword keyword.Vector ∷ OfSymbol symbol.OpenBrace ∷ OfKeyword keyword.Vertex ∷ OfSymbol symbol.CloseBrace
    ∷ OfSymbol symbol.OpenParenthesis ∷ OfKeyword keyword.Int ∷ OfSymbol symbol.CloseParenthesis ∷ []
type_terminals type.EdgeSet =
    OfKeyword keyword.EdgeSet ∷ OfSymbol symbol.OpenBrace ∷ OfKeyword keyword.Edge ∷ OfSymbol symbol.CloseBrace
    ∷ OfSymbol symbol.OpenParenthesis ∷ OfKeyword keyword.Vertex ∷ OfSymbol symbol.Comma ∷ OfKeyword keyword.Vertex ∷ OfSymbol symbol.CloseParenthesis ∷ []
type_terminals type.WeightedEdgeSet =
    OfKeyword keyword.EdgeSet ∷ OfSymbol symbol.OpenBrace ∷ OfKeyword keyword.Edge ∷ OfSymbol symbol.CloseBrace
    ∷ OfSymbol symbol.OpenParenthesis ∷ OfKeyword keyword.Vertex ∷ OfSymbol symbol.Comma ∷ OfKeyword keyword.Vertex
    ∷ OfSymbol symbol.Comma ∷ OfKeyword keyword.Int ∷ OfSymbol symbol.CloseParenthesis ∷ []

-- red = "min=" | "max=" | "+="
abbrev pub reduction_terminal : Reduction → Terminal
reduction_terminal reduction.Min = OfSymbol symbol.MinAssign
reduction_terminal reduction.Max = OfSymbol symbol.MaxAssign
reduction_terminal reduction.Plus = OfSymbol symbol.PlusAssign

-- "(" NAME ")"
abbrev pub argument_terminals : Identifier → List Terminal
argument_terminals name = OfSymbol symbol.OpenParenthesis ∷ Name name ∷ OfSymbol symbol.CloseParenthesis ∷ []

-- ["." terminal "(" NAME ")"]
abbrev pub end_terminals : Terminal → Option Identifier → List Terminal
end_terminals terminal None = []
end_terminals terminal (Some name) = OfSymbol symbol.Dot ∷ terminal ∷ argument_terminals name

-- ends = ["." "from" "(" NAME ")"] ["." "to" "(" NAME ")"]
abbrev pub ends_before : EndsTree → List Terminal → List Terminal
ends_before ends rest = end_terminals (OfKeyword keyword.From) ends.from ++ (end_terminals (OfKeyword keyword.To) ends.to ++ rest)

-- init
abbrev pub initial_before : InitialTree → List Terminal → List Terminal
initial_before (NewSet size) rest =
    OfKeyword keyword.New ∷ OfKeyword keyword.VertexSet ∷ OfSymbol symbol.OpenBrace ∷ OfKeyword keyword.Vertex ∷ OfSymbol symbol.CloseBrace
    ∷ OfSymbol symbol.OpenParenthesis ∷ Number size ∷ OfSymbol symbol.CloseParenthesis ∷ rest
initial_before (Load argument) rest =
    OfKeyword keyword.Load ∷ OfSymbol symbol.OpenParenthesis ∷ OfKeyword keyword.Argv ∷ OfSymbol symbol.OpenBracket ∷ Number argument
    ∷ OfSymbol symbol.CloseBracket ∷ OfSymbol symbol.CloseParenthesis ∷ rest
initial_before (Vertices edges) rest =
    Name edges ∷ OfSymbol symbol.Dot ∷ OfKeyword keyword.GetVertices ∷ OfSymbol symbol.OpenParenthesis ∷ OfSymbol symbol.CloseParenthesis ∷ rest
initial_before (OutDegrees edges) rest =
    Name edges ∷ OfSymbol symbol.Dot ∷ OfKeyword keyword.GetOutDegrees ∷ OfSymbol symbol.OpenParenthesis ∷ OfSymbol symbol.CloseParenthesis ∷ rest
initial_before (Filter set test) rest = Name set ∷ OfSymbol symbol.Dot ∷ OfKeyword keyword.Filter ∷ (argument_terminals test ++ rest)
initial_before (ApplyModified edges ends function vector) rest =
    Name edges ∷ ends_before ends (OfSymbol symbol.Dot ∷ OfKeyword keyword.ApplyModified ∷ OfSymbol symbol.OpenParenthesis
    ∷ Name function ∷ OfSymbol symbol.Comma ∷ Name vector ∷ OfSymbol symbol.CloseParenthesis ∷ rest)
initial_before (Value e) rest = expression_terminals e ++ rest

-- NAME ":" type
abbrev pub typed_before : ParameterTree → List Terminal → List Terminal
typed_before p rest = Name p.name ∷ OfSymbol symbol.Colon ∷ (type_terminals p.declared ++ rest)

-- "=" init ";"
abbrev pub assigned_before : InitialTree → List Terminal → List Terminal
assigned_before initial rest = OfSymbol symbol.Assign ∷ initial_before initial (OfSymbol symbol.Semicolon ∷ rest)

-- expr ";"
abbrev pub ended_before : ExpressionTree → List Terminal → List Terminal
ended_before e rest = expression_terminals e ++ OfSymbol symbol.Semicolon ∷ rest

-- [LABEL]
abbrev pub label_terminals : Option Identifier → List Terminal
label_terminals None = []
label_terminals (Some label) = Label label ∷ []

abbrev mutual
  -- body
  pub action_before : StatementKindTree → List Terminal → List Terminal
  action_before (Declare at p initial) rest = LeadingKeyword keyword.Var at ∷ typed_before p (assigned_before initial rest)
  action_before (While at test body) rest = LeadingKeyword keyword.While at ∷ (expression_terminals test ++ block_before body (OfKeyword keyword.End ∷ rest))
  action_before (For at name first limit body) rest =
      LeadingKeyword keyword.For at ∷ Name name ∷ OfKeyword keyword.In ∷ (expression_terminals first
      ++ OfSymbol symbol.Colon ∷ (expression_terminals limit ++ block_before body (OfKeyword keyword.End ∷ rest)))
  action_before (If at test body) rest = LeadingKeyword keyword.If at ∷ (expression_terminals test ++ block_before body (OfKeyword keyword.End ∷ rest))
  action_before (IfElse at test body otherwise) rest =
      LeadingKeyword keyword.If at ∷ (expression_terminals test
      ++ block_before body (OfKeyword keyword.Else ∷ block_before otherwise (OfKeyword keyword.End ∷ rest)))
  action_before (Print at value) rest = LeadingKeyword keyword.Print at ∷ ended_before value rest
  action_before (Assign name value) rest = Name name ∷ assigned_before value rest
  action_before (Reduce name reduction value) rest = Name name ∷ reduction_terminal reduction ∷ ended_before value rest
  action_before (SetEntry vector index value) rest =
      Name vector ∷ OfSymbol symbol.OpenBracket ∷ (expression_terminals index
      ++ OfSymbol symbol.CloseBracket ∷ OfSymbol symbol.Assign ∷ ended_before value rest)
  action_before (ReduceEntry vector index reduction value) rest =
      Name vector ∷ OfSymbol symbol.OpenBracket ∷ (expression_terminals index
      ++ OfSymbol symbol.CloseBracket ∷ reduction_terminal reduction ∷ ended_before value rest)
  action_before (AddVertex set vertex) rest =
      Name set ∷ OfSymbol symbol.Dot ∷ OfKeyword keyword.AddVertex ∷ OfSymbol symbol.OpenParenthesis ∷ (expression_terminals vertex
      ++ OfSymbol symbol.CloseParenthesis ∷ OfSymbol symbol.Semicolon ∷ rest)
  action_before (Apply target ends function) rest =
      Name target ∷ ends_before ends (OfSymbol symbol.Dot ∷ OfKeyword keyword.Apply ∷ (argument_terminals function ++ OfSymbol symbol.Semicolon ∷ rest))

  -- {stmt}
  pub block_before : BlockTree → List Terminal → List Terminal
  block_before Empty rest = rest
  block_before (Then label action others) rest = label_terminals label ++ action_before action (block_before others rest)

-- "," param
abbrev pub next_parameter_before : ParameterTree → List Terminal → List Terminal
next_parameter_before p rest = OfSymbol symbol.Comma ∷ typed_before p rest

-- [param {"," param}]
abbrev pub parameters_before : List ParameterTree → List Terminal → List Terminal
parameters_before [] rest = rest
parameters_before (p ∷ others) rest = typed_before p (each_before next_parameter_before others rest)

-- ["->" NAME ":" type]
abbrev pub result_before : Option ParameterTree → List Terminal → List Terminal
result_before None rest = rest
result_before (Some p) rest = OfSymbol symbol.Arrow ∷ typed_before p rest

-- decl
abbrev pub declaration_before : DeclarationTree → List Terminal → List Terminal
declaration_before (Constant at p initial) rest = LeadingKeyword keyword.Const at ∷ typed_before p (assigned_before initial rest)
declaration_before (Function at name parameters result body) rest =
    LeadingKeyword keyword.Func at ∷ Name name ∷ OfSymbol symbol.OpenParenthesis ∷ parameters_before parameters
    (OfSymbol symbol.CloseParenthesis ∷ result_before result (block_before body (OfKeyword keyword.End ∷ rest)))

-- terminal
abbrev pub setting_keyword : Setting → Keyword
setting_keyword setting.Direction = keyword.ConfigApplyDirection
setting_keyword setting.Parallelization = keyword.ConfigApplyParallelization
setting_keyword setting.DenseVertexSet = keyword.ConfigApplyDenseVertexSet
setting_keyword setting.FuseFunctions = keyword.FuseApplyFunctions
setting_keyword setting.FuseFields = keyword.FuseFields

-- "," TEXT
abbrev pub next_text_before : List ℕ → List Terminal → List Terminal
next_text_before text rest = OfSymbol symbol.Comma ∷ Text text ∷ rest

-- call = terminal "(" TEXT {"," TEXT} ")"
abbrev pub call_before : CallTree → List Terminal → List Terminal
call_before call rest =
    LeadingKeyword (setting_keyword call.setting) call.at ∷ OfSymbol symbol.OpenParenthesis ∷ Text call.first
    ∷ each_before next_text_before call.more (OfSymbol symbol.CloseParenthesis ∷ rest)

-- "->" call
abbrev pub next_call_before : CallTree → List Terminal → List Terminal
next_call_before call rest = OfSymbol symbol.Arrow ∷ call_before call rest

-- sched = "program" "->" call {"->" call} ";"
abbrev pub chain_before : ChainTree → List Terminal → List Terminal
chain_before chain rest =
    OfKeyword keyword.Program ∷ next_call_before chain.first (each_before next_call_before chain.more (OfSymbol symbol.Semicolon ∷ rest))

-- [ "schedule" ":" {sched} ]
abbrev pub schedule_before : Option (List ChainTree) → List Terminal → List Terminal
schedule_before None rest = rest
schedule_before (Some chains) rest = OfKeyword keyword.Schedule ∷ OfSymbol symbol.Colon ∷ each_before chain_before chains rest

-- source = "element" "Vertex" "end" "element" "Edge" "end" {decl} [ "schedule" ":" {sched} ]
abbrev pub source_terminals : SourceTree → List Terminal
source_terminals source =
    OfKeyword keyword.Element ∷ OfKeyword keyword.Vertex ∷ OfKeyword keyword.End
    ∷ OfKeyword keyword.Element ∷ OfKeyword keyword.Edge ∷ OfKeyword keyword.End
    ∷ each_before declaration_before source.declarations (schedule_before source.schedule [])
