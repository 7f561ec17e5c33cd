-- What the first terminals of a piece of a source decide.
use Rattle.std.specs.Prelude.{Bool, true, false, List, [], ◌∷◌, ◌++◌, Option, Some, None}
use Rattle.lexer.specs.declared.keyword.Keyword.{Keyword}
use Rattle.lexer.specs.declared.keyword.Keyword.TheVariants as keyword
use Rattle.lexer.specs.declared.symbol.Symbol.TheVariants as symbol
use Rattle.syntax.specs.Terminals.{Terminal, Identifier, Name, OfKeyword, OfSymbol}
use Rattle.syntax.specs.ExpressionReading.{Reader}
use Rattle.syntax.specs.Nesting.{◌>>=◌}
use Rattle.syntax.specs.declared.declaration.DeclaredType.{DeclaredType}
use Rattle.syntax.specs.declared.declaration.DeclaredType.TheVariants as type
use Rattle.apply_options.specs.declared.setting.Setting.{Setting}
use Rattle.apply_options.specs.declared.setting.Setting.TheVariants as setting
use Rattle.syntax.specs.SourceTrees.{StatementKindTree, InitialTree, Apply, NewSet, Load, Vertices, OutDegrees, Filter, ApplyModified}
use Rattle.syntax.specs.SourceReading.{in_braces, in_parentheses, after_terminal, after_terminals, closed_by, name_reader, number_at, argument_at, method_at}
use Rattle.syntax.specs.SourceReading.{ends_at, edge_ends, edgeset_at}

-- the type that begins with a keyword
abbrev pub begun_type : Keyword → Option DeclaredType
begun_type keyword.Int = Some type.Int
begun_type keyword.Bool = Some type.Bool
begun_type keyword.Vertex = Some type.Vertex
begun_type keyword.VertexSet = Some type.VertexSet
begun_type keyword.Vector = Some type.Vector
begun_type keyword.EdgeSet = Some type.EdgeSet
begun_type _ = None

-- the type that has begun so; what ends the type of an edgeset says whether its edges have weights
abbrev pub type_after : DeclaredType → Reader DeclaredType
type_after type.Int ws = Some (type.Int, ws)
type_after type.Bool ws = Some (type.Bool, ws)
type_after type.Vertex ws = Some (type.Vertex, ws)
type_after type.VertexSet ws = closed_by (in_braces (OfKeyword keyword.Vertex)) (type.VertexSet, ws)
type_after type.Vector ws = closed_by (in_braces (OfKeyword keyword.Vertex) ++ in_parentheses (OfKeyword keyword.Int ∷ [])) (type.Vector, ws)
type_after type.EdgeSet ws = after_terminals edge_ends ws >>= edgeset_at
type_after type.WeightedEdgeSet ws = after_terminals edge_ends ws >>= edgeset_at

-- whether the method is one of an initial value that is no expression, or begins one of its ends
abbrev pub is_called : Option Keyword → Bool
is_called (Some keyword.GetVertices) = true
is_called (Some keyword.GetOutDegrees) = true
is_called (Some keyword.Filter) = true
is_called (Some keyword.From) = true
is_called (Some keyword.To) = true
is_called (Some keyword.ApplyModified) = true
is_called _ = false

-- whether such a method is the first terminal
abbrev pub called_terminal : List Terminal → Bool
called_terminal (OfKeyword terminal ∷ rest) = is_called (Some terminal)
called_terminal _ = false

-- whether a name is the first terminal, and then a dot and such a method
abbrev pub begins_call : List Terminal → Bool
begins_call (Name name ∷ rest) = is_called (method_at rest)
begins_call _ = false

-- two names in parentheses
abbrev pub name_pair_at : Reader (Identifier × Identifier)
name_pair_at ws =
    after_terminal (OfSymbol symbol.OpenParenthesis) ws >>= λ a. name_reader a >>= λ f. after_terminal (OfSymbol symbol.Comma) f.1 >>= λ b.
    name_reader b >>= λ s. after_terminal (OfSymbol symbol.CloseParenthesis) s.1 >>= λ c. Some ((f.0, s.0), c)

-- what `applyModified` and its ends give
abbrev pub modified_by : Identifier → Reader InitialTree
modified_by name ws =
    ends_at ws >>= λ e. after_terminals (OfSymbol symbol.Dot ∷ OfKeyword keyword.ApplyModified ∷ []) e.1 >>= λ a.
    name_pair_at a >>= λ p. Some (ApplyModified name e.0 p.0.0 p.0.1, p.1)

-- `.apply`, its function in parentheses and `;`
abbrev pub applied_function_at : Reader Identifier
applied_function_at ws =
    after_terminals (OfSymbol symbol.Dot ∷ OfKeyword keyword.Apply ∷ []) ws >>= λ a. argument_at a >>= closed_by (OfSymbol symbol.Semicolon ∷ [])

-- what an apply and its ends give
abbrev pub applied_by : Identifier → Reader StatementKindTree
applied_by target ws = ends_at ws >>= λ e. applied_function_at e.1 >>= λ f. Some (Apply target e.0 f.0, f.1)

-- what is after `filter`
abbrev pub filter_at : Identifier → Reader InitialTree
filter_at set ws = argument_at ws >>= λ n. Some (Filter set n.0, n.1)

-- an initial value that is no expression, after its name
abbrev pub call_by : Identifier → List Terminal → Option Keyword → Option (InitialTree × List Terminal)
call_by name ws (Some keyword.GetVertices) =
    closed_by (OfSymbol symbol.Dot ∷ OfKeyword keyword.GetVertices ∷ in_parentheses []) (Vertices name, ws)
call_by name ws (Some keyword.GetOutDegrees) =
    closed_by (OfSymbol symbol.Dot ∷ OfKeyword keyword.GetOutDegrees ∷ in_parentheses []) (OutDegrees name, ws)
call_by name ws (Some keyword.Filter) =
    after_terminals (OfSymbol symbol.Dot ∷ OfKeyword keyword.Filter ∷ []) ws >>= filter_at name
call_by name ws _ = modified_by name ws

-- what is after `new`
abbrev pub new_set_at : Reader InitialTree
new_set_at ws =
    after_terminals (OfKeyword keyword.VertexSet ∷ (in_braces (OfKeyword keyword.Vertex) ++ OfSymbol symbol.OpenParenthesis ∷ [])) ws >>= λ a.
    number_at a >>= λ n. closed_by (OfSymbol symbol.CloseParenthesis ∷ []) (NewSet n.0, n.1)

-- what is after `load`
abbrev pub load_at : Reader InitialTree
load_at ws =
    after_terminals (OfSymbol symbol.OpenParenthesis ∷ OfKeyword keyword.Argv ∷ OfSymbol symbol.OpenBracket ∷ []) ws >>= λ a.
    number_at a >>= λ n. closed_by (OfSymbol symbol.CloseBracket ∷ OfSymbol symbol.CloseParenthesis ∷ []) (Load n.0, n.1)

-- the schedule call whose name is a keyword
abbrev pub begun_setting : Keyword → Option Setting
begun_setting keyword.ConfigApplyDirection = Some setting.Direction
begun_setting keyword.ConfigApplyParallelization = Some setting.Parallelization
begun_setting keyword.ConfigApplyDenseVertexSet = Some setting.DenseVertexSet
begun_setting keyword.FuseApplyFunctions = Some setting.FuseFunctions
begun_setting keyword.FuseFields = Some setting.FuseFields
begun_setting _ = None
