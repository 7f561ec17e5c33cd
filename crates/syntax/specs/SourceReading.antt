-- Reading terminals from the left: a reader answers with a tree and the terminals after it.
use Rattle.std.specs.Prelude.{ℕ, zero, suc, ℤ, Bool, true, false, List, [], ◌∷◌, ◌++◌, length, Option, Some, None, if◌then◌else◌}
use Rattle.std.specs.Str.{bytes_eq}
use Rattle.lexer.specs.declared.keyword.Keyword.{Keyword}
use Rattle.lexer.specs.declared.keyword.Keyword.TheVariants as keyword
use Rattle.lexer.specs.declared.symbol.Symbol.TheVariants as symbol
use Rattle.lexer.specs.Spelling.{keyword_spelling, symbol_spelling}
use Rattle.syntax.specs.Terminals.{Terminal, Identifier, Name, Number, Label, Text, LeadingKeyword, OfKeyword, OfSymbol}
use Rattle.syntax.specs.SourceTrees.{ExpressionTree, EndsTree, InitialTree, NewSet, Load, Vertices, OutDegrees, Filter, ApplyModified, Value, StatementKindTree}
use Rattle.syntax.specs.SourceTrees.{Declare, While, For, If, IfElse, Print, Assign, Reduce, SetEntry, ReduceEntry, AddVertex, Apply, BlockTree, Empty, Then}
use Rattle.syntax.specs.SourceTrees.{ParameterTree, DeclarationTree, Constant, Function, CallTree, ChainTree, SourceTree}
use Rattle.syntax.specs.ExpressionReading.{Reader, links_by, after_by, expression_at}
use Rattle.syntax.specs.Nesting.{◌>>=◌, limit}
use Rattle.syntax.specs.declared.declaration.DeclaredType.{DeclaredType}
use Rattle.syntax.specs.declared.declaration.DeclaredType.TheVariants as type
use Rattle.apply_options.specs.declared.setting.Setting.{Setting}
use Rattle.apply_options.specs.declared.setting.Setting.TheVariants as setting
use Rattle.apply_options.specs.declared.reduction.Reduction.{Reduction}
use Rattle.apply_options.specs.declared.reduction.Reduction.TheVariants as reduction

-- `{` terminal `}`
abbrev pub in_braces : Terminal → List Terminal
in_braces terminal = OfSymbol symbol.OpenBrace ∷ terminal ∷ OfSymbol symbol.CloseBrace ∷ []

-- `(` terminals `)`
abbrev pub in_parentheses : List Terminal → List Terminal
in_parentheses terminals = OfSymbol symbol.OpenParenthesis ∷ (terminals ++ OfSymbol symbol.CloseParenthesis ∷ [])

-- two terminals that have no text and no place
abbrev pub same_terminal : Terminal → Terminal → Bool
same_terminal (OfKeyword a) (OfKeyword b) = bytes_eq (keyword_spelling a) (keyword_spelling b)
same_terminal (OfSymbol a) (OfSymbol b) = bytes_eq (symbol_spelling a) (symbol_spelling b)
same_terminal _ _ = false

-- the terminals after this one, if it is the first
abbrev pub after_terminal : Terminal → List Terminal → Option (List Terminal)
after_terminal terminal [] = None
after_terminal terminal (w ∷ rest) = if same_terminal terminal w then Some rest else None

-- the terminals after these, if they are the first
abbrev pub after_terminals : List Terminal → List Terminal → Option (List Terminal)
after_terminals [] ws = Some ws
after_terminals (terminal ∷ terminals) ws = after_terminal terminal ws >>= after_terminals terminals

-- a tree, where the terminal after it is this one
abbrev pub closed_by : {A : Type 0} → List Terminal → A × List Terminal → Option (A × List Terminal)
closed_by terminals x = after_terminals terminals x.1 >>= λ rest. Some (x.0, rest)

abbrev pub name_reader : Reader Identifier
name_reader (Name name ∷ rest) = Some (name, rest)
name_reader _ = None

abbrev pub number_at : Reader ℤ
number_at (Number n ∷ rest) = Some (n, rest)
number_at _ = None

abbrev pub text_at : Reader (List ℕ)
text_at (Text text ∷ rest) = Some (text, rest)
text_at _ = None

-- (unfolded only where asked for, since 64 readers are nested)
unfoldable pub expression : Reader ExpressionTree
expression = expression_at limit

-- what begins the type of an edgeset after its first terminal: `{Edge}(Vertex, Vertex`
abbrev pub edge_ends : List Terminal
edge_ends = in_braces (OfKeyword keyword.Edge)
    ++ OfSymbol symbol.OpenParenthesis ∷ OfKeyword keyword.Vertex ∷ OfSymbol symbol.Comma ∷ OfKeyword keyword.Vertex ∷ []

-- what ends it: `)`, or `, int)` where its edges have weights
abbrev pub edgeset_by : List Terminal → Option (List Terminal) → Option (DeclaredType × List Terminal)
edgeset_by ws None = closed_by (OfSymbol symbol.CloseParenthesis ∷ []) (type.EdgeSet, ws)
edgeset_by ws (Some after) = closed_by (OfKeyword keyword.Int ∷ OfSymbol symbol.CloseParenthesis ∷ []) (type.WeightedEdgeSet, after)

abbrev pub edgeset_at : Reader DeclaredType
edgeset_at ws = edgeset_by ws (after_terminal (OfSymbol symbol.Comma) ws)

abbrev pub type_at : Reader DeclaredType
type_at (OfKeyword keyword.Int ∷ rest) = Some (type.Int, rest)
type_at (OfKeyword keyword.Bool ∷ rest) = Some (type.Bool, rest)
type_at (OfKeyword keyword.Vertex ∷ rest) = Some (type.Vertex, rest)
type_at (OfKeyword keyword.VertexSet ∷ rest) = closed_by (in_braces (OfKeyword keyword.Vertex)) (type.VertexSet, rest)
type_at (OfKeyword keyword.Vector ∷ rest) =
    closed_by (in_braces (OfKeyword keyword.Vertex) ++ in_parentheses (OfKeyword keyword.Int ∷ [])) (type.Vector, rest)
type_at (OfKeyword keyword.EdgeSet ∷ rest) = after_terminals edge_ends rest >>= edgeset_at
type_at _ = None

-- a name and its type
abbrev pub typed_at : Reader ParameterTree
typed_at ws =
    name_reader ws >>= λ n. after_terminal (OfSymbol symbol.Colon) n.1 >>= λ rest. type_at rest >>= λ t.
    Some (record { name = n.0; declared = t.0 }, t.1)

-- the name in parentheses after the terminals that begin an end
abbrev pub end_by : List Terminal → Option (List Terminal) → Option (Option Identifier × List Terminal)
end_by ws None = Some (None, ws)
end_by ws (Some after) =
    after_terminal (OfSymbol symbol.OpenParenthesis) after >>= λ a. name_reader a >>= λ n.
    after_terminal (OfSymbol symbol.CloseParenthesis) n.1 >>= λ b. Some (Some n.0, b)

abbrev pub end_at : Terminal → Reader (Option Identifier)
end_at terminal ws = end_by ws (after_terminals (OfSymbol symbol.Dot ∷ terminal ∷ []) ws)

abbrev pub ends_at : Reader EndsTree
ends_at ws =
    end_at (OfKeyword keyword.From) ws >>= λ f. end_at (OfKeyword keyword.To) f.1 >>= λ t.
    Some (record { from = f.0; to = t.0 }, t.1)

-- the keyword after a dot
abbrev pub method_at : List Terminal → Option Keyword
method_at (OfSymbol symbol.Dot ∷ OfKeyword method ∷ rest) = Some method
method_at _ = None

-- the name in parentheses
abbrev pub argument_at : Reader Identifier
argument_at ws =
    after_terminal (OfSymbol symbol.OpenParenthesis) ws >>= λ a. name_reader a >>= closed_by (OfSymbol symbol.CloseParenthesis ∷ [])

-- what `applyModified` and its ends give
abbrev pub modified_at : Identifier → Reader InitialTree
modified_at name ws =
    ends_at ws >>= λ e. after_terminals (OfSymbol symbol.Dot ∷ OfKeyword keyword.ApplyModified ∷ OfSymbol symbol.OpenParenthesis ∷ []) e.1 >>= λ a.
    name_reader a >>= λ f. after_terminal (OfSymbol symbol.Comma) f.1 >>= λ b. name_reader b >>= λ v.
    closed_by (OfSymbol symbol.CloseParenthesis ∷ []) (ApplyModified name e.0 f.0 v.0, v.1)

abbrev pub initial_reader : Reader InitialTree
initial_reader ws = expression ws >>= λ e. Some (Value e.0, e.1)

-- an initial value that begins with a name: the method that is called on it decides
abbrev pub named_initial : Identifier → List Terminal → Option Keyword → Option (InitialTree × List Terminal)
named_initial name ws (Some keyword.GetVertices) =
    closed_by (OfSymbol symbol.Dot ∷ OfKeyword keyword.GetVertices ∷ in_parentheses []) (Vertices name, ws)
named_initial name ws (Some keyword.GetOutDegrees) =
    closed_by (OfSymbol symbol.Dot ∷ OfKeyword keyword.GetOutDegrees ∷ in_parentheses []) (OutDegrees name, ws)
named_initial name ws (Some keyword.Filter) =
    after_terminals (OfSymbol symbol.Dot ∷ OfKeyword keyword.Filter ∷ []) ws >>= λ a. argument_at a >>= λ n. Some (Filter name n.0, n.1)
named_initial name ws (Some keyword.From) = modified_at name ws
named_initial name ws (Some keyword.To) = modified_at name ws
named_initial name ws (Some keyword.ApplyModified) = modified_at name ws
named_initial name ws _ = initial_reader (Name name ∷ ws)

abbrev pub initial_at : Reader InitialTree
initial_at (OfKeyword keyword.New ∷ rest) =
    after_terminals (OfKeyword keyword.VertexSet ∷ (in_braces (OfKeyword keyword.Vertex) ++ OfSymbol symbol.OpenParenthesis ∷ [])) rest >>= λ a.
    number_at a >>= λ n. closed_by (OfSymbol symbol.CloseParenthesis ∷ []) (NewSet n.0, n.1)
initial_at (OfKeyword keyword.Load ∷ rest) =
    after_terminals (OfSymbol symbol.OpenParenthesis ∷ OfKeyword keyword.Argv ∷ OfSymbol symbol.OpenBracket ∷ []) rest >>= λ a.
    number_at a >>= λ n. closed_by (OfSymbol symbol.CloseBracket ∷ OfSymbol symbol.CloseParenthesis ∷ []) (Load n.0, n.1)
initial_at (Name name ∷ rest) = named_initial name rest (method_at rest)
initial_at ws = initial_reader ws

-- `=`, the value and `;`
abbrev pub assigned_at : Reader InitialTree
assigned_at ws = after_terminal (OfSymbol symbol.Assign) ws >>= λ a. initial_at a >>= closed_by (OfSymbol symbol.Semicolon ∷ [])

-- an expression and `;`
abbrev pub ended_at : Reader ExpressionTree
ended_at ws = expression ws >>= closed_by (OfSymbol symbol.Semicolon ∷ [])

abbrev pub reduction_at : Reader Reduction
reduction_at (OfSymbol symbol.MinAssign ∷ rest) = Some (reduction.Min, rest)
reduction_at (OfSymbol symbol.MaxAssign ∷ rest) = Some (reduction.Max, rest)
reduction_at (OfSymbol symbol.PlusAssign ∷ rest) = Some (reduction.Plus, rest)
reduction_at _ = None

-- what is after `name [ index ]`
abbrev pub entry_by : Identifier → ExpressionTree → List Terminal → Option (List Terminal) → Option (StatementKindTree × List Terminal)
entry_by vector index ws (Some after) = ended_at after >>= λ e. Some (SetEntry vector index e.0, e.1)
entry_by vector index ws None = reduction_at ws >>= λ r. ended_at r.1 >>= λ e. Some (ReduceEntry vector index r.0 e.0, e.1)

abbrev pub read_entry_at : Identifier → Reader StatementKindTree
read_entry_at vector ws =
    expression ws >>= λ i. after_terminal (OfSymbol symbol.CloseBracket) i.1 >>= λ rest.
    entry_by vector i.0 rest (after_terminal (OfSymbol symbol.Assign) rest)

-- `(`, the vertex, `)` and `;`
abbrev pub added_at : Identifier → Reader StatementKindTree
added_at set ws =
    after_terminal (OfSymbol symbol.OpenParenthesis) ws >>= λ a. expression a >>= λ e.
    closed_by (OfSymbol symbol.CloseParenthesis ∷ OfSymbol symbol.Semicolon ∷ []) (AddVertex set e.0, e.1)

-- the ends and the function of an apply
abbrev pub applied_at : Identifier → Reader StatementKindTree
applied_at target ws =
    ends_at ws >>= λ e. after_terminals (OfSymbol symbol.Dot ∷ OfKeyword keyword.Apply ∷ []) e.1 >>= λ a. argument_at a >>= λ f.
    closed_by (OfSymbol symbol.Semicolon ∷ []) (Apply target e.0 f.0, f.1)

abbrev pub method_by : Identifier → List Terminal → Option (List Terminal) → Option (StatementKindTree × List Terminal)
method_by name ws (Some after) = added_at name after
method_by name ws None = applied_at name ws

-- the reduction and its value
abbrev pub read_reduction_at : Identifier → Reader StatementKindTree
read_reduction_at name ws = reduction_at ws >>= λ r. ended_at r.1 >>= λ e. Some (Reduce name r.0 e.0, e.1)

-- what a statement does that begins with a name: the next terminal decides
abbrev pub named_action : Identifier → Reader StatementKindTree
named_action name (OfSymbol symbol.Assign ∷ rest) = assigned_at (OfSymbol symbol.Assign ∷ rest) >>= λ i. Some (Assign name i.0, i.1)
named_action name (OfSymbol symbol.OpenBracket ∷ rest) = read_entry_at name rest
named_action name (OfSymbol symbol.Dot ∷ rest) =
    method_by name (OfSymbol symbol.Dot ∷ rest) (after_terminals (OfSymbol symbol.Dot ∷ OfKeyword keyword.AddVertex ∷ []) (OfSymbol symbol.Dot ∷ rest))
named_action name ws = read_reduction_at name ws

-- what is after the test and the body of an `if`
abbrev pub else_by : Reader BlockTree → ℕ → ExpressionTree → BlockTree × List Terminal → Option (List Terminal) → Option (StatementKindTree × List Terminal)
else_by block at test body None = closed_by (OfKeyword keyword.End ∷ []) (If at test body.0, body.1)
else_by block at test body (Some after) = block after >>= λ b. closed_by (OfKeyword keyword.End ∷ []) (IfElse at test body.0 b.0, b.1)

abbrev pub action_by : Reader BlockTree → Reader StatementKindTree
action_by block (LeadingKeyword keyword.Var at ∷ rest) =
    typed_at rest >>= λ n. assigned_at n.1 >>= λ i. Some (Declare at n.0 i.0, i.1)
action_by block (LeadingKeyword keyword.While at ∷ rest) =
    expression rest >>= λ e. block e.1 >>= λ b. closed_by (OfKeyword keyword.End ∷ []) (While at e.0 b.0, b.1)
action_by block (LeadingKeyword keyword.For at ∷ rest) =
    name_reader rest >>= λ n. after_terminal (OfKeyword keyword.In) n.1 >>= λ a. expression a >>= λ e.
    after_terminal (OfSymbol symbol.Colon) e.1 >>= λ c. expression c >>= λ f. block f.1 >>= λ b.
    closed_by (OfKeyword keyword.End ∷ []) (For at n.0 e.0 f.0 b.0, b.1)
action_by block (LeadingKeyword keyword.If at ∷ rest) =
    expression rest >>= λ e. block e.1 >>= λ b. else_by block at e.0 b (after_terminal (OfKeyword keyword.Else) b.1)
action_by block (LeadingKeyword keyword.Print at ∷ rest) = ended_at rest >>= λ e. Some (Print at e.0, e.1)
action_by block (Name name ∷ rest) = named_action name rest
action_by block _ = None

-- a label, where one is at the front
abbrev pub label_at : List Terminal → Option Identifier × List Terminal
label_at (Label label ∷ rest) = (Some label, rest)
label_at ws = (None, ws)

-- whether a statement begins here
abbrev pub begins_statement : List Terminal → Bool
begins_statement (Label label ∷ rest) = true
begins_statement (LeadingKeyword keyword.Var at ∷ rest) = true
begins_statement (LeadingKeyword keyword.While at ∷ rest) = true
begins_statement (LeadingKeyword keyword.For at ∷ rest) = true
begins_statement (LeadingKeyword keyword.If at ∷ rest) = true
begins_statement (LeadingKeyword keyword.Print at ∷ rest) = true
begins_statement (Name name ∷ rest) = true
begins_statement _ = false

-- a tree, where one begins
abbrev pub where_begins : {A : Type 0} → Bool → Option (A × List Terminal) → Option (Option (A × List Terminal))
where_begins false read = None
where_begins true read = Some read

abbrev pub statement_by : Reader StatementKindTree → Reader (Option Identifier × StatementKindTree)
statement_by action ws = let l = label_at ws in action l.1 >>= λ a. Some ((l.0, a.0), a.1)

-- a statement, where one begins
abbrev pub next_statement : Reader StatementKindTree → List Terminal → Option (Option ((Option Identifier × StatementKindTree) × List Terminal))
next_statement action ws = where_begins (begins_statement ws) (statement_by action ws)

-- as many trees as follow one another
abbrev pub each_at : {A : Type 0} → (List Terminal → Option (Option (A × List Terminal))) → Reader (List A)
each_at next ws = links_by next (suc (length ws)) ws

-- statements in order, as a block
abbrev pub block_from : List (Option Identifier × StatementKindTree) → BlockTree
block_from [] = Empty
block_from (s ∷ others) = Then s.0 s.1 (block_from others)

abbrev pub block_by : Reader StatementKindTree → Reader BlockTree
block_by action ws = each_at (next_statement action) ws >>= λ b. Some (block_from b.0, b.1)

-- a block in which no block may be
abbrev pub no_block : Reader BlockTree
no_block ws = None

-- a block in which so many blocks may be nested
abbrev pub block_at : ℕ → Reader BlockTree
block_at zero = block_by (action_by no_block)
block_at (suc depth) = block_by (action_by (block_at depth))

-- (unfolded only where asked for)
unfoldable pub block : Reader BlockTree
block = block_at limit

-- the parameter after a comma
abbrev pub next_parameter : List Terminal → Option (Option (ParameterTree × List Terminal))
next_parameter ws = after_by typed_at (after_terminal (OfSymbol symbol.Comma) ws)

abbrev pub parameters_by : List Terminal → Option (List Terminal) → Option (List ParameterTree × List Terminal)
parameters_by ws (Some after) = Some ([], after)
parameters_by ws None = typed_at ws >>= λ p. each_at next_parameter p.1 >>= λ others. closed_by (OfSymbol symbol.CloseParenthesis ∷ [])
    (p.0 ∷ others.0, others.1)

-- the parameters in parentheses
abbrev pub parameters_at : Reader (List ParameterTree)
parameters_at ws = after_terminal (OfSymbol symbol.OpenParenthesis) ws >>= λ a. parameters_by a (after_terminal (OfSymbol symbol.CloseParenthesis) a)

abbrev pub result_by : List Terminal → Option (List Terminal) → Option (Option ParameterTree × List Terminal)
result_by ws None = Some (None, ws)
result_by ws (Some after) = typed_at after >>= λ p. Some (Some p.0, p.1)

abbrev pub declaration_by : List Terminal → Option (DeclarationTree × List Terminal)
declaration_by (LeadingKeyword keyword.Const at ∷ rest) =
    typed_at rest >>= λ n. assigned_at n.1 >>= λ i. Some (Constant at n.0 i.0, i.1)
declaration_by (LeadingKeyword keyword.Func at ∷ rest) =
    name_reader rest >>= λ n. parameters_at n.1 >>= λ p. result_by p.1 (after_terminal (OfSymbol symbol.Arrow) p.1) >>= λ r.
    block r.1 >>= λ b. closed_by (OfKeyword keyword.End ∷ []) (Function at n.0 p.0 r.0 b.0, b.1)
declaration_by _ = None

abbrev pub begins_declaration : List Terminal → Bool
begins_declaration (LeadingKeyword keyword.Const at ∷ rest) = true
begins_declaration (LeadingKeyword keyword.Func at ∷ rest) = true
begins_declaration _ = false

-- a declaration, where one begins
abbrev pub next_declaration : List Terminal → Option (Option (DeclarationTree × List Terminal))
next_declaration ws = where_begins (begins_declaration ws) (declaration_by ws)

abbrev pub setting_at : Reader (ℕ × Setting)
setting_at (LeadingKeyword keyword.ConfigApplyDirection at ∷ rest) = Some ((at, setting.Direction), rest)
setting_at (LeadingKeyword keyword.ConfigApplyParallelization at ∷ rest) = Some ((at, setting.Parallelization), rest)
setting_at (LeadingKeyword keyword.ConfigApplyDenseVertexSet at ∷ rest) = Some ((at, setting.DenseVertexSet), rest)
setting_at (LeadingKeyword keyword.FuseApplyFunctions at ∷ rest) = Some ((at, setting.FuseFunctions), rest)
setting_at (LeadingKeyword keyword.FuseFields at ∷ rest) = Some ((at, setting.FuseFields), rest)
setting_at _ = None

-- the text after a comma
abbrev pub next_text : List Terminal → Option (Option (List ℕ × List Terminal))
next_text ws = after_by text_at (after_terminal (OfSymbol symbol.Comma) ws)

abbrev pub call_at : Reader CallTree
call_at ws =
    setting_at ws >>= λ s. after_terminal (OfSymbol symbol.OpenParenthesis) s.1 >>= λ a. text_at a >>= λ t. each_at next_text t.1 >>= λ more.
    closed_by (OfSymbol symbol.CloseParenthesis ∷ []) (record { at = s.0.0; setting = s.0.1; first = t.0; more = more.0 }, more.1)

-- the call after an arrow
abbrev pub next_call : List Terminal → Option (Option (CallTree × List Terminal))
next_call ws = after_by call_at (after_terminal (OfSymbol symbol.Arrow) ws)

-- the calls after `program`
abbrev pub chain_at : Reader ChainTree
chain_at ws =
    after_terminal (OfSymbol symbol.Arrow) ws >>= λ a. call_at a >>= λ c. each_at next_call c.1 >>= λ more.
    closed_by (OfSymbol symbol.Semicolon ∷ []) (record { first = c.0; more = more.0 }, more.1)

-- the chain that begins with `program`
abbrev pub next_chain : List Terminal → Option (Option (ChainTree × List Terminal))
next_chain ws = after_by chain_at (after_terminal (OfKeyword keyword.Program) ws)

abbrev pub schedule_by : List Terminal → Option (List Terminal) → Option (Option (List ChainTree) × List Terminal)
schedule_by ws None = Some (None, ws)
schedule_by ws (Some after) = after_terminal (OfSymbol symbol.Colon) after >>= λ a. each_at next_chain a >>= λ c. Some (Some c.0, c.1)

-- the tree, where no terminal is left
abbrev pub whole_tree : {A : Type 0} → A × List Terminal → Option A
whole_tree (tree, []) = Some tree
whole_tree (tree, terminal ∷ rest) = None

-- `element Vertex end element Edge end`
abbrev pub elements : List Terminal
elements =
    OfKeyword keyword.Element ∷ OfKeyword keyword.Vertex ∷ OfKeyword keyword.End
    ∷ OfKeyword keyword.Element ∷ OfKeyword keyword.Edge ∷ OfKeyword keyword.End ∷ []

abbrev pub source_at : List Terminal → Option SourceTree
source_at ws =
    after_terminals elements ws >>= λ a. each_at next_declaration a >>= λ d. schedule_by d.1 (after_terminal (OfKeyword keyword.Schedule) d.1) >>= λ s.
    whole_tree (record { declarations = d.0; schedule = s.0 }, s.1)
