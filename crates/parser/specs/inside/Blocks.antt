-- What statements are read by their first terminal, and blocks by how deep they may be nested.
use Rattle.std.specs.Prelude.{ℕ, zero, suc, List, [], ◌∷◌, Option, Some, None}
use Rattle.lexer.specs.declared.keyword.Keyword.{Keyword}
use Rattle.lexer.specs.declared.keyword.Keyword.TheVariants as keyword
use Rattle.lexer.specs.declared.symbol.Symbol.TheVariants as symbol
use Rattle.syntax.specs.Terminals.{Terminal, Identifier, OfKeyword, OfSymbol}
use Rattle.syntax.specs.SourceTrees.{ExpressionTree, StatementKindTree, Declare, While, For, If, IfElse, Print, BlockTree}
use Rattle.syntax.specs.ExpressionReading.{Reader}
use Rattle.syntax.specs.Nesting.{◌>>=◌}
use Rattle.syntax.specs.SourceReading.{expression, typed_at, assigned_at, ended_at, name_reader, after_terminal, closed_by, no_block, block_at, action_by}
use Rattle.parser.specs.declared.block.StatementKeyword.{StatementKeyword}
use Rattle.parser.specs.declared.block.StatementKeyword.TheVariants as statement_keyword

-- a block in a statement, where so many more may be nested
abbrev pub block_in : ℕ → Reader BlockTree
block_in zero = no_block
block_in (suc depth) = block_at depth

abbrev pub action_at : ℕ → Reader StatementKindTree
action_at depth = action_by (block_in depth)

-- what begins with a keyword
abbrev pub statement_keyword_of : Keyword → Option StatementKeyword
statement_keyword_of keyword.Var = Some statement_keyword.Var
statement_keyword_of keyword.While = Some statement_keyword.While
statement_keyword_of keyword.For = Some statement_keyword.For
statement_keyword_of keyword.If = Some statement_keyword.If
statement_keyword_of keyword.Print = Some statement_keyword.Print
statement_keyword_of _ = None

-- what is after `var`
abbrev pub declared_at : ℕ → Reader StatementKindTree
declared_at at ws = typed_at ws >>= λ n. assigned_at n.1 >>= λ i. Some (Declare at n.0 i.0, i.1)

-- what is after `print`
abbrev pub printed_at : ℕ → Reader StatementKindTree
printed_at at ws = ended_at ws >>= λ e. Some (Print at e.0, e.1)

-- a variable and the two ends of what it runs over
abbrev pub range_at : Reader (Identifier × ExpressionTree × ExpressionTree)
range_at ws =
    name_reader ws >>= λ n. after_terminal (OfKeyword keyword.In) n.1 >>= λ a. expression a >>= λ e.
    after_terminal (OfSymbol symbol.Colon) e.1 >>= λ c. expression c >>= λ f. Some ((n.0, e.0, f.0), f.1)

-- a block and `end`
abbrev pub to_end_by : Reader BlockTree → Reader BlockTree
to_end_by block ws = block ws >>= closed_by (OfKeyword keyword.End ∷ [])

-- what is after the body of an `if`
abbrev pub otherwise_by : Reader BlockTree → ℕ → ExpressionTree → BlockTree × List Terminal → Option (List Terminal)
    → Option (StatementKindTree × List Terminal)
otherwise_by block at test body None = closed_by (OfKeyword keyword.End ∷ []) (If at test body.0, body.1)
otherwise_by block at test body (Some after) = to_end_by block after >>= λ b. Some (IfElse at test body.0 b.0, b.1)

-- what is after that keyword
abbrev pub opened_by : Reader BlockTree → StatementKeyword → ℕ → Reader StatementKindTree
opened_by block statement_keyword.Var at ws = declared_at at ws
opened_by block statement_keyword.While at ws = expression ws >>= λ e. to_end_by block e.1 >>= λ b. Some (While at e.0 b.0, b.1)
opened_by block statement_keyword.For at ws =
    range_at ws >>= λ r. to_end_by block r.1 >>= λ b. Some (For at r.0.0 r.0.1 r.0.2 b.0, b.1)
opened_by block statement_keyword.If at ws = expression ws >>= λ e. block e.1 >>= λ b. otherwise_by block at e.0 b (after_terminal (OfKeyword keyword.Else) b.1)
opened_by block statement_keyword.Print at ws = printed_at at ws
