-- What reading a primary comes to, by its first terminal.
use Rattle.std.proofs.Common.{◌≡◌, ◌≢◌, refl, sym, ap, ◌∙◌, ℕ, zero, suc, List, ◌∷◌, Option, Some, None}
use Rattle.lexer.specs.declared.keyword.Keyword.{Keyword}
use Rattle.lexer.specs.declared.keyword.Keyword.TheVariants as keyword
use Rattle.lexer.specs.declared.symbol.Symbol.{Symbol}
use Rattle.lexer.specs.declared.symbol.Symbol.TheVariants as symbol
use Rattle.lexer.specs.declared.token.TokenKind.{TokenKind}
use Rattle.lexer.specs.declared.token.TokenKind.TheVariants as kind
use Rattle.syntax.specs.Terminals.{Terminal, Name, OfSymbol, Identifier, keyword_terminal, terminal_of}
use Rattle.syntax.specs.SourceTrees.{ExpressionTree}
use Rattle.parser.specs.inside.Literals.{literal_at}
use Rattle.parser.proofs.Fronts.{none_open_bracket}
use Rattle.syntax.specs.ExpressionReading.{Reader, no_expression, primary_at, primary_by, expression_at, name_begins, after_open_bracket, after_dot}
use Rattle.syntax.specs.inside.ExpressionReading.{expression_in}

pub primary_at-is : (depth : ℕ) (ws : List Terminal) → primary_at depth ws ≡ primary_by (expression_in depth) ws
primary_at-is zero ws = refl
primary_at-is (suc depth) ws = refl

pub in_deeper : (depth inside : ℕ) (ws : List Terminal) → depth ≡ suc inside → expression_in depth ws ≡ expression_at inside ws
in_deeper depth inside ws is = ap (λ d. expression_in d ws) is

pub primary_name : (depth : ℕ) (ws : List Terminal) (name : Identifier) (rest : List Terminal) → ws ≡ Name name ∷ rest
    → primary_at depth ws ≡ name_begins (expression_in depth) name rest (after_open_bracket rest) (after_dot rest)
primary_name depth ws name rest is = primary_at-is depth ws ∙ ap (primary_by (expression_in depth)) is

no_symbol : (e : Reader ExpressionTree) (mark : Symbol) (rest : List Terminal) → mark ≢ symbol.OpenParenthesis → primary_by e (OfSymbol mark ∷ rest) ≡ None
no_symbol e symbol.OpenParenthesis rest other = absurd (other refl)
no_symbol e _ rest other = refl

pub primary_symbol : (depth : ℕ) (ws : List Terminal) (mark : Symbol) (rest : List Terminal) → ws ≡ OfSymbol mark ∷ rest → mark ≢ symbol.OpenParenthesis
    → primary_at depth ws ≡ None
primary_symbol depth ws mark rest is other = primary_at-is depth ws ∙ ap (primary_by (expression_in depth)) is ∙ no_symbol (expression_in depth) mark rest other

-- a primary that begins neither with a name nor with a symbol
literal_is : (e : Reader ExpressionTree) (k : TokenKind) (bytes : List ℕ) (at : ℕ) (rest : List Terminal) → k ≢ kind.Name → ((mark : Symbol) → k ≢ kind.Symbol mark)
    → primary_by e (terminal_of k bytes at ∷ rest) ≡ literal_at (terminal_of k bytes at ∷ rest)
literal_is e kind.Name bytes at rest no_name no_symbol = absurd (no_name refl)
literal_is e (kind.Number n) bytes at rest no_name no_symbol = refl
literal_is e kind.Label bytes at rest no_name no_symbol = refl
literal_is e kind.Text bytes at rest no_name no_symbol = refl
literal_is e (kind.Keyword terminal) bytes at rest no_name no_symbol = go terminal
  where
    go : (terminal : Keyword) → primary_by e (keyword_terminal terminal at ∷ rest) ≡ literal_at (keyword_terminal terminal at ∷ rest)
    go keyword.Const = refl
    go _ = refl
literal_is e (kind.Symbol mark) bytes at rest no_name no_symbol = absurd (no_symbol mark refl)

pub primary_literal : (depth : ℕ) (ws : List Terminal) (k : TokenKind) (bytes : List ℕ) (at : ℕ) (rest : List Terminal) → ws ≡ terminal_of k bytes at ∷ rest
    → k ≢ kind.Name → ((mark : Symbol) → k ≢ kind.Symbol mark) → primary_at depth ws ≡ literal_at ws
primary_literal depth ws k bytes at rest is no_name no_symbol =
    primary_at-is depth ws ∙ ap (primary_by (expression_in depth)) is ∙ literal_is (expression_in depth) k bytes at rest no_name no_symbol ∙ sym (ap literal_at is)

unindexed_is : (e : Reader ExpressionTree) (name : Identifier) (ws : List Terminal) (dot : Option (List Terminal)) → name_begins e name ws None dot ≡ name_begins no_expression name ws None dot
unindexed_is e name ws None = refl
unindexed_is e name ws (Some after) = refl

-- a name after which no bracket is opened
pub named_unindexed : (e : Reader ExpressionTree) (name : Identifier) (ws : List Terminal) → ((rest : List Terminal) → ws ≢ OfSymbol symbol.OpenBracket ∷ rest)
    → name_begins e name ws (after_open_bracket ws) (after_dot ws) ≡ name_begins no_expression name ws None (after_dot ws)
named_unindexed e name ws other =
    ap (λ bracket. name_begins e name ws bracket (after_dot ws)) (none_open_bracket ws other) ∙ unindexed_is e name ws (after_dot ws)
