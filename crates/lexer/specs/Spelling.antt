-- Kinds of bytes, and how keywords and symbols are spelled.
use Rattle.std.specs.Prelude.{ℕ, List, codes, ◌≡◌, Bool, true, ◌==◌, ◌||◌, ◌&&◌, not, nat_le}
use Rattle.std.specs.List.{AllByRecursion}
use Rattle.std.specs.Char.{is_ascii_alphabetic, is_ascii_digit}
use Rattle.lexer.specs.declared.keyword.Keyword.{Keyword}
use Rattle.lexer.specs.declared.symbol.Symbol.{Symbol}
use Rattle.lexer.specs.declared.keyword.Keyword.TheVariants as keyword
use Rattle.lexer.specs.declared.symbol.Symbol.TheVariants as symbol

abbrev pub keyword_spelling : Keyword → List ℕ
keyword_spelling keyword.Element = codes "element"
keyword_spelling keyword.Vertex = codes "Vertex"
keyword_spelling keyword.Edge = codes "Edge"
keyword_spelling keyword.End = codes "end"
keyword_spelling keyword.EdgeSet = codes "edgeset"
keyword_spelling keyword.VertexSet = codes "vertexset"
keyword_spelling keyword.Vector = codes "vector"
keyword_spelling keyword.Int = codes "int"
keyword_spelling keyword.Bool = codes "bool"
keyword_spelling keyword.Const = codes "const"
keyword_spelling keyword.Var = codes "var"
keyword_spelling keyword.Func = codes "func"
keyword_spelling keyword.While = codes "while"
keyword_spelling keyword.For = codes "for"
keyword_spelling keyword.In = codes "in"
keyword_spelling keyword.If = codes "if"
keyword_spelling keyword.Else = codes "else"
keyword_spelling keyword.Print = codes "print"
keyword_spelling keyword.True = codes "true"
keyword_spelling keyword.False = codes "false"
keyword_spelling keyword.And = codes "and"
keyword_spelling keyword.Or = codes "or"
keyword_spelling keyword.Not = codes "not"
keyword_spelling keyword.New = codes "new"
keyword_spelling keyword.Load = codes "load"
keyword_spelling keyword.Argv = codes "argv"
keyword_spelling keyword.Schedule = codes "schedule"
keyword_spelling keyword.Program = codes "program"
keyword_spelling keyword.From = codes "from"
keyword_spelling keyword.To = codes "to"
keyword_spelling keyword.Apply = codes "apply"
keyword_spelling keyword.ApplyModified = codes "applyModified"
keyword_spelling keyword.Filter = codes "filter"
keyword_spelling keyword.GetVertices = codes "getVertices"
keyword_spelling keyword.GetOutDegrees = codes "getOutDegrees"
keyword_spelling keyword.AddVertex = codes "addVertex"
keyword_spelling keyword.GetVertexSetSize = codes "getVertexSetSize"
keyword_spelling keyword.ConfigApplyDirection = codes "configApplyDirection"
keyword_spelling keyword.ConfigApplyParallelization = codes "configApplyParallelization"
keyword_spelling keyword.ConfigApplyDenseVertexSet = codes "configApplyDenseVertexSet"
keyword_spelling keyword.FuseApplyFunctions = codes "fuseApplyFunctions"
keyword_spelling keyword.FuseFields = codes "fuseFields"

abbrev pub symbol_spelling : Symbol → List ℕ
symbol_spelling symbol.OpenParenthesis = codes "("
symbol_spelling symbol.CloseParenthesis = codes ")"
symbol_spelling symbol.OpenBracket = codes "["
symbol_spelling symbol.CloseBracket = codes "]"
symbol_spelling symbol.OpenBrace = codes "{"
symbol_spelling symbol.CloseBrace = codes "}"
symbol_spelling symbol.Comma = codes ","
symbol_spelling symbol.Semicolon = codes ";"
symbol_spelling symbol.Colon = codes ":"
symbol_spelling symbol.Dot = codes "."
symbol_spelling symbol.Assign = codes "="
symbol_spelling symbol.Equal = codes "=="
symbol_spelling symbol.NotEqual = codes "!="
symbol_spelling symbol.Less = codes "<"
symbol_spelling symbol.LessOrEqual = codes "<="
symbol_spelling symbol.Greater = codes ">"
symbol_spelling symbol.GreaterOrEqual = codes ">="
symbol_spelling symbol.Plus = codes "+"
symbol_spelling symbol.Minus = codes "-"
symbol_spelling symbol.Star = codes "*"
symbol_spelling symbol.Slash = codes "/"
symbol_spelling symbol.Percent = codes "%"
symbol_spelling symbol.Arrow = codes "->"
symbol_spelling symbol.PlusAssign = codes "+="
symbol_spelling symbol.MinAssign = codes "min="
symbol_spelling symbol.MaxAssign = codes "max="

-- each byte passes the test
abbrev pub Every : (ℕ → Bool) → List ℕ → Type 0
Every test bytes = AllByRecursion (λ b. test b ≡ true) bytes

-- a space, a tab, a carriage return or a line feed
abbrev pub is_white : ℕ → Bool
is_white b = (b == 32) || (b == 9) || (b == 13) || (b == 10)

-- a letter or an underscore, which a word may begin with
abbrev pub is_letter : ℕ → Bool
is_letter b = is_ascii_alphabetic b || (b == 95)

-- what a word may continue with
abbrev pub is_word_byte : ℕ → Bool
is_word_byte b = is_letter b || is_ascii_digit b

-- a printable byte but for the quote itself
abbrev pub is_quotable : ℕ → Bool
is_quotable b = nat_le 32 b && nat_le b 126 && not (b == 34)

-- any byte but a line feed
abbrev pub is_in_line : ℕ → Bool
is_in_line b = not (b == 10)
