-- What declarations are read by their first terminal.
use Rattle.std.specs.Prelude.{ℕ, List, [], ◌∷◌, Option, Some, None}
use Rattle.lexer.specs.declared.keyword.Keyword.{Keyword}
use Rattle.lexer.specs.declared.keyword.Keyword.TheVariants as keyword
use Rattle.lexer.specs.declared.symbol.Symbol.TheVariants as symbol
use Rattle.syntax.specs.Terminals.{Terminal, Identifier, OfKeyword, OfSymbol}
use Rattle.syntax.specs.ExpressionReading.{Reader}
use Rattle.syntax.specs.Nesting.{◌>>=◌}
use Rattle.syntax.specs.SourceTrees.{ParameterTree, DeclarationTree, Constant, Function}
use Rattle.syntax.specs.SourceReading.{block, typed_at, assigned_at, name_reader, parameters_at, result_by, after_terminal, closed_by, each_at, next_parameter}
use Rattle.parser.specs.declared.declaration.Beginning.{Beginning}
use Rattle.parser.specs.declared.declaration.Beginning.TheVariants as beginning

-- what begins with a keyword
abbrev pub beginning_of : Keyword → Option Beginning
beginning_of keyword.Const = Some beginning.Constant
beginning_of keyword.Func = Some beginning.Function
beginning_of _ = None

-- what is after `const`
abbrev pub constant_at : ℕ → Reader DeclarationTree
constant_at at ws = typed_at ws >>= λ n. assigned_at n.1 >>= λ i. Some (Constant at n.0 i.0, i.1)

-- a name, the parameters and the result
abbrev pub signature_at : Reader (Identifier × List ParameterTree × Option ParameterTree)
signature_at ws =
    name_reader ws >>= λ n. parameters_at n.1 >>= λ p. result_by p.1 (after_terminal (OfSymbol symbol.Arrow) p.1) >>= λ r.
    Some ((n.0, p.0, r.0), r.1)

-- what is after `func`
abbrev pub function_at : ℕ → Reader DeclarationTree
function_at at ws =
    signature_at ws >>= λ s. block s.1 >>= λ b. closed_by (OfKeyword keyword.End ∷ []) (Function at s.0.0 s.0.1 s.0.2 b.0, b.1)

abbrev pub declared_by : Beginning → ℕ → Reader DeclarationTree
declared_by beginning.Constant at ws = constant_at at ws
declared_by beginning.Function at ws = function_at at ws

-- a first tree, and the others that were read after it
abbrev pub with_first : {A : Type 0} → A → Option (List A × List Terminal) → Option (List A × List Terminal)
with_first first read = read >>= λ others. Some (first ∷ others.0, others.1)

-- a parameter and those after it, each after a comma
abbrev pub parameters_from : ParameterTree → Reader (List ParameterTree)
parameters_from first ws = with_first first (each_at next_parameter ws)
