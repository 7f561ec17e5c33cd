-- Reading a number or a truth value.
use Rattle.std.specs.Prelude.{◌∷◌, Some, None}
use Rattle.syntax.specs.Terminals.{Number, OfKeyword}
use Rattle.syntax.specs.SourceTrees.{PrimaryTree, Literal, Truth}
use Rattle.syntax.specs.ExpressionReading.{Reader, truth_of}
use Rattle.syntax.specs.Nesting.{◌>>=◌}

abbrev pub literal_at : Reader PrimaryTree
literal_at (Number n ∷ rest) = Some (Literal n, rest)
literal_at (OfKeyword terminal ∷ rest) = truth_of terminal >>= λ b. Some (Truth b, rest)
literal_at _ = None
