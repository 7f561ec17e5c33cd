-- Trees whose expressions and blocks are nested no deeper than readers go.
use Rattle.std.specs.Prelude.{ℕ, zero, suc, ◌≤◌, List, [], ◌∷◌}
use Rattle.syntax.specs.SourceTrees.{ExpressionTree, InitialTree, Value, StatementKindTree, Declare, While, For, If, IfElse, Print, Assign, Reduce, SetEntry}
use Rattle.syntax.specs.SourceTrees.{ReduceEntry, AddVertex, Apply, BlockTree, Empty, Then, DeclarationTree, Constant, Function, SourceTree}
use Rattle.syntax.specs.ExpressionDepth.{expression_depth}
use Rattle.syntax.specs.Nesting.{limit}

abbrev pub Fits : ExpressionTree → Type 0
Fits e = expression_depth e ≤ limit

abbrev pub FitsInitial : InitialTree → Type 0
FitsInitial (Value e) = Fits e
FitsInitial _ = Unit {0}

abbrev mutual
  pub FitsAction : ℕ → StatementKindTree → Type 0
  FitsAction d (Declare at p initial) = FitsInitial initial
  FitsAction zero (While at test body) = ⊥
  FitsAction (suc d) (While at test body) = Fits test × FitsBlock d body
  FitsAction zero (For at name first last body) = ⊥
  FitsAction (suc d) (For at name first last body) = Fits first × Fits last × FitsBlock d body
  FitsAction zero (If at test body) = ⊥
  FitsAction (suc d) (If at test body) = Fits test × FitsBlock d body
  FitsAction zero (IfElse at test body otherwise) = ⊥
  FitsAction (suc d) (IfElse at test body otherwise) = Fits test × FitsBlock d body × FitsBlock d otherwise
  FitsAction d (Print at value) = Fits value
  FitsAction d (Assign name value) = FitsInitial value
  FitsAction d (Reduce name reduction value) = Fits value
  FitsAction d (SetEntry vector index value) = Fits index × Fits value
  FitsAction d (ReduceEntry vector index reduction value) = Fits index × Fits value
  FitsAction d (AddVertex set vertex) = Fits vertex
  FitsAction d (Apply target ends function) = Unit {0}

  pub FitsBlock : ℕ → BlockTree → Type 0
  FitsBlock d Empty = Unit {0}
  FitsBlock d (Then label action others) = FitsAction d action × FitsBlock d others

abbrev pub FitsDeclaration : DeclarationTree → Type 0
FitsDeclaration (Constant at p initial) = FitsInitial initial
FitsDeclaration (Function at name parameters result body) = FitsBlock limit body

abbrev pub FitDeclarations : List DeclarationTree → Type 0
FitDeclarations [] = Unit {0}
FitDeclarations (d ∷ others) = FitsDeclaration d × FitDeclarations others

abbrev pub FitsSource : SourceTree → Type 0
FitsSource source = FitDeclarations source.declarations
