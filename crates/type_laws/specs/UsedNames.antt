-- Sources in which each used name is visible. A list of names has those that are visible, as in NewNames.
use Rattle.std.specs.Prelude.{ℕ, List, [], ◌∷◌, Option, Some, None}
use Rattle.std.specs.List.{Contains}
use Rattle.syntax.specs.Terminals.{Identifier}
use Rattle.syntax.specs.SourceTrees as tree
use Rattle.syntax.specs.SourceTrees.{ExpressionTree, ConjunctionTree, ComparisonTree, SumTree, TermTree, UnaryTree, PrimaryTree, EndsTree, InitialTree}
use Rattle.syntax.specs.SourceTrees.{StatementKindTree, BlockTree, DeclarationTree}
use Rattle.type_laws.specs.NewNames.{names_after, names_inside, with_declaration, with_new}

abbrev pub IsVisible : List (List ℕ) → Identifier → Type 0
IsVisible visible name = Contains visible name.bytes

abbrev mutual
  -- each name in an expression is visible
  pub ExpressionUsesVisible : List (List ℕ) → ExpressionTree → Type 0
  ExpressionUsesVisible visible (tree.LastConjunction c) = ConjunctionUsesVisible visible c
  ExpressionUsesVisible visible (tree.ConjunctionThen c others) = ConjunctionUsesVisible visible c × ExpressionUsesVisible visible others

  pub ConjunctionUsesVisible : List (List ℕ) → ConjunctionTree → Type 0
  ConjunctionUsesVisible visible (tree.LastComparison c) = ComparisonUsesVisible visible c
  ConjunctionUsesVisible visible (tree.ComparisonThen c others) = ComparisonUsesVisible visible c × ConjunctionUsesVisible visible others

  pub ComparisonUsesVisible : List (List ℕ) → ComparisonTree → Type 0
  ComparisonUsesVisible visible (tree.OneSum s) = SumUsesVisible visible s
  ComparisonUsesVisible visible (tree.TwoSums left relation right) = SumUsesVisible visible left × SumUsesVisible visible right

  pub SumUsesVisible : List (List ℕ) → SumTree → Type 0
  SumUsesVisible visible (tree.LastTerm t) = TermUsesVisible visible t
  SumUsesVisible visible (tree.TermThen t o others) = TermUsesVisible visible t × SumUsesVisible visible others

  pub TermUsesVisible : List (List ℕ) → TermTree → Type 0
  TermUsesVisible visible (tree.LastUnary u) = UnaryUsesVisible visible u
  TermUsesVisible visible (tree.UnaryThen u o others) = UnaryUsesVisible visible u × TermUsesVisible visible others

  pub UnaryUsesVisible : List (List ℕ) → UnaryTree → Type 0
  UnaryUsesVisible visible (tree.Bare e) = PrimaryUsesVisible visible e
  UnaryUsesVisible visible (tree.Signed sign u) = UnaryUsesVisible visible u

  pub PrimaryUsesVisible : List (List ℕ) → PrimaryTree → Type 0
  PrimaryUsesVisible visible (tree.Literal n) = Unit {0}
  PrimaryUsesVisible visible (tree.Truth b) = Unit {0}
  PrimaryUsesVisible visible (tree.Variable name) = IsVisible visible name
  PrimaryUsesVisible visible (tree.Entry vector index) = IsVisible visible vector × ExpressionUsesVisible visible index
  PrimaryUsesVisible visible (tree.Size set) = IsVisible visible set
  PrimaryUsesVisible visible (tree.Parentheses inside) = ExpressionUsesVisible visible inside

-- the ends of an apply
abbrev pub EndIsVisible : List (List ℕ) → Option Identifier → Type 0
EndIsVisible visible None = Unit {0}
EndIsVisible visible (Some name) = IsVisible visible name

abbrev pub EndsAreVisible : List (List ℕ) → EndsTree → Type 0
EndsAreVisible visible ends = EndIsVisible visible ends.from × EndIsVisible visible ends.to

-- an initial or assigned value
abbrev pub InitialUsesVisible : List (List ℕ) → InitialTree → Type 0
InitialUsesVisible visible (tree.NewSet size) = Unit {0}
InitialUsesVisible visible (tree.Load argument) = Unit {0}
InitialUsesVisible visible (tree.Vertices edges) = IsVisible visible edges
InitialUsesVisible visible (tree.OutDegrees edges) = IsVisible visible edges
InitialUsesVisible visible (tree.Filter set test) = IsVisible visible set × IsVisible visible test
InitialUsesVisible visible (tree.ApplyModified edges ends function vector) =
    IsVisible visible edges × EndsAreVisible visible ends × IsVisible visible function × IsVisible visible vector
InitialUsesVisible visible (tree.Value e) = ExpressionUsesVisible visible e

abbrev mutual
  pub ActionUsesVisible : List (List ℕ) → StatementKindTree → Type 0
  ActionUsesVisible visible (tree.Declare at variable initial) = InitialUsesVisible visible initial
  ActionUsesVisible visible (tree.While at test body) = ExpressionUsesVisible visible test × BlockUsesVisible visible body
  ActionUsesVisible visible (tree.For at name first limit body) =
      ExpressionUsesVisible visible first × ExpressionUsesVisible visible limit × BlockUsesVisible (with_new visible name) body
  ActionUsesVisible visible (tree.If at test body) = ExpressionUsesVisible visible test × BlockUsesVisible visible body
  ActionUsesVisible visible (tree.IfElse at test body otherwise) =
      ExpressionUsesVisible visible test × BlockUsesVisible visible body × BlockUsesVisible visible otherwise
  ActionUsesVisible visible (tree.Print at e) = ExpressionUsesVisible visible e
  ActionUsesVisible visible (tree.Assign name initial) = IsVisible visible name × InitialUsesVisible visible initial
  ActionUsesVisible visible (tree.Reduce name by e) = IsVisible visible name × ExpressionUsesVisible visible e
  ActionUsesVisible visible (tree.SetEntry vector index e) =
      IsVisible visible vector × ExpressionUsesVisible visible index × ExpressionUsesVisible visible e
  ActionUsesVisible visible (tree.ReduceEntry vector index by e) =
      IsVisible visible vector × ExpressionUsesVisible visible index × ExpressionUsesVisible visible e
  ActionUsesVisible visible (tree.AddVertex set e) = IsVisible visible set × ExpressionUsesVisible visible e
  ActionUsesVisible visible (tree.Apply target ends function) = IsVisible visible target × EndsAreVisible visible ends × IsVisible visible function

  -- each statement, at what is visible after those before it
  pub BlockUsesVisible : List (List ℕ) → BlockTree → Type 0
  BlockUsesVisible visible tree.Empty = Unit {0}
  BlockUsesVisible visible (tree.Then label action others) = ActionUsesVisible visible action × BlockUsesVisible (names_after visible action) others

-- The name of a declaration is visible after its end.
abbrev pub DeclarationUsesVisible : List (List ℕ) → DeclarationTree → Type 0
DeclarationUsesVisible visible (tree.Constant at p initial) = InitialUsesVisible visible initial
DeclarationUsesVisible visible (tree.Function at name parameters result body) = BlockUsesVisible (names_inside visible parameters result) body

abbrev pub DeclarationsUseVisible : List (List ℕ) → List DeclarationTree → Type 0
DeclarationsUseVisible visible [] = Unit {0}
DeclarationsUseVisible visible (x ∷ others) = DeclarationUsesVisible visible x × DeclarationsUseVisible (with_declaration visible x) others
