-- Sources in which functions of users read and write vectors at their own vertices alone, and no index of main has an entry in it.
use Rattle.std.specs.Prelude.{◌≡◌, ◌≢◌, ℕ, List, [], ◌∷◌, Option, Some, None}
use Rattle.std.specs.List.{Contains}
use Rattle.syntax.specs.SourceTrees as tree
use Rattle.syntax.specs.SourceTrees.{ExpressionTree, ConjunctionTree, ComparisonTree, SumTree, TermTree, UnaryTree, PrimaryTree, InitialTree, ParameterTree}
use Rattle.syntax.specs.SourceTrees.{StatementKindTree, BlockTree, DeclarationTree}
use Rattle.syntax.specs.Terminals.{Identifier}
use Rattle.expression_types.specs.BareNames.{lone_name}
use Rattle.initializer_types.specs.DeclarationForms.{main_bytes}

-- the expression is one of the names, alone or in parentheses
abbrev pub IsAmong : List (List ℕ) → Option Identifier → Type 0
IsAmong names None = ⊥
IsAmong names (Some name) = Contains names name.bytes

abbrev pub IsNameAmong : List (List ℕ) → ExpressionTree → Type 0
IsNameAmong names e = IsAmong names (lone_name e)

abbrev mutual
  -- there is no entry of a vector in the expression
  pub HasNoEntry : ExpressionTree → Type 0
  HasNoEntry (tree.LastConjunction c) = ConjunctionHasNoEntry c
  HasNoEntry (tree.ConjunctionThen c others) = ConjunctionHasNoEntry c × HasNoEntry others

  pub ConjunctionHasNoEntry : ConjunctionTree → Type 0
  ConjunctionHasNoEntry (tree.LastComparison c) = ComparisonHasNoEntry c
  ConjunctionHasNoEntry (tree.ComparisonThen c others) = ComparisonHasNoEntry c × ConjunctionHasNoEntry others

  pub ComparisonHasNoEntry : ComparisonTree → Type 0
  ComparisonHasNoEntry (tree.OneSum s) = SumHasNoEntry s
  ComparisonHasNoEntry (tree.TwoSums left relation right) = SumHasNoEntry left × SumHasNoEntry right

  pub SumHasNoEntry : SumTree → Type 0
  SumHasNoEntry (tree.LastTerm t) = TermHasNoEntry t
  SumHasNoEntry (tree.TermThen t o others) = TermHasNoEntry t × SumHasNoEntry others

  pub TermHasNoEntry : TermTree → Type 0
  TermHasNoEntry (tree.LastUnary u) = UnaryHasNoEntry u
  TermHasNoEntry (tree.UnaryThen u o others) = UnaryHasNoEntry u × TermHasNoEntry others

  pub UnaryHasNoEntry : UnaryTree → Type 0
  UnaryHasNoEntry (tree.Bare e) = PrimaryHasNoEntry e
  UnaryHasNoEntry (tree.Signed sign u) = UnaryHasNoEntry u

  pub PrimaryHasNoEntry : PrimaryTree → Type 0
  PrimaryHasNoEntry (tree.Literal n) = Unit {0}
  PrimaryHasNoEntry (tree.Truth b) = Unit {0}
  PrimaryHasNoEntry (tree.Variable name) = Unit {0}
  PrimaryHasNoEntry (tree.Entry vector index) = ⊥
  PrimaryHasNoEntry (tree.Size set) = Unit {0}
  PrimaryHasNoEntry (tree.Parentheses inside) = HasNoEntry inside

abbrev mutual
  -- each entry in the expression is at such an index
  pub ExpressionReadsAt : (ExpressionTree → Type 0) → ExpressionTree → Type 0
  ExpressionReadsAt Index (tree.LastConjunction c) = ConjunctionReadsAt Index c
  ExpressionReadsAt Index (tree.ConjunctionThen c others) = ConjunctionReadsAt Index c × ExpressionReadsAt Index others

  pub ConjunctionReadsAt : (ExpressionTree → Type 0) → ConjunctionTree → Type 0
  ConjunctionReadsAt Index (tree.LastComparison c) = ComparisonReadsAt Index c
  ConjunctionReadsAt Index (tree.ComparisonThen c others) = ComparisonReadsAt Index c × ConjunctionReadsAt Index others

  pub ComparisonReadsAt : (ExpressionTree → Type 0) → ComparisonTree → Type 0
  ComparisonReadsAt Index (tree.OneSum s) = SumReadsAt Index s
  ComparisonReadsAt Index (tree.TwoSums left relation right) = SumReadsAt Index left × SumReadsAt Index right

  pub SumReadsAt : (ExpressionTree → Type 0) → SumTree → Type 0
  SumReadsAt Index (tree.LastTerm t) = TermReadsAt Index t
  SumReadsAt Index (tree.TermThen t o others) = TermReadsAt Index t × SumReadsAt Index others

  pub TermReadsAt : (ExpressionTree → Type 0) → TermTree → Type 0
  TermReadsAt Index (tree.LastUnary u) = UnaryReadsAt Index u
  TermReadsAt Index (tree.UnaryThen u o others) = UnaryReadsAt Index u × TermReadsAt Index others

  pub UnaryReadsAt : (ExpressionTree → Type 0) → UnaryTree → Type 0
  UnaryReadsAt Index (tree.Bare e) = PrimaryReadsAt Index e
  UnaryReadsAt Index (tree.Signed sign u) = UnaryReadsAt Index u

  pub PrimaryReadsAt : (ExpressionTree → Type 0) → PrimaryTree → Type 0
  PrimaryReadsAt Index (tree.Literal n) = Unit {0}
  PrimaryReadsAt Index (tree.Truth b) = Unit {0}
  PrimaryReadsAt Index (tree.Variable name) = Unit {0}
  PrimaryReadsAt Index (tree.Entry vector index) = Index index
  PrimaryReadsAt Index (tree.Size set) = Unit {0}
  PrimaryReadsAt Index (tree.Parentheses inside) = ExpressionReadsAt Index inside

abbrev pub InitialReadsAt : (ExpressionTree → Type 0) → InitialTree → Type 0
InitialReadsAt Index (tree.NewSet size) = Unit {0}
InitialReadsAt Index (tree.Load argument) = Unit {0}
InitialReadsAt Index (tree.Vertices edges) = Unit {0}
InitialReadsAt Index (tree.OutDegrees edges) = Unit {0}
InitialReadsAt Index (tree.Filter set test) = Unit {0}
InitialReadsAt Index (tree.ApplyModified edges ends function vector) = Unit {0}
InitialReadsAt Index (tree.Value e) = ExpressionReadsAt Index e

abbrev mutual
  -- each entry that a statement reads is at an index of the first kind, and each that it writes at one of the second
  pub ActionAccesses : (Read Write : ExpressionTree → Type 0) → StatementKindTree → Type 0
  ActionAccesses Read Write (tree.Declare at variable initial) = InitialReadsAt Read initial
  ActionAccesses Read Write (tree.While at test body) = ExpressionReadsAt Read test × BlockAccesses Read Write body
  ActionAccesses Read Write (tree.For at name first limit body) =
      ExpressionReadsAt Read first × ExpressionReadsAt Read limit × BlockAccesses Read Write body
  ActionAccesses Read Write (tree.If at test body) = ExpressionReadsAt Read test × BlockAccesses Read Write body
  ActionAccesses Read Write (tree.IfElse at test body otherwise) =
      ExpressionReadsAt Read test × BlockAccesses Read Write body × BlockAccesses Read Write otherwise
  ActionAccesses Read Write (tree.Print at e) = ExpressionReadsAt Read e
  ActionAccesses Read Write (tree.Assign name initial) = InitialReadsAt Read initial
  ActionAccesses Read Write (tree.Reduce name by e) = ExpressionReadsAt Read e
  ActionAccesses Read Write (tree.SetEntry vector index e) = Write index × ExpressionReadsAt Read e
  ActionAccesses Read Write (tree.ReduceEntry vector index by e) = Write index × ExpressionReadsAt Read e
  ActionAccesses Read Write (tree.AddVertex set e) = ExpressionReadsAt Read e
  ActionAccesses Read Write (tree.Apply target ends function) = Unit {0}

  pub BlockAccesses : (Read Write : ExpressionTree → Type 0) → BlockTree → Type 0
  BlockAccesses Read Write tree.Empty = Unit {0}
  BlockAccesses Read Write (tree.Then label action others) = ActionAccesses Read Write action × BlockAccesses Read Write others

-- A function of a user has one vertex or two as its first parameters. It reads entries at each of them and writes them at the last; a third
-- parameter is no vertex.
abbrev pub AccessesOwnVertices : List ParameterTree → BlockTree → Type 0
AccessesOwnVertices [] body = ⊥
AccessesOwnVertices (v ∷ []) body = BlockAccesses (IsNameAmong (v.name.bytes ∷ [])) (IsNameAmong (v.name.bytes ∷ [])) body
AccessesOwnVertices (src ∷ dst ∷ []) body =
    BlockAccesses (IsNameAmong (src.name.bytes ∷ dst.name.bytes ∷ [])) (IsNameAmong (dst.name.bytes ∷ [])) body
AccessesOwnVertices (src ∷ dst ∷ w ∷ []) body =
    BlockAccesses (IsNameAmong (src.name.bytes ∷ dst.name.bytes ∷ [])) (IsNameAmong (dst.name.bytes ∷ [])) body
AccessesOwnVertices (a ∷ b ∷ c ∷ d ∷ others) body = ⊥

-- main, and each function of a user
abbrev pub AccessesEntriesWell : DeclarationTree → Type 0
AccessesEntriesWell (tree.Constant at p initial) = Unit {0}
AccessesEntriesWell (tree.Function at name parameters result body) =
    (name.bytes ≡ main_bytes → BlockAccesses HasNoEntry HasNoEntry body) × (name.bytes ≢ main_bytes → AccessesOwnVertices parameters body)
