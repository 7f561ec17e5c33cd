-- Types of expressions, as a relation over the source: which types an expression has where names have these meanings.
use Rattle.std.specs.Prelude.{◌≡◌, ◌⊎◌, ℕ, Option, Some, None}
use Rattle.syntax.specs.Terminals.{Identifier}
use Rattle.syntax.specs.declared.operators.Prefix.TheVariants as prefix
use Rattle.syntax.specs.declared.operators.Relation.{Relation}
use Rattle.syntax.specs.declared.operators.Relation.TheVariants as relation
use Rattle.syntax.specs.SourceTrees as tree
use Rattle.syntax.specs.SourceTrees.{ExpressionTree, ConjunctionTree, ComparisonTree, SumTree, TermTree, UnaryTree, PrimaryTree}
use Rattle.typed_tree.specs.declared.expression.Endpoint.{Endpoint}
use Rattle.expression_types.specs.declared.scope.Inside.{Inside}
use Rattle.expression_types.specs.declared.scope.Inside.TheVariants as inside
use Rattle.expression_types.specs.ScopeTree.{found}
use Rattle.type_laws.specs.EntryAccess.{HasNoEntry}
use Rattle.type_laws.specs.Meanings as meaning
use Rattle.type_laws.specs.Meanings.{Meaning, Meanings, Means}

-- int, bool, a Vertex that a function works on, or a vertex set
pub data ExpressionType : Type 0 where
  Number : ExpressionType
  Truth : ExpressionType
  Vertex : Endpoint → ExpressionType
  Set : ExpressionType

-- the type of a name, where it has a value
abbrev pub type_named : Option Meaning → Option ExpressionType
type_named None = None
type_named (Some (meaning.Edges weights)) = None
type_named (Some (meaning.Vector vector)) = None
type_named (Some meaning.ConstantSet) = Some Set
type_named (Some meaning.NumberConstant) = Some Number
type_named (Some meaning.TruthConstant) = Some Truth
type_named (Some meaning.NumberVariable) = Some Number
type_named (Some meaning.TruthVariable) = Some Truth
type_named (Some meaning.SetVariable) = Some Set
type_named (Some meaning.LoopName) = Some Number
type_named (Some (meaning.Parameter p)) = Some (Vertex p)
type_named (Some meaning.Weight) = Some Number
type_named (Some (meaning.EdgeFunction function weighted)) = None
type_named (Some meaning.VertexFunction) = None
type_named (Some meaning.Filter) = None
type_named (Some meaning.Main) = None
type_named (Some meaning.Nothing) = None

abbrev pub NameHas : Meanings → Identifier → ExpressionType → Type 0
NameHas names name type = type_named (found name.bytes names) ≡ Some type

-- a name of a vector
pub record IsVectorName (names : Meanings) (name : Identifier) : Type 0 where
  pub vector : ℕ
  pub means : Means names name (meaning.Vector vector)

-- `==` and `!=` take two conditions too
abbrev pub IsEquality : Relation → Type 0
IsEquality relation.Equal = Unit {0}
IsEquality relation.NotEqual = Unit {0}
IsEquality relation.Less = ⊥
IsEquality relation.LessOrEqual = ⊥
IsEquality relation.Greater = ⊥
IsEquality relation.GreaterOrEqual = ⊥

-- In main an index is a number, and holds no entry. In a function it is a vertex that the function works on.
abbrev pub IndexFits : Inside → (is_number has_no_entry is_vertex : Type 0) → Type 0
IndexFits inside.Main is_number has_no_entry is_vertex = is_number × has_no_entry
IndexFits inside.EdgeFunction is_number has_no_entry is_vertex = is_vertex
IndexFits inside.VertexFunction is_number has_no_entry is_vertex = is_vertex
IndexFits inside.Filter is_number has_no_entry is_vertex = is_vertex

-- A vertex reads as its number wherever a number is taken.
abbrev pub ReadsAsNumber : (ExpressionType → Type 0) → Type 0
ReadsAsNumber Has = Has Number ⊎ ((p : Endpoint) × Has (Vertex p))

abbrev mutual
  pub ExpressionHas : Meanings → Inside → ExpressionTree → ExpressionType → Type 0
  ExpressionHas names i (tree.LastConjunction c) type = ConjunctionHas names i c type
  ExpressionHas names i (tree.ConjunctionThen c others) type = (type ≡ Truth) × ConjunctionHas names i c Truth × ExpressionHas names i others Truth

  pub ConjunctionHas : Meanings → Inside → ConjunctionTree → ExpressionType → Type 0
  ConjunctionHas names i (tree.LastComparison c) type = ComparisonHas names i c type
  ConjunctionHas names i (tree.ComparisonThen c others) type = (type ≡ Truth) × ComparisonHas names i c Truth × ConjunctionHas names i others Truth

  pub ComparisonHas : Meanings → Inside → ComparisonTree → ExpressionType → Type 0
  ComparisonHas names i (tree.OneSum s) type = SumHas names i s type
  ComparisonHas names i (tree.TwoSums left relation right) type =
      (type ≡ Truth)
      × ((ReadsAsNumber (SumHas names i left) × ReadsAsNumber (SumHas names i right))
      ⊎ (IsEquality relation × SumHas names i left Truth × SumHas names i right Truth))

  pub SumHas : Meanings → Inside → SumTree → ExpressionType → Type 0
  SumHas names i (tree.LastTerm t) type = TermHas names i t type
  SumHas names i (tree.TermThen t operator others) type = (type ≡ Number) × ReadsAsNumber (TermHas names i t) × ReadsAsNumber (SumHas names i others)

  pub TermHas : Meanings → Inside → TermTree → ExpressionType → Type 0
  TermHas names i (tree.LastUnary u) type = UnaryHas names i u type
  TermHas names i (tree.UnaryThen u operator others) type = (type ≡ Number) × ReadsAsNumber (UnaryHas names i u) × ReadsAsNumber (TermHas names i others)

  pub UnaryHas : Meanings → Inside → UnaryTree → ExpressionType → Type 0
  UnaryHas names i (tree.Bare e) type = PrimaryHas names i e type
  UnaryHas names i (tree.Signed prefix.Minus u) type = (type ≡ Number) × ReadsAsNumber (UnaryHas names i u)
  UnaryHas names i (tree.Signed prefix.Not u) type = (type ≡ Truth) × UnaryHas names i u Truth

  pub PrimaryHas : Meanings → Inside → PrimaryTree → ExpressionType → Type 0
  PrimaryHas names i (tree.Literal n) type = type ≡ Number
  PrimaryHas names i (tree.Truth b) type = type ≡ Truth
  PrimaryHas names i (tree.Variable name) type = NameHas names name type
  PrimaryHas names i (tree.Entry vector index) type =
      (type ≡ Number) × IsVectorName names vector
      × IndexFits i (ReadsAsNumber (ExpressionHas names i index)) (HasNoEntry index) ((p : Endpoint) × ExpressionHas names i index (Vertex p))
  PrimaryHas names i (tree.Size set) type = (type ≡ Number) × NameHas names set Set
  PrimaryHas names i (tree.Parentheses inside) type = ExpressionHas names i inside type

-- a number, or a vertex in its place
abbrev pub IsNumberExpression : Meanings → Inside → ExpressionTree → Type 0
IsNumberExpression names i e = ReadsAsNumber (ExpressionHas names i e)

abbrev pub IsTruth : Meanings → Inside → ExpressionTree → Type 0
IsTruth names i e = ExpressionHas names i e Truth
