-- Meanings: what visible names are in the words of the language, without the indices that a checker gives them.
use Rattle.std.specs.Prelude.{◌≡◌, ℕ, Bool, nat_eq, List, [], ◌∷◌, ◌++◌, Option, Some, None}
use Rattle.std.specs.List.{Contains}
use Rattle.std.specs.Map.{lookup}
use Rattle.syntax.specs.Terminals.{Identifier}
use Rattle.syntax.specs.SourceTrees as source
use Rattle.syntax.specs.SourceTrees.{StatementKindTree, BlockTree}
use Rattle.syntax.specs.declared.declaration.DeclaredType.{DeclaredType}
use Rattle.syntax.specs.declared.declaration.DeclaredType.TheVariants as declared
use Rattle.apply_options.specs.declared.reduction.Reduction.{Reduction}
use Rattle.typed_tree.specs.declared.expression.Endpoint.{Endpoint}
use Rattle.expression_types.specs.declared.scope.Inside.{Inside}
use Rattle.expression_types.specs.declared.scope.Inside.TheVariants as inside
use Rattle.expression_types.specs.ScopeTree.{found}

-- Vectors and edge functions are told apart by how many were declared before. The edges have weights that are seen, or none, and an edge
-- function takes the weight, or not.
pub data Meaning : Type 0 where
  Edges : (weights : Bool) → Meaning
  Vector : ℕ → Meaning
  ConstantSet : Meaning
  NumberConstant : Meaning
  TruthConstant : Meaning
  NumberVariable : Meaning
  TruthVariable : Meaning
  SetVariable : Meaning
  LoopName : Meaning
  Parameter : Endpoint → Meaning
  Weight : Meaning
  EdgeFunction : ℕ → (weighted : Bool) → Meaning
  VertexFunction : Meaning
  Filter : Meaning
  Main : Meaning
  Nothing : Meaning

abbrev pub Meanings : Type 0
Meanings = List (List ℕ × Meaning)

-- what is known at a point of a source: the visible names, the labels before it, what the edge function around it reduces and how, and what
-- each edge function before it does
pub record Known : Type 0 where
  pub names : Meanings
  pub labels : List (List ℕ)
  pub reduced : List (ℕ × Reduction)
  pub written : List (List (ℕ × Reduction))

abbrev pub Means : Meanings → Identifier → Meaning → Type 0
Means names name m = found name.bytes names ≡ Some m

-- the name of the edges, with weights or without
abbrev pub MeansEdges : Meanings → Identifier → Type 0
MeansEdges names name = (weights : Bool) × Means names name (Edges weights)

-- a name that may be declared
abbrev pub IsNew : Known → Identifier → Type 0
IsNew k name = found name.bytes k.names ≡ None

abbrev pub with_meaning : Known → Identifier → Meaning → Known
with_meaning k name m = record k { names = k.names ++ (name.bytes, m) ∷ [] }

-- a label that is not already
abbrev pub LabelIsNew : Known → Option Identifier → Type 0
LabelIsNew k None = Unit {0}
LabelIsNew k (Some label) = Contains k.labels label.bytes → ⊥

abbrev pub labelled_known : Known → Option Identifier → Known
labelled_known k None = k
labelled_known k (Some label) = record k { labels = k.labels ++ label.bytes ∷ [] }

-- after a block the names that became visible in it are forgotten
abbrev pub closed_known : Known → Known → Known
closed_known k inner = record inner { names = k.names }

-- what a declared variable is
abbrev pub variable_meaning : DeclaredType → Meaning
variable_meaning declared.Int = NumberVariable
variable_meaning declared.Bool = TruthVariable
variable_meaning declared.Vertex = Nothing
variable_meaning declared.VertexSet = SetVariable
variable_meaning declared.Vector = Nothing
variable_meaning declared.EdgeSet = Nothing
variable_meaning declared.WeightedEdgeSet = Nothing

-- one more vector that an edge function reduces
abbrev pub with_reduction : Option Reduction → ℕ → Reduction → List (ℕ × Reduction) → List (ℕ × Reduction)
with_reduction None vector by reduced = reduced ++ (vector, by) ∷ []
with_reduction (Some first) vector by reduced = reduced

abbrev pub meanings_reduced_with : Option Meaning → Reduction → List (ℕ × Reduction) → List (ℕ × Reduction)
meanings_reduced_with (Some (Vector vector)) by reduced = with_reduction (lookup (nat_eq vector) reduced) vector by reduced
meanings_reduced_with _ by reduced = reduced

abbrev pub reduced_in : Inside → Known → Identifier → Reduction → Known
reduced_in inside.EdgeFunction k vector by = record k { reduced = meanings_reduced_with (found vector.bytes k.names) by k.reduced }
reduced_in inside.Main k vector by = k
reduced_in inside.VertexFunction k vector by = k
reduced_in inside.Filter k vector by = k

abbrev mutual
  -- what is known after a statement
  pub known_behind : Inside → Known → StatementKindTree → Known
  known_behind i k (source.Declare at p initial) = with_meaning k p.name (variable_meaning p.declared)
  known_behind i k (source.While at test body) = closed_known k (known_after i k body)
  known_behind i k (source.For at name first limit body) = closed_known k (known_after i (with_meaning k name LoopName) body)
  known_behind i k (source.If at test body) = closed_known k (known_after i k body)
  known_behind i k (source.IfElse at test body otherwise) = closed_known k (known_after i (closed_known k (known_after i k body)) otherwise)
  known_behind i k (source.Print at e) = k
  known_behind i k (source.Assign name initial) = k
  known_behind i k (source.Reduce name by e) = k
  known_behind i k (source.SetEntry vector index e) = k
  known_behind i k (source.ReduceEntry vector index by e) = reduced_in i k vector by
  known_behind i k (source.AddVertex set e) = k
  known_behind i k (source.Apply target ends function) = k

  -- what is known after a block, with the names in it
  pub known_after : Inside → Known → BlockTree → Known
  known_after i k source.Empty = k
  known_after i k (source.Then label action others) = known_after i (known_behind i (labelled_known k label) action) others
