-- Sources whose constants have the values that constants may have, and whose functions are of a kind that there is and hold what a function of
-- that kind may hold.
use Rattle.std.specs.Prelude.{◌≡◌, ◌≢◌, ◌⊎◌, pos, List, [], ◌∷◌, Option, Some, None, IsSome}
use Rattle.syntax.specs.declared.declaration.DeclaredType.{DeclaredType}
use Rattle.syntax.specs.declared.declaration.DeclaredType.TheVariants as declared
use Rattle.syntax.specs.SourceTrees as source
use Rattle.syntax.specs.SourceTrees.{InitialTree, ParameterTree, StatementKindTree, BlockTree, DeclarationTree}
use Rattle.initializer_types.specs.DeclarationForms.{main_bytes, literal_condition, literal_integer}

-- `load(argv[1])`
abbrev pub IsLoaded : InitialTree → Type 0
IsLoaded (source.NewSet size) = ⊥
IsLoaded (source.Load argument) = argument ≡ pos 1
IsLoaded (source.Vertices edges) = ⊥
IsLoaded (source.OutDegrees edges) = ⊥
IsLoaded (source.Filter set test) = ⊥
IsLoaded (source.ApplyModified edges ends function vector) = ⊥
IsLoaded (source.Value e) = ⊥

-- `getVertices()`
abbrev pub IsAllVertices : InitialTree → Type 0
IsAllVertices (source.NewSet size) = ⊥
IsAllVertices (source.Load argument) = ⊥
IsAllVertices (source.Vertices edges) = Unit {0}
IsAllVertices (source.OutDegrees edges) = ⊥
IsAllVertices (source.Filter set test) = ⊥
IsAllVertices (source.ApplyModified edges ends function vector) = ⊥
IsAllVertices (source.Value e) = ⊥

-- `getOutDegrees()`
abbrev pub IsOutDegrees : InitialTree → Type 0
IsOutDegrees (source.NewSet size) = ⊥
IsOutDegrees (source.Load argument) = ⊥
IsOutDegrees (source.Vertices edges) = ⊥
IsOutDegrees (source.OutDegrees edges) = Unit {0}
IsOutDegrees (source.Filter set test) = ⊥
IsOutDegrees (source.ApplyModified edges ends function vector) = ⊥
IsOutDegrees (source.Value e) = ⊥

-- the value that a constant of each type has; none is a Vertex
abbrev pub ConstantFits : DeclaredType → InitialTree → Type 0
ConstantFits declared.Int initial = IsSome (literal_integer initial)
ConstantFits declared.Bool initial = IsSome (literal_condition initial)
ConstantFits declared.Vertex initial = ⊥
ConstantFits declared.VertexSet initial = IsAllVertices initial
ConstantFits declared.Vector initial = IsOutDegrees initial ⊎ IsSome (literal_integer initial)
ConstantFits declared.EdgeSet initial = IsLoaded initial
ConstantFits declared.WeightedEdgeSet initial = IsLoaded initial

-- variables of functions are int or bool
abbrev pub IsNumberOrTruth : DeclaredType → Type 0
IsNumberOrTruth declared.Int = Unit {0}
IsNumberOrTruth declared.Bool = Unit {0}
IsNumberOrTruth declared.Vertex = ⊥
IsNumberOrTruth declared.VertexSet = ⊥
IsNumberOrTruth declared.Vector = ⊥
IsNumberOrTruth declared.EdgeSet = ⊥
IsNumberOrTruth declared.WeightedEdgeSet = ⊥

abbrev mutual
  -- A function of a user holds declarations, `if`, assignments and reductions. It sets entries of vectors, or reduces them, where its kind may.
  pub ActionFits : (Sets Reduces : Type 0) → StatementKindTree → Type 0
  ActionFits Sets Reduces (source.Declare at variable initial) = IsNumberOrTruth variable.declared
  ActionFits Sets Reduces (source.While at test body) = ⊥
  ActionFits Sets Reduces (source.For at name first limit body) = ⊥
  ActionFits Sets Reduces (source.If at test body) = BlockFits Sets Reduces body
  ActionFits Sets Reduces (source.IfElse at test body otherwise) = BlockFits Sets Reduces body × BlockFits Sets Reduces otherwise
  ActionFits Sets Reduces (source.Print at e) = ⊥
  ActionFits Sets Reduces (source.Assign name initial) = Unit {0}
  ActionFits Sets Reduces (source.Reduce name by e) = Unit {0}
  ActionFits Sets Reduces (source.SetEntry vector index e) = Sets
  ActionFits Sets Reduces (source.ReduceEntry vector index by e) = Reduces
  ActionFits Sets Reduces (source.AddVertex set e) = ⊥
  ActionFits Sets Reduces (source.Apply target ends function) = ⊥

  pub BlockFits : (Sets Reduces : Type 0) → BlockTree → Type 0
  BlockFits Sets Reduces source.Empty = Unit {0}
  BlockFits Sets Reduces (source.Then label action others) = ActionFits Sets Reduces action × BlockFits Sets Reduces others

-- a vertex function, a filter, or an edge function, which may take the edge's weight; a filter writes no entry, and an edge function reduces alone
abbrev pub FunctionFits : List ParameterTree → Option ParameterTree → BlockTree → Type 0
FunctionFits [] result body = ⊥
FunctionFits (v ∷ []) None body = (v.declared ≡ declared.Vertex) × BlockFits (Unit {0}) (Unit {0}) body
FunctionFits (v ∷ []) (Some result) body = (v.declared ≡ declared.Vertex) × (result.declared ≡ declared.Bool) × BlockFits ⊥ ⊥ body
FunctionFits (src ∷ dst ∷ []) None body = (src.declared ≡ declared.Vertex) × (dst.declared ≡ declared.Vertex) × BlockFits ⊥ (Unit {0}) body
FunctionFits (src ∷ dst ∷ []) (Some result) body = ⊥
FunctionFits (src ∷ dst ∷ w ∷ []) None body =
    (src.declared ≡ declared.Vertex) × (dst.declared ≡ declared.Vertex) × (w.declared ≡ declared.Int) × BlockFits ⊥ (Unit {0}) body
FunctionFits (src ∷ dst ∷ w ∷ []) (Some result) body = ⊥
FunctionFits (a ∷ b ∷ c ∷ d ∷ others) result body = ⊥

-- constants, and functions of users
abbrev pub DeclarationFits : DeclarationTree → Type 0
DeclarationFits (source.Constant at p initial) = ConstantFits p.declared initial
DeclarationFits (source.Function at name parameters result body) = name.bytes ≢ main_bytes → FunctionFits parameters result body
