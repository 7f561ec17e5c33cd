-- Kept rules: sources that break no rule of types, said over the source alone, one case for each form of the language.
use Rattle.std.specs.Prelude.{[], ◌≡◌, ◌≢◌, ◌⊎◌, ℕ, suc, pos, Bool, true, false, nat_eq, List, ◌∷◌, ◌++◌, length, if◌then◌else◌, slice_index_or, Option, Some}
use Rattle.std.specs.Prelude.{None, IsSome}
use Rattle.std.specs.Str.{bytes_eq}
use Rattle.std.specs.Map.{lookup}
use Rattle.apply_options.specs.declared.reduction.Reduction.{Reduction}
use Rattle.syntax.specs.Terminals.{Identifier}
use Rattle.syntax.specs.SourceTrees.{ExpressionTree, InitialTree, EndsTree, ParameterTree, StatementKindTree, BlockTree, DeclarationTree, SourceTree}
use Rattle.syntax.specs.declared.declaration.DeclaredType.{DeclaredType}
use Rattle.syntax.specs.SourceTrees as source
use Rattle.syntax.specs.declared.declaration.DeclaredType.TheVariants as declared
use Rattle.typed_tree.specs.declared.expression.Endpoint.TheVariants as endpoint
use Rattle.expression_types.specs.declared.scope.Inside.{Inside}
use Rattle.expression_types.specs.declared.scope.Inside.TheVariants as inside
use Rattle.initializer_types.specs.DeclarationForms.{main_bytes, literal_condition, literal_integer}
use Rattle.type_laws.specs.EntryAccess.{HasNoEntry}
use Rattle.type_laws.specs.ExpressionTypes.{ExpressionHas, IsNumberExpression, IsTruth, IsVectorName, NameHas, Set, Vertex}
use Rattle.type_laws.specs.Meanings.{Known, IsNew, LabelIsNew, Meaning, Meanings, Means, MeansEdges, known_after, known_behind, labelled_known, with_meaning}
use Rattle.type_laws.specs.Meanings as meaning

-- initial and assigned values
abbrev pub GivesNumber : Meanings → Inside → InitialTree → Type 0
GivesNumber names i (source.NewSet size) = ⊥
GivesNumber names i (source.Load argument) = ⊥
GivesNumber names i (source.Vertices edges) = ⊥
GivesNumber names i (source.OutDegrees edges) = ⊥
GivesNumber names i (source.Filter set test) = ⊥
GivesNumber names i (source.ApplyModified edges ends function vector) = ⊥
GivesNumber names i (source.Value e) = IsNumberExpression names i e

abbrev pub GivesTruth : Meanings → Inside → InitialTree → Type 0
GivesTruth names i (source.NewSet size) = ⊥
GivesTruth names i (source.Load argument) = ⊥
GivesTruth names i (source.Vertices edges) = ⊥
GivesTruth names i (source.OutDegrees edges) = ⊥
GivesTruth names i (source.Filter set test) = ⊥
GivesTruth names i (source.ApplyModified edges ends function vector) = ⊥
GivesTruth names i (source.Value e) = IsTruth names i e

-- `from` and `to` take a vertex set or a filter
abbrev pub EndFits : Meanings → Option Identifier → Type 0
EndFits names None = Unit {0}
EndFits names (Some name) = NameHas names name Set ⊎ Means names name meaning.Filter

abbrev pub EndsFit : Meanings → EndsTree → Type 0
EndsFit names ends = EndFits names ends.from × EndFits names ends.to

-- a function that takes the weight goes with edges that have weights alone
abbrev pub SeesWeights : (weights weighted : Bool) → Type 0
SeesWeights weights true = weights ≡ true
SeesWeights weights false = Unit {0}

-- `applyModified` takes an edge function and a vector that it writes
pub record Modifies (k : Known) (edges function vector : Identifier) : Type 0 where
  pub weights : Bool
  pub index : ℕ
  pub weighted : Bool
  pub written : ℕ
  pub by : Reduction
  pub edges_mean : Means k.names edges (meaning.Edges weights)
  pub function_means : Means k.names function (meaning.EdgeFunction index weighted)
  pub sees : SeesWeights weights weighted
  pub vector_means : Means k.names vector (meaning.Vector written)
  pub writes : lookup (nat_eq written) (slice_index_or k.written index []) ≡ Some by

abbrev pub GivesMembers : Known → Inside → InitialTree → Type 0
GivesMembers k i (source.NewSet size) = size ≡ pos 0
GivesMembers k i (source.Load argument) = ⊥
GivesMembers k i (source.Vertices edges) = MeansEdges k.names edges
GivesMembers k i (source.OutDegrees edges) = ⊥
GivesMembers k i (source.Filter set test) = NameHas k.names set Set × Means k.names test meaning.Filter
GivesMembers k i (source.ApplyModified edges ends function vector) = EndsFit k.names ends × Modifies k edges function vector
GivesMembers k i (source.Value e) = ExpressionHas k.names i e Set

-- a variable of main is int, bool or a vertex set, and one of a function int or bool
abbrev pub MayHoldSets : Inside → Type 0
MayHoldSets inside.Main = Unit {0}
MayHoldSets inside.EdgeFunction = ⊥
MayHoldSets inside.VertexFunction = ⊥
MayHoldSets inside.Filter = ⊥

abbrev pub VariableFits : Inside → Known → DeclaredType → InitialTree → Type 0
VariableFits i k declared.Int initial = GivesNumber k.names i initial
VariableFits i k declared.Bool initial = GivesTruth k.names i initial
VariableFits i k declared.Vertex initial = ⊥
VariableFits i k declared.VertexSet initial = MayHoldSets i × GivesMembers k i initial
VariableFits i k declared.Vector initial = ⊥
VariableFits i k declared.EdgeSet initial = ⊥
VariableFits i k declared.WeightedEdgeSet initial = ⊥

-- assigned are variables, and a filter's result
pub data AssignFits (i : Inside) (k : Known) (name : Identifier) (initial : InitialTree) : Type 0 where
  AssignsNumber : Means k.names name meaning.NumberVariable → GivesNumber k.names i initial → AssignFits i k name initial
  AssignsTruth : Means k.names name meaning.TruthVariable → GivesTruth k.names i initial → AssignFits i k name initial
  AssignsSet : Means k.names name meaning.SetVariable → MayHoldSets i → GivesMembers k i initial → AssignFits i k name initial

-- edge functions are applied to the edges, and vertex functions to vertex sets, which have no ends
pub data ApplyFits (k : Known) (target : Identifier) (ends : EndsTree) (function : Identifier) : Type 0 where
  AppliesEdges : (weights : Bool) (index : ℕ) (weighted : Bool) → Means k.names target (meaning.Edges weights) → EndsFit k.names ends
      → Means k.names function (meaning.EdgeFunction index weighted) → SeesWeights weights weighted → ApplyFits k target ends function
  AppliesVertices : NameHas k.names target Set → ends.from ≡ None → ends.to ≡ None → Means k.names function meaning.VertexFunction
      → ApplyFits k target ends function

-- a vertex function alone sets entries; an edge function reduces a vector as it did before, if it did
abbrev pub MaySet : Inside → Type 0
MaySet inside.Main = Unit {0}
MaySet inside.EdgeFunction = ⊥
MaySet inside.VertexFunction = Unit {0}
MaySet inside.Filter = ⊥

abbrev pub AgreesWith : Option Reduction → Reduction → Type 0
AgreesWith None by = Unit {0}
AgreesWith (Some first) by = first ≡ by

abbrev pub MayReduce : Inside → Known → ℕ → Reduction → Type 0
MayReduce inside.Main k vector by = Unit {0}
MayReduce inside.EdgeFunction k vector by = AgreesWith (lookup (nat_eq vector) k.reduced) by
MayReduce inside.VertexFunction k vector by = Unit {0}
MayReduce inside.Filter k vector by = ⊥

-- an index at which an entry is written
abbrev pub WrittenAt : Inside → Meanings → ExpressionTree → Type 0
WrittenAt inside.Main names index = IsNumberExpression names inside.Main index × HasNoEntry index
WrittenAt inside.EdgeFunction names index = ExpressionHas names inside.EdgeFunction index (Vertex endpoint.Destination)
WrittenAt inside.VertexFunction names index = ExpressionHas names inside.VertexFunction index (Vertex endpoint.Source)
WrittenAt inside.Filter names index = ⊥

pub record ReducesEntry (i : Inside) (k : Known) (vector : Identifier) (subscript : ExpressionTree) (by : Reduction) (e : ExpressionTree) : Type 0 where
  pub index : ℕ
  pub means : Means k.names vector (meaning.Vector index)
  pub may : MayReduce i k index by
  pub at : WrittenAt i k.names subscript
  pub value : IsNumberExpression k.names i e

-- what main alone may hold
abbrev pub IsMain : Inside → Type 0
IsMain inside.Main = Unit {0}
IsMain inside.EdgeFunction = ⊥
IsMain inside.VertexFunction = ⊥
IsMain inside.Filter = ⊥

abbrev mutual
  -- a statement of main or of a function of a user, its label aside
  pub ActionKeeps : Inside → Known → StatementKindTree → Type 0
  ActionKeeps i k (source.Declare at p initial) = VariableFits i k p.declared initial × IsNew k p.name
  ActionKeeps i k (source.While at test body) = IsMain i × IsTruth k.names i test × BlockKeeps i k body
  ActionKeeps i k (source.For at name first limit body) =
      IsMain i × IsNumberExpression k.names i first × IsNumberExpression k.names i limit × IsNew k name
      × BlockKeeps i (with_meaning k name meaning.LoopName) body
  ActionKeeps i k (source.If at test body) = IsTruth k.names i test × BlockKeeps i k body
  ActionKeeps i k (source.IfElse at test body otherwise) =
      IsTruth k.names i test × BlockKeeps i k body × BlockKeeps i (meaning.closed_known k (known_after i k body)) otherwise
  ActionKeeps i k (source.Print at e) = IsMain i × (IsNumberExpression k.names i e ⊎ IsTruth k.names i e)
  ActionKeeps i k (source.Assign name initial) = AssignFits i k name initial
  ActionKeeps i k (source.Reduce name by e) = Means k.names name meaning.NumberVariable × IsNumberExpression k.names i e
  ActionKeeps i k (source.SetEntry vector index e) = MaySet i × IsVectorName k.names vector × WrittenAt i k.names index × IsNumberExpression k.names i e
  ActionKeeps i k (source.ReduceEntry vector index by e) = ReducesEntry i k vector index by e
  ActionKeeps i k (source.AddVertex set e) = IsMain i × Means k.names set meaning.SetVariable × IsNumberExpression k.names i e
  ActionKeeps i k (source.Apply target ends function) = IsMain i × ApplyFits k target ends function

  pub BlockKeeps : Inside → Known → BlockTree → Type 0
  BlockKeeps i k source.Empty = Unit {0}
  BlockKeeps i k (source.Then label action others) =
      LabelIsNew k label × ActionKeeps i (labelled_known k label) action × BlockKeeps i (known_behind i (labelled_known k label) action) others

-- what is known after declarations: the names and labels, how many vectors there are, and whether the edges and main were declared
pub record Declarations : Type 0 where
  pub known : Known
  pub vectors : ℕ
  pub edges : Bool
  pub main : Bool

-- what a constant is, and the value that it has; none is a Vertex, and one is the edges
abbrev pub ConstantKeeps : Declarations → DeclaredType → InitialTree → Type 0
ConstantKeeps d declared.Int initial = IsSome (literal_integer initial)
ConstantKeeps d declared.Bool initial = IsSome (literal_condition initial)
ConstantKeeps d declared.Vertex initial = ⊥
ConstantKeeps d declared.VertexSet (source.Vertices edges) = MeansEdges d.known.names edges
ConstantKeeps d declared.VertexSet _ = ⊥
ConstantKeeps d declared.Vector (source.OutDegrees edges) = MeansEdges d.known.names edges
ConstantKeeps d declared.Vector initial = IsSome (literal_integer initial)
ConstantKeeps d declared.EdgeSet (source.Load argument) = (argument ≡ pos 1) × (d.edges ≡ false)
ConstantKeeps d declared.WeightedEdgeSet (source.Load argument) = (argument ≡ pos 1) × (d.edges ≡ false)
ConstantKeeps d declared.EdgeSet _ = ⊥
ConstantKeeps d declared.WeightedEdgeSet _ = ⊥

abbrev pub constant_meaning : ℕ → DeclaredType → Meaning
constant_meaning vectors declared.Int = meaning.NumberConstant
constant_meaning vectors declared.Bool = meaning.TruthConstant
constant_meaning vectors declared.Vertex = meaning.Nothing
constant_meaning vectors declared.VertexSet = meaning.ConstantSet
constant_meaning vectors declared.Vector = meaning.Vector vectors
constant_meaning vectors declared.EdgeSet = meaning.Edges false
constant_meaning vectors declared.WeightedEdgeSet = meaning.Edges true

abbrev pub counted_vectors : DeclaredType → ℕ → ℕ
counted_vectors declared.Vector n = suc n
counted_vectors _ n = n

abbrev pub edges_after : DeclaredType → Bool → Bool
edges_after declared.EdgeSet b = true
edges_after declared.WeightedEdgeSet b = true
edges_after _ b = b

abbrev pub after_constant : Declarations → ParameterTree → Declarations
after_constant d p = record {
  known = with_meaning d.known p.name (constant_meaning d.vectors p.declared);
  vectors = counted_vectors p.declared d.vectors;
  edges = edges_after p.declared d.edges;
  main = d.main;
}

-- what is known at the first statement of main and of each kind of function
abbrev pub known_in_main : Known → Known
known_in_main k = record k { reduced = [] }

abbrev pub known_at_vertex : Known → ParameterTree → Known
known_at_vertex k v = with_meaning (known_in_main k) v.name (meaning.Parameter endpoint.Source)

abbrev pub known_in_filter : Known → (v test : ParameterTree) → Known
known_in_filter k v test = with_meaning (known_at_vertex k v) test.name meaning.TruthVariable

abbrev pub known_on_edge : Known → (src dst : ParameterTree) → Known
known_on_edge k src dst = with_meaning (known_at_vertex k src) dst.name (meaning.Parameter endpoint.Destination)

abbrev pub known_on_weighted_edge : Known → (src dst w : ParameterTree) → Known
known_on_weighted_edge k src dst w = with_meaning (known_on_edge k src dst) w.name meaning.Weight

-- A function has one Vertex parameter, or one and a result of type bool, or two and no result, or two and the weight and no result.
abbrev pub FunctionKeeps : Known → List ParameterTree → Option ParameterTree → BlockTree → Type 0
FunctionKeeps k [] result body = ⊥
FunctionKeeps k (v ∷ []) None body = (v.declared ≡ declared.Vertex) × IsNew k v.name × BlockKeeps inside.VertexFunction (known_at_vertex k v) body
FunctionKeeps k (v ∷ []) (Some test) body =
    (v.declared ≡ declared.Vertex) × (test.declared ≡ declared.Bool) × IsNew k v.name × IsNew (known_at_vertex k v) test.name
    × BlockKeeps inside.Filter (known_in_filter k v test) body
FunctionKeeps k (src ∷ dst ∷ []) None body =
    (src.declared ≡ declared.Vertex) × (dst.declared ≡ declared.Vertex) × IsNew k src.name × IsNew (known_at_vertex k src) dst.name
    × BlockKeeps inside.EdgeFunction (known_on_edge k src dst) body
FunctionKeeps k (src ∷ dst ∷ []) (Some result) body = ⊥
FunctionKeeps k (src ∷ dst ∷ w ∷ []) None body =
    (src.declared ≡ declared.Vertex) × (dst.declared ≡ declared.Vertex) × (w.declared ≡ declared.Int)
    × IsNew k src.name × IsNew (known_at_vertex k src) dst.name × IsNew (known_on_edge k src dst) w.name
    × BlockKeeps inside.EdgeFunction (known_on_weighted_edge k src dst w) body
FunctionKeeps k (src ∷ dst ∷ w ∷ []) (Some result) body = ⊥
FunctionKeeps k (a ∷ b ∷ c ∷ d ∷ others) result body = ⊥

-- the function that is run has no parameters and no result
abbrev pub MainKeeps : Known → List ParameterTree → Option ParameterTree → BlockTree → Type 0
MainKeeps k parameters result body = (parameters ≡ []) × (result ≡ None) × BlockKeeps inside.Main (known_in_main k) body

-- after a function its name is visible, and those in it are forgotten
abbrev pub after_main : Declarations → Identifier → BlockTree → Declarations
after_main d name body =
    record d { known = with_meaning (meaning.closed_known d.known (known_after inside.Main (known_in_main d.known) body)) name meaning.Main; main = true }

abbrev pub function_after : Declarations → Identifier → Meaning → Known → Declarations
function_after d name m after = record d { known = with_meaning (meaning.closed_known d.known after) name m }

-- what an edge function reduces is kept
abbrev pub edge_function_after : Declarations → Identifier → (weighted : Bool) → Known → Declarations
edge_function_after d name weighted after =
    record d {
      known = record (with_meaning (meaning.closed_known d.known after) name (meaning.EdgeFunction (length d.known.written) weighted)) {
        written =
            after.written ++ after.reduced ∷ [];
      };
    }

abbrev pub after_function : Declarations → Identifier → List ParameterTree → Option ParameterTree → BlockTree → Declarations
after_function d name [] result body = d
after_function d name (v ∷ []) None body = function_after d name meaning.VertexFunction (known_after inside.VertexFunction (known_at_vertex d.known v) body)
after_function d name (v ∷ []) (Some test) body = function_after d name meaning.Filter (known_after inside.Filter (known_in_filter d.known v test) body)
after_function d name (src ∷ dst ∷ []) None body = edge_function_after d name false (known_after inside.EdgeFunction (known_on_edge d.known src dst) body)
after_function d name (src ∷ dst ∷ []) (Some result) body = d
after_function d name (src ∷ dst ∷ w ∷ []) None body =
    edge_function_after d name true (known_after inside.EdgeFunction (known_on_weighted_edge d.known src dst w) body)
after_function d name (src ∷ dst ∷ w ∷ []) (Some result) body = d
after_function d name (a ∷ b ∷ c ∷ e ∷ others) result body = d

-- a declaration, whose name is new; the function that is run is the one named `main`
abbrev pub DeclarationKeeps : Declarations → DeclarationTree → Type 0
DeclarationKeeps d (source.Constant at p initial) = ConstantKeeps d p.declared initial × IsNew d.known p.name
DeclarationKeeps d (source.Function at name parameters result body) =
    IsNew d.known name × (name.bytes ≡ main_bytes → MainKeeps d.known parameters result body)
    × (name.bytes ≢ main_bytes → FunctionKeeps d.known parameters result body)

abbrev pub after_declaration : Declarations → DeclarationTree → Declarations
after_declaration d (source.Constant at p initial) = after_constant d p
after_declaration d (source.Function at name parameters result body) =
    if bytes_eq name.bytes main_bytes then after_main d name body else after_function d name parameters result body

-- each declaration, after those before it; and one is main
abbrev pub DeclarationsKeep : Declarations → List DeclarationTree → Type 0
DeclarationsKeep d [] = d.main ≡ true
DeclarationsKeep d (x ∷ others) = DeclarationKeeps d x × DeclarationsKeep (after_declaration d x) others

abbrev pub nothing_declared : Declarations
nothing_declared = record { known = record { names = []; labels = []; reduced = []; written = [] }; vectors = 0; edges = false; main = false }

-- a source that breaks no rule of types
abbrev pub KeepsRules : SourceTree → Type 0
KeepsRules source = DeclarationsKeep nothing_declared source.declarations
