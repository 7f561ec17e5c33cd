-- Declarations by their form alone: the literals that constants of type int or bool, and vectors, may be declared to be; and the kinds of functions.
use Rattle.std.specs.Prelude.{ℕ, ℤ, pos, negsuc, neg_ℤ, Bool, true, false, ◌&&◌, if◌then◌else◌, List, [], ◌∷◌, Option, Some, None}
use Rattle.std.specs.Str.{bytes_eq}
use Rattle.syntax.specs.declared.declaration.DeclaredType.{DeclaredType}
use Rattle.syntax.specs.declared.declaration.DeclaredType.TheVariants as declared
use Rattle.syntax.specs.declared.operators.Prefix.TheVariants as prefix
use Rattle.syntax.specs.SourceTrees as tree
use Rattle.syntax.specs.SourceTrees.{ExpressionTree, UnaryTree, PrimaryTree, ParameterTree, InitialTree, NewSet, Load, Vertices, OutDegrees, Filter, ApplyModified, Value}
use Rattle.syntax.specs.Nesting.{◌>>=◌}
use Rattle.expression_types.specs.BareNames.{only_operand}

-- a number without its sign is changed; a source has no other
abbrev pub negated_literal : ℤ → Option ℤ
negated_literal (pos n) = Some (neg_ℤ (pos n))
negated_literal (negsuc n) = None

-- a literal of type int is a number, after one `-` or none
abbrev pub primary_number : PrimaryTree → Option ℤ
primary_number (tree.Literal n) = Some n
primary_number (tree.Truth b) = None
primary_number (tree.Variable name) = None
primary_number (tree.Entry name index) = None
primary_number (tree.Size name) = None
primary_number (tree.Parentheses inside) = None

abbrev pub unary_number : UnaryTree → Option ℤ
unary_number (tree.Bare p) = primary_number p
unary_number (tree.Signed prefix.Minus (tree.Bare p)) = primary_number p >>= negated_literal
unary_number (tree.Signed prefix.Minus (tree.Signed sign u)) = None
unary_number (tree.Signed prefix.Not u) = None

-- a literal of type bool
abbrev pub primary_truth : PrimaryTree → Option Bool
primary_truth (tree.Literal n) = None
primary_truth (tree.Truth b) = Some b
primary_truth (tree.Variable name) = None
primary_truth (tree.Entry name index) = None
primary_truth (tree.Size name) = None
primary_truth (tree.Parentheses inside) = None

abbrev pub unary_truth : UnaryTree → Option Bool
unary_truth (tree.Bare p) = primary_truth p
unary_truth (tree.Signed sign u) = None

-- the literal that an expression is
abbrev pub expression_integer : ExpressionTree → Option ℤ
expression_integer e = only_operand e >>= unary_number

abbrev pub expression_truth : ExpressionTree → Option Bool
expression_truth e = only_operand e >>= unary_truth

-- the literal that a constant is
abbrev pub literal_integer : InitialTree → Option ℤ
literal_integer (NewSet size) = None
literal_integer (Load argument) = None
literal_integer (Vertices edges) = None
literal_integer (OutDegrees edges) = None
literal_integer (Filter set test) = None
literal_integer (ApplyModified edges ends function vector) = None
literal_integer (Value e) = expression_integer e

abbrev pub literal_condition : InitialTree → Option Bool
literal_condition (NewSet size) = None
literal_condition (Load argument) = None
literal_condition (Vertices edges) = None
literal_condition (OutDegrees edges) = None
literal_condition (Filter set test) = None
literal_condition (ApplyModified edges ends function vector) = None
literal_condition (Value e) = expression_truth e

-- what a function is, by its name, its parameters and its result; of an edge function whether its third parameter is the edge's weight
pub data FunctionKindTree : Type 0 where
  MainKind : (fits : Bool) → FunctionKindTree
  EdgeKind : (weighted : Bool) → FunctionKindTree
  VertexKind : FunctionKindTree
  FilterKind : FunctionKindTree
  NoKind : FunctionKindTree

-- `main`
abbrev pub main_bytes : List ℕ
main_bytes = 109 ∷ 97 ∷ 105 ∷ 110 ∷ []

abbrev pub is_vertex_type : DeclaredType → Bool
is_vertex_type declared.Int = false
is_vertex_type declared.Bool = false
is_vertex_type declared.Vertex = true
is_vertex_type declared.VertexSet = false
is_vertex_type declared.Vector = false
is_vertex_type declared.EdgeSet = false
is_vertex_type declared.WeightedEdgeSet = false

abbrev pub is_int_type : DeclaredType → Bool
is_int_type declared.Int = true
is_int_type declared.Bool = false
is_int_type declared.Vertex = false
is_int_type declared.VertexSet = false
is_int_type declared.Vector = false
is_int_type declared.EdgeSet = false
is_int_type declared.WeightedEdgeSet = false

abbrev pub is_bool_type : DeclaredType → Bool
is_bool_type declared.Int = false
is_bool_type declared.Bool = true
is_bool_type declared.Vertex = false
is_bool_type declared.VertexSet = false
is_bool_type declared.Vector = false
is_bool_type declared.EdgeSet = false
is_bool_type declared.WeightedEdgeSet = false

abbrev pub takes_nothing : List ParameterTree → Option ParameterTree → Bool
takes_nothing [] None = true
takes_nothing [] (Some result) = false
takes_nothing (p ∷ others) result = false

abbrev pub kind_of : List ParameterTree → Option ParameterTree → FunctionKindTree
kind_of [] result = NoKind
kind_of (v ∷ []) None = if is_vertex_type v.declared then VertexKind else NoKind
kind_of (v ∷ []) (Some result) = if is_vertex_type v.declared && is_bool_type result.declared then FilterKind else NoKind
kind_of (src ∷ dst ∷ []) None = if is_vertex_type src.declared && is_vertex_type dst.declared then EdgeKind false else NoKind
kind_of (src ∷ dst ∷ []) (Some result) = NoKind
kind_of (src ∷ dst ∷ w ∷ []) None = if is_vertex_type src.declared && is_vertex_type dst.declared && is_int_type w.declared then EdgeKind true else NoKind
kind_of (src ∷ dst ∷ w ∷ []) (Some result) = NoKind
kind_of (a ∷ b ∷ c ∷ d ∷ others) result = NoKind

abbrev pub kind : List ℕ → List ParameterTree → Option ParameterTree → FunctionKindTree
kind name parameters result = if bytes_eq name main_bytes then MainKind (takes_nothing parameters result) else kind_of parameters result
