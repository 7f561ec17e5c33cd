-- Values: typed expressions, without pointers.
use Rattle.std.specs.Prelude.{ℕ, Bool, true, false, ◌||◌, Option, Some, None}
use Rattle.typed_tree.specs.declared.expression.Endpoint.{Endpoint}
use Rattle.typed_tree.specs.declared.expression.VarRef.{VarRef}
use Rattle.typed_tree.specs.IntExpressionTree.{IntExpressionTree, int_expression_tree}
use Rattle.typed_tree.specs.BoolExpressionTree.{BoolExpressionTree, bool_expression_tree}
use Rattle.typed_tree.specs.IntExpressionTree as integer
use Rattle.typed_tree.specs.BoolExpressionTree as condition
use Rattle.expression_types.specs.declared.scope.Entity.{Entity}
use Rattle.expression_types.specs.declared.value.Value.{Value}
use Rattle.expression_types.specs.declared.scope.Entity.TheVariants as entity
use Rattle.expression_types.specs.declared.value.Value.TheVariants as rust

-- an expression of type int, bool, Vertex or vertexset{Vertex}, or one with a faulty part
pub data ValueTree : Type 0 where
  Integer : IntExpressionTree → ValueTree
  Condition : BoolExpressionTree → ValueTree
  Vertex : Endpoint → ValueTree
  Set : VarRef → ValueTree
  ErrorValue : ValueTree

-- the tree that a Rust tree is
abbrev pub value_tree : Value → ValueTree
value_tree (rust.Integer e) = Integer (int_expression_tree e)
value_tree (rust.Condition c) = Condition (bool_expression_tree c)
value_tree (rust.Vertex at) = Vertex at
value_tree (rust.Set slot) = Set slot
value_tree rust.Error = ErrorValue

abbrev pub is_error : ValueTree → Bool
is_error (Integer e) = false
is_error (Condition c) = false
is_error (Vertex at) = false
is_error (Set slot) = false
is_error ErrorValue = true

abbrev pub is_condition : ValueTree → Bool
is_condition (Integer e) = false
is_condition (Condition c) = true
is_condition (Vertex at) = false
is_condition (Set slot) = false
is_condition ErrorValue = false

-- the vertex of a function that it is
abbrev pub as_vertex : ValueTree → Option Endpoint
as_vertex (Integer e) = None
as_vertex (Condition c) = None
as_vertex (Vertex at) = Some at
as_vertex (Set slot) = None
as_vertex ErrorValue = None

-- the vertex set that it is
abbrev pub as_set : ValueTree → Option VarRef
as_set (Integer e) = None
as_set (Condition c) = None
as_set (Vertex at) = None
as_set (Set slot) = Some slot
as_set ErrorValue = None

-- the value that a name has alone, where it has one
abbrev pub named_value : Entity → Option ValueTree
named_value (entity.Edges weights) = None
named_value (entity.Vector index) = None
named_value (entity.ConstantSet slot) = Some (Set slot)
named_value (entity.IntConstant name n) = Some (Integer (integer.Constant name n))
named_value (entity.BoolConstant name b) = Some (Condition (condition.Constant name b))
named_value (entity.IntVariable slot) = Some (Integer (integer.Variable slot))
named_value (entity.BoolVariable slot) = Some (Condition (condition.Variable slot))
named_value (entity.SetVariable slot) = Some (Set slot)
named_value (entity.LoopVariable slot) = Some (Integer (integer.Variable slot))
named_value (entity.Parameter at) = Some (Vertex at)
named_value entity.Weight = Some (Integer integer.Weight)
named_value (entity.EdgeFunction index weighted) = None
named_value (entity.VertexFunction index) = None
named_value (entity.Filter index) = None
named_value entity.Main = None
named_value entity.Error = Some ErrorValue

-- the vector that a name is
abbrev pub named_vector : Entity → Option ℕ
named_vector (entity.Edges weights) = None
named_vector (entity.Vector index) = Some index
named_vector (entity.ConstantSet slot) = None
named_vector (entity.IntConstant name n) = None
named_vector (entity.BoolConstant name b) = None
named_vector (entity.IntVariable slot) = None
named_vector (entity.BoolVariable slot) = None
named_vector (entity.SetVariable slot) = None
named_vector (entity.LoopVariable slot) = None
named_vector (entity.Parameter at) = None
named_vector entity.Weight = None
named_vector (entity.EdgeFunction index weighted) = None
named_vector (entity.VertexFunction index) = None
named_vector (entity.Filter index) = None
named_vector entity.Main = None
named_vector entity.Error = None

-- the vertex set that a name is
abbrev pub entity_set : Entity → Option VarRef
entity_set (entity.Edges weights) = None
entity_set (entity.Vector index) = None
entity_set (entity.ConstantSet slot) = Some slot
entity_set (entity.IntConstant name n) = None
entity_set (entity.BoolConstant name b) = None
entity_set (entity.IntVariable slot) = None
entity_set (entity.BoolVariable slot) = None
entity_set (entity.SetVariable slot) = Some slot
entity_set (entity.LoopVariable slot) = None
entity_set (entity.Parameter at) = None
entity_set entity.Weight = None
entity_set (entity.EdgeFunction index weighted) = None
entity_set (entity.VertexFunction index) = None
entity_set (entity.Filter index) = None
entity_set entity.Main = None
entity_set entity.Error = None

-- the integer that a value reads as: a vertex reads as its number
abbrev pub as_integer : ValueTree → Option IntExpressionTree
as_integer (Integer e) = Some e
as_integer (Condition c) = None
as_integer (Vertex at) = Some (integer.Parameter at)
as_integer (Set slot) = None
as_integer ErrorValue = None

abbrev pub as_condition : ValueTree → Option BoolExpressionTree
as_condition (Integer e) = None
as_condition (Condition c) = Some c
as_condition (Vertex at) = None
as_condition (Set slot) = None
as_condition ErrorValue = None

-- an entry of a vector is read in it
abbrev pub reads_entry : IntExpressionTree → Bool
reads_entry (integer.Number n) = false
reads_entry (integer.Constant name n) = false
reads_entry (integer.Variable slot) = false
reads_entry (integer.Parameter at) = false
reads_entry integer.Weight = false
reads_entry (integer.EntryAt vector at) = true
reads_entry (integer.Entry vector index) = true
reads_entry (integer.SetSize slot) = false
reads_entry (integer.Negative e) = reads_entry e
reads_entry (integer.Arithmetic operator left right) = reads_entry left || reads_entry right

-- whether a condition reads an entry of a vector
abbrev pub condition_reads_entry : BoolExpressionTree → Bool
condition_reads_entry (condition.Literal b) = false
condition_reads_entry (condition.Constant name b) = false
condition_reads_entry (condition.Variable slot) = false
condition_reads_entry (condition.Not c) = condition_reads_entry c
condition_reads_entry (condition.Compare o left right) = reads_entry left || reads_entry right
condition_reads_entry (condition.Connect o left right) = condition_reads_entry left || condition_reads_entry right
