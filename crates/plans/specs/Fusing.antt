-- Two applies that are done together.
use Rattle.std.specs.Prelude.{[], ℕ, nat_eq, Bool, true, false, ◌&&◌, List, ◌∷◌, ◌++◌, if◌then◌else◌, Option, Some, None}
use Rattle.apply_options.specs.declared.apply_schedule.Fused.{Fused}
use Rattle.apply_options.specs.declared.apply_schedule.Fused.TheVariants.{With, Into}
use Rattle.apply_options.specs.ScheduleTree.{ScheduleTree, apply_schedule_at}
use Rattle.typed_tree.specs.declared.accesses.Access.{Access}
use Rattle.typed_tree.specs.declared.accesses.Access.TheVariants.{ReadAtVertex, ReadAtIndex, ReadSet, Write}
use Rattle.typed_tree.specs.declared.expression.VarRef.{VarRef}
use Rattle.typed_tree.specs.declared.statement.VertexFilter.{VertexFilter}
use Rattle.typed_tree.specs.declared.statement.ApplyEnds.{ApplyEnds}
use Rattle.typed_tree.specs.declared.statement.SetValue.{SetValue}
use Rattle.typed_tree.specs.FunctionStatementTree.{FunctionTree}
use Rattle.typed_tree.specs.BlockTree.{StatementKindTree, BlockTree, Empty, Then}
use Rattle.typed_tree.specs.ProgramTree.{ProgramTree}
use Rattle.typed_tree.specs.declared.apply.StatementApply.{StatementApply}
use Rattle.typed_tree.specs.declared.apply.StatementApply.TheVariants.{Edges}
use Rattle.typed_tree.specs.Independence.{are_apart, function_writes, are_independent}
use Rattle.typed_tree.specs.Fold.{all_pass, end_fold, function_fold, gathered}
use Rattle.typed_tree.specs.declared.statement.VertexFilter.TheVariants as end
use Rattle.typed_tree.specs.declared.statement.SetValue.TheVariants as set
use Rattle.typed_tree.specs.BlockTree as block
use Rattle.algorithm_meaning.specs.declared.state.Depth.{Depth}
use Rattle.plans.specs.Instruction.{ResultTree, Dropped, Declared, Assigned, EdgePartTree, OperationTree, ApplyEdgesTogether, ApplyVerticesTogether}

-- an edge apply, and a vertex apply
pub record EdgeApplyTree : Type 0 where
  pub ends : ApplyEnds
  pub part : EdgePartTree

pub record VertexApplyTree : Type 0 where
  pub set : VarRef
  pub function : ℕ

-- the edge apply of which a set gets what it changed
abbrev pub modifying : (ℕ → ResultTree) → SetValue → Option EdgeApplyTree
modifying result (set.Modified ends function vector) = Some (record { ends = ends; part = record { function = function; result = result vector } })
modifying result set.Empty = None
modifying result set.All = None
modifying result (set.Copy slot) = None
modifying result (set.Filter slot function) = None

-- the edge apply, or the vertex apply, that a statement is
abbrev pub edge_apply_of : StatementKindTree → Option EdgeApplyTree
edge_apply_of (block.Simple (block.ApplyEdges ends function)) = Some (record { ends = ends; part = record { function = function; result = Dropped } })
edge_apply_of (block.Simple (block.DeclareSet name value)) = modifying (Declared name) value
edge_apply_of (block.Simple (block.AssignSet slot value)) = modifying (Assigned slot) value
edge_apply_of _ = None

abbrev pub vertex_apply_of : StatementKindTree → Option VertexApplyTree
vertex_apply_of (block.Simple (block.ApplyVertex set function)) = Some (record { set = set; function = function })
vertex_apply_of _ = None

-- the index of the set that gets what an edge apply changed, where so many sets are visible; its name; and the vector
abbrev pub result_indices : Depth → ResultTree → List ℕ
result_indices d Dropped = []
result_indices d (Declared name vector) = d.sets ∷ []
result_indices d (Assigned slot vector) = slot.index ∷ []

abbrev pub result_name : ResultTree → Option ℕ
result_name Dropped = None
result_name (Declared name vector) = Some name
result_name (Assigned slot vector) = Some slot.name

abbrev pub result_vectors : ResultTree → List ℕ
result_vectors Dropped = []
result_vectors (Declared name vector) = vector ∷ []
result_vectors (Assigned slot vector) = vector ∷ []

-- the vertex set that an access reads
abbrev pub set_of : Access → List ℕ
set_of (ReadAtVertex vector) = []
set_of (ReadAtIndex vector) = []
set_of (ReadSet index) = index ∷ []
set_of (Write vector) = []

abbrev pub function_sizes : List FunctionTree → ℕ → List ℕ
function_sizes functions index = function_fold (gathered set_of) functions index

-- the vertex sets that an end of an edge apply depends on
abbrev pub end_sets : List FunctionTree → Option VertexFilter → List ℕ
end_sets filters end = end_fold (gathered set_of) filters end

-- the vertex sets that an edge apply depends on
abbrev pub sets_read : ProgramTree → EdgeApplyTree → List ℕ
sets_read p x = end_sets p.filters x.ends.from ++ (end_sets p.filters x.ends.to ++ function_sizes p.edge_functions x.part.function)

-- two ends are the set, or the filter, at the same index, or none is given
abbrev pub is_same_end : Option VertexFilter → Option VertexFilter → Bool
is_same_end None None = true
is_same_end None (Some b) = false
is_same_end (Some a) None = false
is_same_end (Some (end.Members a)) (Some (end.Members b)) = nat_eq a.index b.index
is_same_end (Some (end.Members a)) (Some (end.Function g)) = false
is_same_end (Some (end.Function f)) (Some (end.Members b)) = false
is_same_end (Some (end.Function f)) (Some (end.Function g)) = nat_eq f g

-- an edge apply as the rules of schedules speak of it
abbrev pub apply_tree : EdgeApplyTree → StatementApply
apply_tree x = Edges x.ends x.part.function (result_name x.part.result)

-- The second of two edge applies gives the same after the first as beside it: the ends are the same, the two are independent, the second
-- depends on no set that the first changes, and neither is asked for a vector that the other writes.
abbrev pub edges_fit : ProgramTree → Depth → EdgeApplyTree → EdgeApplyTree → Bool
edges_fit p d x y =
    (is_same_end x.ends.from y.ends.from && is_same_end x.ends.to y.ends.to)
    && (are_independent p (apply_tree x) (apply_tree y)
    && (are_apart (sets_read p y) (result_indices d x.part.result)
    && (are_apart (result_vectors x.part.result) (function_writes p.edge_functions y.part.function)
    && are_apart (result_vectors y.part.result) (function_writes p.edge_functions x.part.function))))

-- an access is to no entry at an index, and so to none but those of the vertex that its function works on
abbrev pub is_local : Access → Bool
is_local (ReadAtVertex vector) = true
is_local (ReadAtIndex vector) = false
is_local (ReadSet index) = true
is_local (Write vector) = true

abbrev pub function_is_local : List FunctionTree → ℕ → Bool
function_is_local functions index = function_fold (all_pass is_local) functions index

-- two vertex applies to the same set, of functions that work on their own vertex alone
abbrev pub vertices_fit : ProgramTree → VertexApplyTree → VertexApplyTree → Bool
vertices_fit p x y =
    nat_eq x.set.index y.set.index
    && (function_is_local p.vertex_functions x.function && function_is_local p.vertex_functions y.function)

-- two applies together, where they fit
abbrev pub fused_edges : ProgramTree → Depth → Option EdgeApplyTree → Option EdgeApplyTree → Option OperationTree
fused_edges p d None b = None
fused_edges p d (Some x) None = None
fused_edges p d (Some x) (Some y) = if edges_fit p d x y then Some (ApplyEdgesTogether x.ends x.part y.part) else None

abbrev pub fused_vertices : ProgramTree → Option VertexApplyTree → Option VertexApplyTree → Option OperationTree
fused_vertices p None b = None
fused_vertices p (Some x) None = None
fused_vertices p (Some x) (Some y) = if vertices_fit p x y then Some (ApplyVerticesTogether x.set x.function y.function) else None

abbrev pub either : Option OperationTree → Option OperationTree → Option OperationTree
either (Some o) other = Some o
either None other = other

abbrev pub together : ProgramTree → Depth → StatementKindTree → StatementKindTree → Option OperationTree
together p d a b = either (fused_edges p d (edge_apply_of a) (edge_apply_of b)) (fused_vertices p (vertex_apply_of a) (vertex_apply_of b))

-- the schedule fuses a statement with the one of a label
abbrev pub is_with : Option Fused → Option ℕ → Bool
is_with None label = false
is_with (Some (Into first)) label = false
is_with (Some (With second)) None = false
is_with (Some (With second)) (Some label) = nat_eq second label

-- how a statement of a block is done: alone, together with the next, or with the one before it
pub data FusionRole : Type 0 where
  Alone : FusionRole
  WithNext : OperationTree → FusionRole
  WithPrevious : FusionRole

abbrev pub with_next : Option OperationTree → FusionRole
with_next None = Alone
with_next (Some o) = WithNext o

-- the first statement of a block that is not done already, where so much is visible
abbrev pub fusion_role_of : ProgramTree → ScheduleTree → Depth → (is_done : Bool) → (label : Option ℕ) → StatementKindTree → BlockTree → FusionRole
fusion_role_of p s d true label action rest = WithPrevious
fusion_role_of p s d false label action Empty = Alone
fusion_role_of p s d false label action (Then number other next rest) =
    if is_with (apply_schedule_at label s).fused other then with_next (together p d action next) else Alone

-- the next statement is done with it
abbrev pub takes_next : FusionRole → Bool
takes_next Alone = false
takes_next (WithNext o) = true
takes_next WithPrevious = false
