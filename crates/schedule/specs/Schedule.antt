-- Accepted schedules: the apply schedules of labels, and the groups of vectors. What labels are of, and what the texts of calls name.
use Rattle.std.specs.Prelude.{ℕ, Bool, is_some, List, [], ◌∷◌, ◌++◌, nat_eq, suc, Option, Some, None, if◌then◌else◌, map, codes}
use Rattle.indexmap.specs.IndexMap.{insert_entry}
use Rattle.std.specs.Str.{bytes_eq}
use Rattle.std.specs.Map.{lookup}
use Rattle.apply_options.specs.declared.apply_schedule.ApplySchedule.{ApplySchedule}
use Rattle.apply_options.specs.declared.apply_schedule.Fused.{Fused}
use Rattle.apply_options.specs.ScheduleTree.{ScheduleTree, apply_schedule_of, fused_as}
use Rattle.apply_options.specs.declared.apply_schedule.Direction.{Direction}
use Rattle.apply_options.specs.declared.apply_schedule.Direction.TheVariants.{SparsePush, DensePush, DensePull, Hybrid}
use Rattle.apply_options.specs.declared.apply_schedule.Parallelization.{Parallelization}
use Rattle.apply_options.specs.declared.apply_schedule.Parallelization.TheVariants.{Serial, StaticVertex, DynamicVertex, EdgeAwareDynamicVertex}
use Rattle.apply_options.specs.declared.apply_schedule.DenseVertexSet.{DenseVertexSet}
use Rattle.apply_options.specs.declared.apply_schedule.DenseVertexSet.TheVariants.{BoolArray, Bitvector}
use Rattle.typed_tree.specs.declared.program.Vector.{Vector}
use Rattle.typed_tree.specs.Independence.{name_at}
use Rattle.typed_tree.specs.ProgramTree.{ProgramTree}
use Rattle.typed_tree.specs.declared.statement.SetValue.{SetValue}
use Rattle.typed_tree.specs.declared.apply.StatementApply.{StatementApply}
use Rattle.typed_tree.specs.declared.apply.StatementApply.TheVariants.{Edges, Vertices}
use Rattle.typed_tree.specs.BlockTree.{ApplyVertex, ApplyEdges, DeclareSet, AssignSet}
use Rattle.typed_tree.specs.BlockTree.{StatementKindTree, Simple, If, IfElse, While, For, BlockTree, Empty, Then}
use Rattle.typed_tree.specs.declared.statement.SetValue.TheVariants as value
use Rattle.schedule.specs.declared.site.Site.{Site}

abbrev pub with_apply_schedule : ℕ → ApplySchedule → ScheduleTree → ScheduleTree
with_apply_schedule label c s = record { apply_schedules = insert_entry nat_eq s.apply_schedules label c; groups = s.groups }

abbrev pub with_fused : ℕ → Fused → ScheduleTree → ScheduleTree
with_fused label fused s = with_apply_schedule label (fused_as fused (apply_schedule_of label s)) s

abbrev pub with_one_group : List ℕ → ScheduleTree → ScheduleTree
with_one_group group s = record { apply_schedules = s.apply_schedules; groups = s.groups ++ group ∷ [] }

abbrev pub is_fused : ℕ → ScheduleTree → Bool
is_fused label s = is_some (apply_schedule_of label s).fused

-- where no call was made
abbrev pub empty_schedule : ScheduleTree
empty_schedule = record { apply_schedules = []; groups = [] }

-- where the first of these names is that is this one, counted from so many
abbrev pub index_from : ℕ → List ℕ → List (List ℕ) → Option ℕ
index_from index name [] = None
index_from index name (n ∷ names) = if bytes_eq name n then Some index else index_from (suc index) name names

-- the names of vectors
abbrev pub vector_names : List (List ℕ) → List Vector → List (List ℕ)
vector_names names vectors = map (λ v. name_at names v.name) vectors

-- the index of a label
abbrev pub label_index : ProgramTree → List ℕ → Option ℕ
label_index p name = index_from 0 name p.labels

-- the index of a vector
abbrev pub vector_by_name : ProgramTree → List ℕ → Option ℕ
vector_by_name p name = index_from 0 name (vector_names p.names p.vectors)

-- an edge apply, where the value of a set of this name is what the apply changes
abbrev pub modifying_as : ℕ → SetValue → Option StatementApply
modifying_as name (value.Modified ends function vector) = Some (Edges ends function (Some name))
modifying_as name _ = None

-- what a statement applies
abbrev pub apply_of : StatementKindTree → Option StatementApply
apply_of (Simple (ApplyVertex set function)) = Some (Vertices set function)
apply_of (Simple (ApplyEdges ends function)) = Some (Edges ends function None)
apply_of (Simple (DeclareSet name set)) = modifying_as name set
apply_of (Simple (AssignSet slot set)) = modifying_as slot.name set
apply_of _ = None

-- the label of the first statement
abbrev pub label_of : BlockTree → Option ℕ
label_of Empty = None
label_of (Then number label action rest) = label

-- what a statement's label is before, if it has one
abbrev pub site_at : Option ℕ → StatementKindTree → BlockTree → List (ℕ × Site)
site_at None action rest = []
site_at (Some label) action rest = (label, record { apply = apply_of action; next = label_of rest }) ∷ []

abbrev mutual
  -- the labels in the blocks of a statement
  pub sites_in : StatementKindTree → List (ℕ × Site)
  sites_in (Simple a) = []
  sites_in (If c body) = sites_of body
  sites_in (IfElse c body other) = sites_of body ++ sites_of other
  sites_in (While c body) = sites_of body
  sites_in (For name first end body) = sites_of body

  -- the labels of statements, each with what it is before, in the order of the text
  pub sites_of : BlockTree → List (ℕ × Site)
  sites_of Empty = []
  sites_of (Then number label action rest) = site_at label action rest ++ (sites_in action ++ sites_of rest)

-- what a label is before
abbrev pub site_of : ℕ → BlockTree → Option Site
site_of label main = lookup (nat_eq label) (sites_of main)

abbrev pub direction_of : List ℕ → Option Direction
direction_of text =
    if bytes_eq text (codes "SparsePush") then Some SparsePush else
    if bytes_eq text (codes "DensePush") then Some DensePush else
    if bytes_eq text (codes "DensePull") then Some DensePull else
    if bytes_eq text (codes "DensePull-SparsePush") then Some Hybrid else None

abbrev pub parallelization_of : List ℕ → Option Parallelization
parallelization_of text =
    if bytes_eq text (codes "serial") then Some Serial else
    if bytes_eq text (codes "static-vertex-parallel") then Some StaticVertex else
    if bytes_eq text (codes "dynamic-vertex-parallel") then Some DynamicVertex else
    if bytes_eq text (codes "edge-aware-dynamic-vertex-parallel") then Some EdgeAwareDynamicVertex else None

abbrev pub dense_vertex_set_of : List ℕ → Option DenseVertexSet
dense_vertex_set_of text =
    if bytes_eq text (codes "bool-array") then Some BoolArray else
    if bytes_eq text (codes "bitvector") then Some Bitvector else None
