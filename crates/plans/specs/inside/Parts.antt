-- Beside `Parts`: definitions that no public contract cites.
use Rattle.plans.specs.Fusing.{EdgeApplyTree, VertexApplyTree}
use Rattle.plans.specs.declared.part.EdgeApply.{EdgeApply}
use Rattle.plans.specs.Operation.{part_tree}
use Rattle.plans.specs.declared.part.VertexApply.{VertexApply}
use Rattle.plans.specs.Instruction.{OperationTree, ApplyEdgesTogether, ApplyVerticesTogether}
use Rattle.plans.specs.declared.part.FusedPair.{FusedPair}
use Rattle.plans.specs.declared.part.FusedPair.TheVariants as together

abbrev pub edge_apply_tree : EdgeApply → EdgeApplyTree
edge_apply_tree x = record { ends = x.ends; part = part_tree x.part }

abbrev pub vertex_apply_tree : VertexApply → VertexApplyTree
vertex_apply_tree x = record { set = x.set; function = x.function }

abbrev pub fused_pair_tree : FusedPair → OperationTree
fused_pair_tree (together.Edges ends first second) = ApplyEdgesTogether ends (part_tree first) (part_tree second)
fused_pair_tree (together.Vertices set first second) = ApplyVerticesTogether set first second
