-- That the work of an apply goes to other threads.
use denote.Ref.{NamedLft}
use denote.Param.Send.{IsSync, sendable}
use denote.Param.SendFields.{declared_sync}
use Rattle.std.proofs.Crossing.{crosses}
use Rattle.edge_apply.proofs.Crossing.{apply_sync}
use Rattle.vertex_sets.proofs.set.VertexSet.TheSendSync.{the_sync as set_sync}
use Rattle.crew.proofs.partition.Partition.TheSendSync.{the_sync as partition_sync}
use Rattle.kernels.proofs.shape.Shape.TheSendSync.{the_sync as shape_sync}
use Rattle.pull_engine.specs.contracts.work.PullWork as work

pub work_sync : (lft : NamedLft) → IsSync (work.the_row lft)
work_sync lft = declared_sync (work.the_type lft) (
  search (sendable, crosses, apply_sync) depth 12,
  (
    search (sendable, crosses, set_sync) depth 12,
    (
      search (sendable, crosses, set_sync) depth 12,
      (search (sendable, crosses, partition_sync) depth 12, (search (sendable, crosses, shape_sync) depth 12, (search (sendable, crosses) depth 12, tt))),
    ),
  ),
)
