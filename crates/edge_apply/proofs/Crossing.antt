-- That an apply, and the merge of its pieces, go to other threads.
use denote.Ref.{NamedLft}
use denote.Param.Send.{IsSync, sendable}
use denote.Param.SendFields.{declared_sync}
use Rattle.std.proofs.Crossing.{crosses}
use Rattle.flat_snapshot.proofs.Crossing.{flat_sync}
use Rattle.vectors.proofs.vectors.Vectors.TheSendSync.{the_sync as vectors_sync}
use Rattle.kernels.proofs.endpoint_filter.EndpointFilter.TheSendSync.{the_sync as filter_sync}
use Rattle.kernels.proofs.kernel.EdgeKernel.TheSendSync.{the_sync as kernel_sync}
use Rattle.crew.proofs.partition.Partition.TheSendSync.{the_sync as partition_sync}
use Rattle.crew.proofs.piece_results.Found.TheSendSync.{the_sync as found_sync}
use Rattle.edge_fold.proofs.gathered.Gathered.TheSendSync.{the_sync as gathered_sync}
use Rattle.edge_apply.specs.contracts.apply.Apply as apply
use Rattle.edge_apply.specs.contracts.range_merge.RangeMerge as merge

pub apply_sync : (lft : NamedLft) → IsSync (apply.the_row lft)
apply_sync lft = declared_sync (apply.the_type lft) (
  search (sendable, crosses, flat_sync) depth 12,
  (
    search (sendable, crosses, vectors_sync) depth 12,
    (
      search (sendable, crosses) depth 12,
      (
        search (sendable, crosses, filter_sync) depth 12,
        (
          search (sendable, crosses, filter_sync) depth 12,
          (
            search (sendable, crosses, kernel_sync) depth 12,
            (
              search (sendable, crosses, kernel_sync) depth 12,
              (search (sendable, crosses) depth 12, (search (sendable, crosses) depth 12, tt)),
            ),
          ),
        ),
      ),
    ),
  ),
)

pub merge_sync : (lft : NamedLft) → IsSync (merge.the_row lft)
merge_sync lft = declared_sync (merge.the_type lft) (
  search (sendable, crosses, apply_sync) depth 12,
  (search (sendable, crosses, found_sync, gathered_sync) depth 14, (search (sendable, crosses, partition_sync) depth 12, tt)),
)
