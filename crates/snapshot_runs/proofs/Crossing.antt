-- That threads share plans, and that runs go to other threads with their records.
use denote.RattleType.{RattleType}
use denote.Builtin.{u64}
use denote.Param.Send.{IsSend, IsSync, sendable}
use denote.Param.SendFields.{declared_send, declared_sync, variants_send}
use Rattle.std.proofs.Crossing.{crosses, Arc-send, Vec-send}
use Rattle.std.specs.contracts.alloc.Global as heap
use Rattle.std.specs.contracts.impls.GlobalAllocator.TheImpl as alloc
use Rattle.std.specs.contracts.sync.Arc as arc
use Rattle.std.specs.contracts.vec.Vec as vec
use Rattle.flat_snapshot.proofs.Crossing.{flat_send, flat_sync}
use Rattle.flat_snapshot.specs.contracts.flat.Flat as flat
use Rattle.plans.specs.contracts.plan.Plan as plan
use Rattle.plans.proofs.functions.FunctionKernels.TheSendSync.{the_send as functions_send, the_sync as functions_sync}
use Rattle.plans.proofs.instruction.Instruction.TheSendSync.{the_send as instruction_send, the_sync as instruction_sync}
use Rattle.run_records.specs.contracts.apply_record.ApplyRecord as apply_record
use Rattle.run_records.proofs.apply_record.ApplyRecord.TheSendSync.{the_send as apply_record_send}
use Rattle.run_records.specs.contracts.run_record.RunRecord as run_record
use Rattle.shared_graph.specs.contracts.reader.Token as token
use Rattle.shared_graph.specs.declared.naming.Naming as naming
use Rattle.shared_graph.proofs.reader.Token.TheSendSync as token_the
use Rattle.snapshot_runs.specs.contracts.last_run.LastRun as last_run
use Rattle.snapshot_runs.specs.contracts.runs.Runs as runs
use Rattle.snapshot_runs.specs.contracts.runs.RunsState as runs_state
use Rattle.vectors.proofs.vectors.Vectors.TheSendSync.{the_send as vectors_send}

pub plan_sync : IsSync plan.the_row
plan_sync = declared_sync plan.the_type (
  search (sendable, crosses, instruction_sync) depth 12,
  (
    search (sendable, crosses, functions_sync) depth 12,
    (
      search (sendable, crosses) depth 20,
      (
        search (sendable, crosses) depth 12,
        (
          search (sendable, crosses) depth 20,
          (
            search (sendable, crosses) depth 20,
            (search (sendable, crosses) depth 12, (search (sendable, crosses) depth 20, tt)),
          ),
        ),
      ),
    ),
  ),
)

plan_send : IsSend plan.the_row
plan_send = declared_send plan.the_type (
  search (sendable, crosses, instruction_send) depth 12,
  (
    search (sendable, crosses, functions_send) depth 12,
    (
      search (sendable, crosses) depth 20,
      (
        search (sendable, crosses) depth 12,
        (
          search (sendable, crosses) depth 20,
          (
            search (sendable, crosses) depth 20,
            (search (sendable, crosses) depth 12, (search (sendable, crosses) depth 20, tt)),
          ),
        ),
      ),
    ),
  ),
)

plan_arc_send : IsSend (arc.the_row plan.the_row heap.the_row alloc.ghosts)
plan_arc_send = Arc-send plan.the_row plan_send plan_sync

flat_arc_send : IsSend (arc.the_row flat.the_row heap.the_row alloc.ghosts)
flat_arc_send = Arc-send flat.the_row flat_send flat_sync

applies_send : IsSend (vec.the_row apply_record.the_row heap.the_row alloc.ghosts)
applies_send = Vec-send apply_record.the_row apply_record_send

run_record_send : IsSend run_record.the_row
run_record_send = declared_send run_record.the_type (plan_arc_send, (flat_arc_send, (vectors_send, (applies_send, tt))))

number_send : IsSend u64
number_send = search sendable

module _ (J : RattleType) (g : naming.Ghosts J.Denot) where
  token_send : IsSend (token.the_row J g)
  token_send = token_the.the_send J g

  last_run_send : IsSend (last_run.the_row J g)
  last_run_send = declared_send (last_run.the_type J g) (number_send, (run_record_send, (token_send, tt)))

  runs_state_send : IsSend (runs_state.the_row J g)
  runs_state_send = variants_send (runs_state.enum J g) ((last_run_send, tt), ((plan_arc_send, tt), tt))

  pub runs_send : IsSend (runs.the_row J g)
  runs_send = declared_send (runs.the_type J g) (runs_state_send, tt)
