-- That programs and their runs go to other threads.
use mathlib.Core.List.{[], ◌∷◌}
use mir.Syntax.{Sym}
use denote.RattleType.{RattleType}
use denote.Param.Send.{IsSend, sendable}
use denote.Param.SendFields.{as_row_send, declared_send}
use denote.Struct.Field.{row_field}
use denote.Struct.Tuple.{TupleAt, type_at}
use Rattle.std.proofs.Crossing.{crosses}
use Rattle.shared_graph.specs.declared.naming.Naming as naming
use Rattle.shared_graph.proofs.Crossing.{reader_send}
use Rattle.snapshot_runs.proofs.Crossing.{runs_send}
use Rattle.snapshot_runs.proofs.error.LatestRunError.TheSendSync.{the_send as error_send}
use Rattle.races.specs.contracts.entrants.Entrant as entrant
use Rattle.races.specs.contracts.entrants.EarlyRun as early
use Rattle.races.proofs.outcomes.VersionRun.TheSendSync.{the_send as run_send}

module _ (J : RattleType) (g : naming.Ghosts J.Denot) where
  pub entrant_send : IsSend (entrant.the_row J g)
  entrant_send = declared_send (entrant.the_type J g) (runs_send J g, (reader_send J g, tt))

  pub early_run_send : IsSend (early.the_row J g)
  early_run_send = declared_send (early.the_type J g)
      (runs_send J g, (reader_send J g, (search (sendable, crosses, run_send, error_send) depth 20, tt)))

-- a closure that takes five values goes to another thread with them
pub five_send : (name : Sym) (A B C D E : RattleType) → IsSend A → IsSend B → IsSend C → IsSend D → IsSend E → IsSend (TupleAt name (A ∷ B ∷ C ∷ D ∷ E ∷ []))
five_send name A B C D E a b c d e = declared_send (type_at name (A ∷ B ∷ C ∷ D ∷ E ∷ []))
    (as_row_send (row_field A) a, (as_row_send (row_field B) b, (as_row_send (row_field C) c, (as_row_send (row_field D) d, (as_row_send (row_field E) e, tt)))))
