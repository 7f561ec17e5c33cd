-- The changes that the engines find may be recorded.
use Rattle.vectors.specs.declared.changes.VectorChanges.{VectorChanges}
use Rattle.std.proofs.Common.{List}
use Rattle.edge_apply.specs.declared.apply.Apply.{Apply}
use Rattle.edge_apply.specs.Applied.{AreChangesOf}
use Rattle.follow_engine.specs.Reduced.{AreChangesReduced}

-- what a push or a pull promises is more than what a record has to have
pub changes_recorded : (a : Apply) (cs : List VectorChanges) → AreChangesOf a cs → AreChangesReduced a cs
changes_recorded a cs are m steps from to vectors sizes kernels is_from is_to x by long = are m steps from to vectors sizes kernels is_from is_to x (by m).0 (by m).1 long
