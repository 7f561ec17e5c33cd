-- Facts that have one proof at most, as ghost fields ask for it.
use Rattle.std.specs.Prelude.{ℤ, List, [], ◌∷◌}
use Rattle.std.specs.Coded.{×_prop, Unit-prop}
use Rattle.std.proofs.Props.{props}
use Rattle.vectors.specs.declared.changes.VectorChanges.{VectorChanges}
use Rattle.plans.specs.declared.functions.FunctionKernels.{FunctionKernels}
use Rattle.flat_snapshot.specs.Digraph.{Digraph}
use Rattle.edge_fold.specs.Changed.{AreApart}
use Rattle.vectors.specs.Changes.{with_all_changes}
use Rattle.run_records.specs.declared.apply_record.ApplyRecord.{ApplyRecord}
use Rattle.run_records.specs.Recorded.{AreRecorded, IsRecorded}

AreApart-prop : (cs : List VectorChanges) → IsProp (AreApart cs)
AreApart-prop [] = Unit-prop
AreApart-prop (c ∷ cs) = ×_prop (hlevel props) (AreApart-prop cs)

IsRecorded-prop : (f : FunctionKernels) (g : Digraph) (vectors : List (List ℤ)) (a : ApplyRecord) → IsProp (IsRecorded f g vectors a)
IsRecorded-prop f g vectors a = hlevel props

pub AreRecorded-prop : (f : FunctionKernels) (g : Digraph) (vectors : List (List ℤ)) (more : List ApplyRecord) → IsProp (AreRecorded f g vectors more)
AreRecorded-prop f g vectors [] = Unit-prop
AreRecorded-prop f g vectors (a ∷ more) =
    ×_prop (×_prop (AreApart-prop a.changes.vectors.items) (IsRecorded-prop f g vectors a)) (AreRecorded-prop f g (with_all_changes a.changes.vectors.items vectors) more)
