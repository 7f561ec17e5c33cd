-- What a follower has to be for a run, and what it knows of the run's vectors.
use Rattle.std.specs.Prelude.{◌≡◌, ℤ, List, IfSome}
use Rattle.std.specs.Arc.{arc_value}
use Rattle.std.specs.Option.{option_map}
use Rattle.plans.specs.declared.functions.FunctionKernels.{FunctionKernels}
use Rattle.flat_snapshot.specs.Digraph.{Digraph}
use Rattle.run_records.specs.declared.former_run.FormerRun.{FormerRun}
use Rattle.run_records.specs.declared.follower.Follower.{Follower}
use Rattle.run_records.specs.declared.follower.Recorder.{Recorder}
use Rattle.run_records.specs.declared.follower.Recorder.TheVariants as recorder
use Rattle.run_records.specs.inside.FormerRun.{AreKnown, IsBeside}
use Rattle.run_records.specs.Recorded.{AreRecorded, vectors_through}

-- what is recorded is true of these functions and this graph
abbrev pub IsRecorderOf : FunctionKernels → Digraph → Recorder → Type 0
IsRecorderOf f g recorder.NotBegun = Unit {0}
IsRecorderOf f g (recorder.Open r) = AreRecorded f g r.start.vectors r.applies.items
IsRecorderOf f g (recorder.Closed r) = AreRecorded f g r.start.vectors r.applies.items
IsRecorderOf f g recorder.Dropped = Unit {0}

-- these vectors are those that the last recorded apply has left
abbrev pub AreRecordersVectors : Recorder → List (List ℤ) → Type 0
AreRecordersVectors recorder.NotBegun vectors = Unit {0}
AreRecordersVectors (recorder.Open r) vectors = vectors ≡ vectors_through r.applies.items r.start.vectors
AreRecordersVectors (recorder.Closed r) vectors = Unit {0}
AreRecordersVectors recorder.Dropped vectors = Unit {0}

-- these vectors are those that a run beside a record knows
abbrev pub AreKnownOf : (vectors : List (List ℤ)) → FormerRun → Type 0
AreKnownOf vectors r = AreKnown (arc_value r.run_record.now.graph).vertices r.vectors.vectors (option_map (λ l. l.items) r.candidates) vectors

-- a follower does applies of these functions on this graph
pub record IsFollower {E : Type 0} (f : FunctionKernels) (g : Digraph) (s : Follower E) : Type 0 where
  pub former : IfSome s.former (IsBeside f g)
  pub recorder : IsRecorderOf f g s.recorder

-- what it knows of the vectors of the run is true of these
pub record Knows {E : Type 0} (s : Follower E) (vectors : List (List ℤ)) : Type 0 where
  pub former : IfSome s.former (AreKnownOf vectors)
  pub recorder : AreRecordersVectors s.recorder vectors
