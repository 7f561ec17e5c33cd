-- A run beside the record of a former run.
use Rattle.std.specs.Prelude.{◌≡◌, ℕ, false, ℤ, Option, Some, None, List, drop}
use Rattle.std.specs.Arc.{arc_value}
use Rattle.std.specs.Option.{option_copied, option_map}
use Rattle.kernels.specs.EdgeApply.{is_member}
use Rattle.edge_apply.specs.declared.apply.Apply.{Apply}
use Rattle.plans.specs.Operation.{kernel_at}
use Rattle.plans.specs.declared.functions.FunctionKernels.{FunctionKernels}
use Rattle.flat_snapshot.specs.Digraph.{Digraph}
use Rattle.edge_differences.specs.Listed.{AreSameBut}
use Rattle.follow_engine.specs.Local.{AgreeAt}
use Rattle.run_records.specs.declared.former_run.FormerRun.{FormerRun}
use Rattle.run_records.specs.declared.apply_record.ApplyRecord.{ApplyRecord}
use Rattle.run_records.specs.inside.Ends.{IsRecordedEnd}
use Rattle.run_records.specs.inside.Rows.{HaveRows}
use Rattle.run_records.specs.Recorded.{AreRecorded}

-- the record is of a run of these functions on a graph that differs from this one in the listed edges alone, and what is left of
-- it is true of the vectors that are kept
pub record IsBeside (f : FunctionKernels) (g : Digraph) (r : FormerRun) : Type 0 where
  pub functions : (arc_value r.run_record.now.plan).functions ≡ f
  pub vertices : (arc_value r.run_record.now.graph).vertices ≡ g.vertices
  pub edges : AreSameBut r.edges.now g.edges (arc_value r.run_record.now.graph).edges
  pub recorded : AreRecorded f (arc_value r.run_record.now.graph) r.vectors.vectors (drop r.next r.run_record.now.applies.items)

-- vectors have an entry for each of n vertices, as those that are kept have, and the same ones but at the candidates
pub record AreAlikeBut (n : ℕ) (kept vectors : List (List ℤ)) (candidates : List ℕ) : Type 0 where
  pub count : ℕ
  pub kept_rows : HaveRows count n kept
  pub rows : HaveRows count n vectors
  pub entries : (v : ℕ) → is_member v candidates ≡ false → AgreeAt vectors kept v

-- if no candidates are known, the vectors may be any
abbrev pub AreKnown : (n : ℕ) (kept : List (List ℤ)) → Option (List ℕ) → (vectors : List (List ℤ)) → Type 0
AreKnown n kept None vectors = Unit {0}
AreKnown n kept (Some candidates) vectors = AreAlikeBut n kept vectors candidates

-- an apply of the engines is a recorded one, over the vectors that are kept
pub record IsRecordedApply (r : FormerRun) (a : ApplyRecord) (apply : Apply) : Type 0 where
  pub graph : apply.flat.now ≡ arc_value r.run_record.now.graph
  pub vectors : apply.vectors.now.vectors ≡ r.vectors.vectors
  pub sizes : apply.sizes.now ≡ a.sizes.items
  pub first : apply.first.now ≡ kernel_at (arc_value r.run_record.now.plan).functions.edge a.asked.first
  pub second : option_copied apply.second ≡ option_map (kernel_at (arc_value r.run_record.now.plan).functions.edge) a.asked.second
  pub from : IsRecordedEnd (arc_value r.run_record.now.plan).functions a.asked.ends.from a.sources apply.from
  pub to : IsRecordedEnd (arc_value r.run_record.now.plan).functions a.asked.ends.to a.destinations apply.to
