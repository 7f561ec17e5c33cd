-- The cut of all vertices of a graph that is kept from pull to pull.
use Rattle.std.specs.Prelude.{◌≡◌, ℕ, List, length, map, IfSome}
use Rattle.std.specs.List.{range_with_len}
use Rattle.apply_options.specs.declared.apply_schedule.Parallelization.{Parallelization}
use Rattle.crew.specs.Boundaries.{boundaries}
use Rattle.crew.specs.Partition.{AreEnds}
use Rattle.flat_snapshot.specs.Digraph.{Digraph}
use Rattle.flat_snapshot.specs.Neighbours.{sources_of}
use Rattle.pull_engine.specs.declared.kept_cut.KeptCut.{KeptCut}

-- a partition is that into which a schedule cuts all vertices of a graph for so many workers
pub record IsCutFor (parallelization : Parallelization) (workers : ℕ) (g : Digraph) (partition : List ℕ) : Type 0 where
  pub ends : partition ≡ boundaries parallelization workers g.vertices (map (λ v. length (sources_of v g.edges)) (range_with_len 0 g.vertices))
  pub whole : AreEnds 0 g.vertices partition

-- what is kept, if anything, is the cut of this graph for the schedule and the workers that are kept with it
abbrev pub IsCutOf : KeptCut → Digraph → Type 0
IsCutOf kept g = IfSome kept.partition (IsCutFor kept.parallelization kept.workers g)
