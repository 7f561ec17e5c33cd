use Rattle.std.proofs.Common.{ℕ, List, length}
use Rattle.flat_snapshot.specs.FlatEdges.{AreDegreesOf}
use Rattle.flat_snapshot.specs.Neighbours.{destinations_of}
use Rattle.edge_fold.specs.Between.{firsts}
use Rattle.edge_fold.proofs.Walks.{HasPassed}
use Rattle.push_engine.specs.inside.Rows.{rows_to}
use Rattle.edge_apply.specs.Words.{passes_words}
use Rattle.push_engine.proofs.sources.fold_passing.Given as goal

-- some of the vertices with edges are done, and the rest is left
abbrev pub invariant-parts : goal.invariant-parts
invariant-parts l =
    (ds : List (ℕ × ℕ)) × AreDegreesOf (λ u. destinations_of u l.input.flat.now.edges) ds
    × HasPassed l.from l.input.context (rows_to (passes_words l.input.to) l.input.flat.now.edges) (firsts ds) (firsts l.sources) l.fn.scratch l.scratch

abbrev pub decreases-parts : goal.decreases-parts
decreases-parts l = length l.sources
