use Rattle.std.proofs.Common.{◌≡◌, length}
use Rattle.edge_apply.specs.Words.{passes_words}
use Rattle.pull_engine.specs.inside.Masked.{AreMasked}
use Rattle.pull_engine.proofs.all_sources.masked_numbers.Given as goal

-- the list has the vertices so far
abbrev pub invariant-vertices : goal.invariant-vertices
invariant-vertices g l = record {
  count : length l.found.items ≡ l.vertex;
  are : AreMasked l.reduction (g.N.SourceNumbers.number l.numbers) (passes_words l.from) l.found.items;
}
