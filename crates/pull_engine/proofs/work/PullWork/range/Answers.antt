-- Proofs of `range`, src/pieces.rt.
use Rattle.std.proofs.Common.{refl}
use Rattle.pull_engine.proofs.work.PullWork.range.Goals as goal

pub returns : goal.returns
returns c = record {
  flat = refl;
  graph = c.context.ensures.graph;
  context = c.context.ensures.context;
  reads = c.context.ensures.reads;
  from = c.words.ensures;
  to = c.destinations.ensures;
  low = c.vertices_of-low.ensures.low;
  high = c.vertices_of-low.ensures.high;
  order = c.vertices_of-low.ensures.order;
  within = c.vertices_of-low.ensures.within;
  masked = c.deref.ensures.value;
}
