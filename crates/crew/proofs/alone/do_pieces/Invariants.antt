use Rattle.crew.specs.Pieces.{AreFound}
use Rattle.crew.proofs.alone.do_pieces.Given as goal

abbrev pub invariant-loop-index : goal.invariant-loop-index
invariant-loop-index g l = record {
  state : g.W.Work.keeps l.work l.state;
  found : AreFound (g.W.Work.answers l.work) l.index l.found.items;
}
