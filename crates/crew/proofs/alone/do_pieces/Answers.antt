-- Proofs of `do_pieces`, src/alone.rt.
use Rattle.std.proofs.Common.{◌≡◌, subst, arith}
use Rattle.crew.specs.Pieces.{AreFound}
use Rattle.crew.proofs.Findings.{found_more}
use Rattle.crew.proofs.alone.do_pieces.Goals as goal

pub loop-index-preserved : goal.loop-index-preserved
loop-index-preserved g c = record {
  state = c.in_ok-do_piece.ensures.state;
  found = found_more (g.W.Work.answers c.args.work.now) c.loop-index.index _ _ c.loop-index.invariant.found c.in_ok-do_piece.ensures.found;
}

pub returns-clause-found : goal.returns-clause-found
returns-clause-found g c =
    let all : c.loop-index.index ≡ c.args.pieces = omega arith in
    subst (λ n. AreFound (g.W.Work.answers c.args.work.now) n c.loop-index.found.items) all c.loop-index.invariant.found
