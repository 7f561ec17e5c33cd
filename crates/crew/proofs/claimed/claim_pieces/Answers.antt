-- Proofs of `claim_pieces`, src/claimed.rt.
use Rattle.crew.specs.inside.Claims.{view_of}
use Rattle.crew.proofs.Findings.{answered_more, pieces_of-added}
use Rattle.crew.proofs.Gathering.{claims_more}
use Rattle.crew.proofs.claimed.claim_pieces.Goals as goal

pub loop-index-preserved : goal.loop-index-preserved
loop-index-preserved g c = record {
  turn = c.draw-index-in-loop-index.ensures.claim;
  claimed = claims_more c.args.pieces c.loop-index.index c.draw-index-in-loop-index.result (view_of c.loop-index.turn)
      (view_of c.draw-index-in-loop-index.new.claim) _ _ c.loop-index.invariant.claimed c.loop-index-test.true
      (pieces_of-added (g.W.Work.answers c.args.work.now) _ _ _ c.in_ok-do_piece.ensures.found) c.draw-index-in-loop-index.ensures.draws;
  state = c.in_ok-do_piece.ensures.state;
  answered = answered_more (g.W.Work.answers c.args.work.now) c.args.pieces c.loop-index.index _ _ c.loop-index-test.true c.loop-index.invariant.answered c.in_ok-do_piece.ensures.found;
}
