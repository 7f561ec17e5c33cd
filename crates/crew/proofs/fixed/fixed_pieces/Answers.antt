-- Proofs of `fixed_pieces`, src/fixed.rt.
use Rattle.crew.specs.Pieces.{pieces_of}
use Rattle.crew.proofs.Findings.{answered_more, pieces_of-added}
use Rattle.crew.proofs.Turns.{next_turn, every_more}
use Rattle.crew.proofs.fixed.fixed_pieces.Goals as goal

pub loop-index-preserved : goal.loop-index-preserved
loop-index-preserved g c =
    let answers = g.W.Work.answers c.args.work.now in
    record {
      turn = next_turn c.loop-index.index c.args.workers _ c.loop-index.invariant.turn;
      state = c.in_ok-do_piece.ensures.state;
      answered = answered_more answers c.args.pieces c.loop-index.index _ _ c.loop-index-test.true c.loop-index.invariant.answered c.in_ok-do_piece.ensures.found;
      every = every_more c.loop-index.index c.args.workers _ c.args.pieces (pieces_of c.loop-index.found.items) (pieces_of c.do_piece.new.found.items) c.loop-index.invariant.turn
          (pieces_of-added answers _ _ _ c.in_ok-do_piece.ensures.found) c.loop-index.invariant.every;
    }
