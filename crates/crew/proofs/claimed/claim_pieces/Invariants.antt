use Rattle.std.proofs.Common.{◌-◌}
use Rattle.std.specs.List.{All}
use Rattle.crew.specs.inside.Claims.{IsClaimAt, view_of}
use Rattle.crew.specs.inside.Finding.{IsAnswered}
use Rattle.crew.specs.Pieces.{pieces_of}
use Rattle.crew.proofs.Gathering.{IsClaiming}
use Rattle.crew.proofs.claimed.claim_pieces.Given as goal

abbrev pub invariant-loop-index : goal.invariant-loop-index
invariant-loop-index g l = record {
  turn : IsClaimAt l.word.table_id l.turn;
  claimed : IsClaiming l.pieces l.index (view_of l.turn) (pieces_of l.found.items);
  state : g.W.Work.keeps l.work l.state;
  answered : All (IsAnswered (g.W.Work.answers l.work) l.pieces) l.found.items;
}

abbrev pub decreases-loop-index : goal.decreases-loop-index
decreases-loop-index g l = l.pieces - l.index
