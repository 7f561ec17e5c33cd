use Rattle.std.proofs.Common.{◌≡◌, ◌+◌, IfOk, length}
use Rattle.std.specs.List.{All}
use Rattle.crew.specs.inside.Claims.{IsClaimAt, view_of}
use Rattle.crew.specs.inside.Finding.{IsAnswered}
use Rattle.crew.specs.Pieces.{pieces_of}
use Rattle.crew.specs.inside.Workers.{HasClaimed}
use Rattle.crew.proofs.Gathering.{IsGathered}
use Rattle.crew.proofs.claimed.gather.Given as goal

abbrev pub invariant-loop-worker : goal.invariant-loop-worker
invariant-loop-worker g l = record {
  own : IsClaimAt l.word.table_id l.own;
  claimed : IsGathered l.run.pieces (length l.workers.items) (view_of l.own) (pieces_of l.found.items);
  workers : All (λ r. IfOk r (HasClaimed (g.W.Work.keeps l.run.work.now) (g.W.Work.answers l.run.work.now) l.word.table_id l.run.pieces)) l.workers.items;
  answered : All (IsAnswered (g.W.Work.answers l.run.work.now) l.run.pieces) l.found.items;
  states : All (g.W.Work.keeps l.run.work.now) l.states.items;
  back : length l.states.items + length l.workers.items ≡ length l.fn.states.items + length l.fn.workers.items;
}

abbrev pub decreases-loop-worker : goal.decreases-loop-worker
decreases-loop-worker g l = length l.workers.items
