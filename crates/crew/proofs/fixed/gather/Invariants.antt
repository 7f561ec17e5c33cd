use Rattle.std.proofs.Common.{◌≡◌, ◌+◌, ◌%◌, ◌<◌, ◌≤◌, ℕ, length}
use Rattle.std.specs.List.{All}
use Rattle.crew.specs.inside.ClaimWord.{times}
use Rattle.crew.specs.inside.Finding.{IsAnswered}
use Rattle.crew.specs.Pieces.{pieces_of}
use Rattle.crew.specs.inside.Workers.{HaveEvery}
use Rattle.crew.proofs.fixed.gather.Given as goal

abbrev pub invariant-loop-worker : goal.invariant-loop-worker
invariant-loop-worker g l = record {
  workers : HaveEvery (g.W.Work.keeps l.work) (g.W.Work.answers l.work) l.pieces (length l.fn.workers.items) l.workers.items;
  out : length l.workers.items ≤ length l.fn.workers.items;
  answered : All (IsAnswered (g.W.Work.answers l.work) l.pieces) l.found.items;
  every : (j : ℕ) → j < l.pieces → j % length l.fn.workers.items + length l.workers.items < length l.fn.workers.items → 0 < times (j + 1) (pieces_of l.found.items);
  states : All (g.W.Work.keeps l.work) l.states.items;
  back : length l.states.items + length l.workers.items ≡ length l.fn.states.items + length l.fn.workers.items;
}

abbrev pub decreases-loop-worker : goal.decreases-loop-worker
decreases-loop-worker g l = length l.workers.items
