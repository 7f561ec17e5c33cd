use Rattle.std.proofs.Common.{◌≡◌, ◌+◌, ◌-◌, ◌%◌, ◌<◌, ℕ}
use Rattle.std.specs.List.{All}
use Rattle.crew.specs.inside.ClaimWord.{times}
use Rattle.crew.specs.inside.Finding.{IsAnswered}
use Rattle.crew.specs.Pieces.{pieces_of}
use Rattle.crew.proofs.fixed.fixed_pieces.Given as goal

abbrev pub invariant-loop-index : goal.invariant-loop-index
invariant-loop-index g l = record {
  turn : l.index % l.workers + 1 ≡ l.worker;
  state : g.W.Work.keeps l.work l.state;
  answered : All (IsAnswered (g.W.Work.answers l.work) l.pieces) l.found.items;
  every : (j : ℕ) → j < l.index → j < l.pieces → j % l.workers + 1 ≡ l.worker → 0 < times (j + 1) (pieces_of l.found.items);
}

abbrev pub decreases-loop-index : goal.decreases-loop-index
decreases-loop-index g l = l.pieces - l.index
