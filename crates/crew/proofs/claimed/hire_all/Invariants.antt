use Rattle.std.proofs.Common.{◌≡◌, ◌-◌, ◌*◌, [], length}
use Rattle.std.specs.List.{All}
use Rattle.crew.specs.inside.ClaimWord.{claim_view, all_rights}
use Rattle.crew.specs.inside.Claims.{IsClaimAt, view_of, worker_rights}
use Rattle.crew.specs.inside.Workers.{IsHired}
use Rattle.crew.proofs.claimed.hire_all.Given as goal

abbrev pub invariant-loop-others : goal.invariant-loop-others
invariant-loop-others g l = record {
  own : IsClaimAt l.word.table_id l.own;
  view : view_of l.own ≡ claim_view (all_rights - l.others * worker_rights) [] 0;
  len : length l.jobs.items ≡ l.others;
  jobs : All (IsHired (g.W.Work.keeps l.work) l.word.table_id) l.jobs.items;
  states : All (g.W.Work.keeps l.work) l.states.items;
  rest : length l.states.items ≡ length l.fn.states.items - l.others;
}
