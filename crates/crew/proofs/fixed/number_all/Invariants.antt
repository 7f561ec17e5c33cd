use Rattle.std.proofs.Common.{◌≡◌, ◌-◌, length}
use Rattle.std.specs.List.{All}
use Rattle.crew.specs.inside.Workers.{AreNumbered}
use Rattle.crew.proofs.fixed.number_all.Given as goal

abbrev pub invariant-loop-others : goal.invariant-loop-others
invariant-loop-others g l = record {
  len : length l.jobs.items ≡ l.others;
  jobs : AreNumbered (g.W.Work.keeps l.work) l.workers l.jobs.items;
  states : All (g.W.Work.keeps l.work) l.states.items;
  rest : length l.states.items ≡ length l.fn.states.items - l.others;
}
