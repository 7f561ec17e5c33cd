-- Proofs of `of`, src/follower.rt.
use Rattle.std.proofs.Common.{IfSome, sym, subst}
use Rattle.std.specs.Arc.{arc_value}
use Rattle.std.proofs.lemmas.Result.{IfOk-weaker}
use Rattle.run_records.specs.inside.FormerRun.{IsBeside}
use Rattle.run_records.proofs.Beside.{some_if_ok}
use Rattle.run_records.proofs.follower.Follower.of.Goals as goal

pub returns-clause-follower : goal.returns-clause-follower
returns-clause-follower over c g vertices edges = record {
  former = subst (λ o. IfSome o (IsBeside (arc_value c.args.run_record.now.plan).functions g)) (sym c.ok-former.ensures.value)
      (some_if_ok _ c.new.result (IfOk-weaker c.new.result _ _ (λ r is. is g vertices edges) c.new.ensures));
  recorder = tt;
}
