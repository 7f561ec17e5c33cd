-- Proofs of `forgotten`, src/follower.rt.
use Rattle.std.proofs.Common.{Option, IfSome, subst}
use Rattle.run_records.specs.declared.former_run.FormerRun.{FormerRun}
use Rattle.run_records.specs.inside.FormerRun.{IsBeside}
use Rattle.run_records.proofs.follower.forgotten.Goals as goal

pub returns-in-Some-clause-beside : goal.returns-in-Some-clause-beside
returns-in-Some-clause-beside c f g beside =
    c.with_any_vectors.ensures.beside f g (subst (λ (o : Option FormerRun). IfSome o (IsBeside f g)) c.in-Some.is beside)
