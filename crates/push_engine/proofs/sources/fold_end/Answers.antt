-- Proofs of `fold_end`, src/sources.rt.
use Rattle.std.proofs.Common.{subst}
use Rattle.std.proofs.lemmas.Result.{on_ok_weaker}
use Rattle.kernels.specs.declared.endpoint_filter.EndpointFilter.{EndpointFilter}
use Rattle.edge_fold.specs.Ends.{IsTest}
use Rattle.push_engine.proofs.sources.fold_end.Goals as goal

pub returns-in-Members : goal.returns-in-Members
returns-in-Members c =
    on_ok_weaker c.fold_members.result
    (λ folds m steps test context is has. folds m steps test context (subst (λ (e : EndpointFilter). IsTest e m test) c.in-Members.is is) has)
    c.fold_members.ensures
