-- Proofs of `end_may_pass`, src/reached.rt.
use Rattle.std.proofs.Common.{Some, sym, ap, ◌∙◌}
use Rattle.kernels.specs.declared.endpoint_filter.EndpointFilter.{EndpointFilter}
use Rattle.edge_fold.proofs.Findings.{member_is}
use Rattle.follow_engine.specs.Reached.{may_pass}
use Rattle.follow_engine.proofs.reached.end_may_pass.Goals as goal

pub returns-in-Members : goal.returns-in-Members
returns-in-Members c =
    member_is c.args.vertex c.in-Members.set.now.members c.contains.result c.contains.ensures
    ∙ sym (ap (λ (e : EndpointFilter). may_pass (Some e) c.args.vertex) c.in-Members.is)
