-- Proofs of `chosen`, src/among.rt.
use Rattle.std.proofs.Common.{◌≡◌, ℕ, true, Option, sym, ◌∙◌, subst}
use Rattle.std.proofs.lemmas.Result.{IfOk-weaker}
use Rattle.kernels.specs.declared.endpoint_filter.EndpointFilter.{EndpointFilter}
use Rattle.edge_fold.specs.Ends.{IsEndTest}
use Rattle.edge_apply.proofs.Listed.{filter_all}
use Rattle.follow_engine.proofs.among.chosen.Goals as goal

pub returns-in-None : goal.returns-in-None
returns-in-None c =
    IfOk-weaker c.from_slice.result _ _
    (λ kept is m to vectors sizes test.
    let all : (v : ℕ) → to v ≡ true = subst (λ (o : Option EndpointFilter). IsEndTest o m to) c.in-None.is test in
    is ∙ sym (filter_all to c.args.vertices.now all))
    c.from_slice.ensures.items

pub returns-in-Some : goal.returns-in-Some
returns-in-Some c =
    IfOk-weaker c.kept_by.result _ _
    (λ kept is m to vectors sizes test. is m to vectors sizes (subst (λ (o : Option EndpointFilter). IsEndTest o m to) c.in-Some.is test))
    c.kept_by.ensures
