-- Proofs of `list_sources`, src/listed.rt.
use Rattle.std.proofs.Common.{◌≡◌, true, ℕ, List, Option, sym, ap, ◌∙◌, subst}
use Rattle.std.specs.List.{range_with_len}
use Rattle.kernels.specs.EdgeApply.{is_member}
use Rattle.kernels.specs.declared.endpoint_filter.EndpointFilter.{EndpointFilter}
use Rattle.edge_fold.specs.Ends.{IsEndTest}
use Rattle.edge_apply.specs.inside.Lists.{AscendsFrom}
use Rattle.edge_apply.proofs.Listed.{ascends, filter_all}
use Rattle.push_engine.proofs.SourceLists.{filtered_sources, list_is_whole}
use Rattle.vertex_sets.proofs.Ascending.{rises_range}
use Rattle.push_engine.proofs.listed.list_sources.Goals as goal

pub returns-in_ok-sources-in-None-clause-sources : goal.returns-in_ok-sources-in-None-clause-sources
returns-in_ok-sources-in-None-clause-sources c m from vectors sizes is =
    let g = c.args.apply.now.flat.now in
    let all : (v : ℕ) → from v ≡ true = subst (λ (o : Option EndpointFilter). IsEndTest o m from) c.in-None.is is in
    let list = c.in_ok-sources-in-None.ensures.list in
    record {
      ascending = subst (λ (us : List ℕ). AscendsFrom 0 us) (sym list) (ascends 0 (range_with_len 0 g.vertices) (rises_range 0 g.vertices));
      passing = λ u some. ap (is_member u) (list ∙ sym (filter_all from (range_with_len 0 g.vertices) all)) ∙ filtered_sources g from c.in_ok-sources-in-None.ensures.graph u some;
    }

pub returns-in_ok-sources-in-None-clause-list : goal.returns-in_ok-sources-in-None-clause-list
returns-in_ok-sources-in-None-clause-list c m from vectors sizes is within =
    let n = c.args.apply.now.flat.now.vertices in
    let all : (v : ℕ) → from v ≡ true = subst (λ (o : Option EndpointFilter). IsEndTest o m from) c.in-None.is is in
    c.in_ok-sources-in-None.ensures.list ∙ list_is_whole c.args.apply.now.direction n from all
