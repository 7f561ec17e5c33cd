-- Proofs of `passing_sources`, src/listed.rt.
use Rattle.std.proofs.lemmas.Result.{IfOk-weaker}
use Rattle.std.proofs.Common.{◌≡◌, ◌++◌, ℕ, List, ap, ◌∙◌, sym, subst, Some}
use Rattle.std.specs.List.{filter, range_with_len}
use Rattle.kernels.specs.EdgeApply.{is_member}
use Rattle.kernels.specs.declared.endpoint_filter.EndpointFilter.{EndpointFilter}
use Rattle.edge_fold.specs.declared.apply_context.ApplyContext.{ApplyContext}
use Rattle.edge_fold.specs.Ends.{IsTest}
use Rattle.kernels.specs.Registers.{HasSizes}
use Rattle.vertex_sets.specs.VertexSet.{IsAscendingBelow}
use Rattle.edge_apply.specs.inside.Lists.{AscendsFrom}
use Rattle.edge_apply.specs.Lists.{IsEndFor}
use Rattle.edge_apply.proofs.Listed.{ascends, filter_ascends, members_listed}
use Rattle.push_engine.proofs.SourceLists.{filtered_sources}
use Rattle.vertex_sets.proofs.Ascending.{rises_range}
use Rattle.push_engine.proofs.listed.passing_sources.Goals as goal

pub returns-in_ok-keep_passing-in-Filter-clause-sources : goal.returns-in_ok-keep_passing-in-Filter-clause-sources
returns-in_ok-keep_passing-in-Filter-clause-sources c m test vectors sizes is =
    let g = c.args.apply.now.flat.now in
    let found = c.in_ok-all-in-Filter.ensures in
    let context = c.context-context.ensures.context in
    let kept = c.in_ok-keep_passing-in-Filter.ensures.kept m test (ap (λ (f : ApplyContext). f.vectors.now.vectors) context ∙ vectors)
    (subst (λ (f : ApplyContext). HasSizes f.sizes.now m) (sym context) sizes) is ∙ ap (λ (ks : List ℕ). ks ++ filter test c.deref.result.now) c.new-kept.ensures.items
    ∙ ap (filter test) (c.deref.ensures.value ∙ found.list) in
    record {
      ascending = subst (λ (us : List ℕ). AscendsFrom 0 us) (sym kept) (filter_ascends test (range_with_len 0 g.vertices) (ascends 0 (range_with_len 0 g.vertices) (rises_range 0 g.vertices)));
      passing = λ u some. ap (is_member u) kept ∙ filtered_sources g test found.graph u some;
    }

pub returns-in_ok-keep_passing-in-Filter-clause-list : goal.returns-in_ok-keep_passing-in-Filter-clause-list
returns-in_ok-keep_passing-in-Filter-clause-list c m test vectors sizes is within =
    let found = c.in_ok-all-in-Filter.ensures in
    let context = c.context-context.ensures.context in
    c.in_ok-keep_passing-in-Filter.ensures.kept m test (ap (λ (f : ApplyContext). f.vectors.now.vectors) context ∙ vectors)
    (subst (λ (f : ApplyContext). HasSizes f.sizes.now m) (sym context) sizes) is ∙ ap (λ (ks : List ℕ). ks ++ filter test c.deref.result.now) c.new-kept.ensures.items
    ∙ ap (filter test) (c.deref.ensures.value ∙ found.list)

pub returns-in-Members-clause-list : goal.returns-in-Members-clause-list
returns-in-Members-clause-list c =
    IfOk-weaker c.members_of.result _ _ (λ found told m test vectors sizes is within.
    let n = c.args.apply.now.flat.now.vertices in
    let set = c.in-Members.set.now in
    let test_is : (v : ℕ) → test v ≡ is_member v set.members = subst (λ (e : EndpointFilter). IsTest e m test) c.in-Members.is is in
    let count : set.vertices ≡ n = subst (λ (e : EndpointFilter). IsEndFor n (Some e)) c.in-Members.is within in
    told
    ∙ members_listed n set.members test (subst (λ (k : ℕ). IsAscendingBelow k set.members) count c.members_of.ensures.valid) test_is)
    c.members_of.ensures.members
