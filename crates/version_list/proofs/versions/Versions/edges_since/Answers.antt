-- Proofs of `edges_since`, src/versions.rt.
use Rattle.std.proofs.Common.{◌≡◌, ℕ, ◌-◌, is_some, true, false, List, length, take, drop, sym, ap, ◌∙◌}
use Rattle.tree_batch.specs.declared.batch.Entry.{Entry}
use Rattle.tree_batch.specs.Edge.{Ends}
use Rattle.edge_differences.specs.Listed.{is_listed}
use Rattle.edge_differences.specs.Named.{named_in_all}
use Rattle.version_list.specs.declared.step.Done.{Done}
use Rattle.version_list.specs.Machine.{commits_of}
use Rattle.version_list.specs.Timeline.{Timeline}
use Rattle.version_list.proofs.LastBatches.{are_found, begins_after, edges_since_are, lists_lost, vertices_since_stay}
use Rattle.version_list.proofs.versions.Versions.edges_since.Goals as goal

pub returns-in_default-start_of_last-clause-listed : goal.returns-in_default-start_of_last-clause-listed
returns-in_default-start_of_last-clause-listed c =
    let t : Timeline = c.args.self.now in
    sym (lists_lost t c.args.version c.args.most
    (begins_after c.self.inside c.self.invariant t c.self.view_is c.deref.result.now c.deref.ensures.value c.args.version c.in-Some.batches c.in_default-start_of_last.ensures c.in-Some.ensures))

pub returns-in_ok-sorted_ends-in-Some-2-clause-edges : goal.returns-in_ok-sorted_ends-in-Some-2-clause-edges
returns-in_ok-sorted_ends-in-Some-2-clause-edges c =
    let t : Timeline = c.args.self.now in
    let again : List Done = c.deref-2.result.now in
    let batches : List (List Entry) = commits_of (take (length again - c.in-Some-start_of_last.start) (drop c.in-Some-start_of_last.start again)) in
    let found = are_found c.self.inside c.self.invariant t c.self.view_is c.deref.result.now c.deref-2.result.now c.deref.ensures.value c.deref-2.ensures.value
    c.in-Some-start_of_last.start c.args.version c.in-Some.batches c.args.most c.in-Some-start_of_last.ensures.1 c.in-Some.ensures
    true (sym (ap is_some c.in-Some-2.is) ∙ c.in_ok-named.ensures.listed) in
    let ends : List Ends = c.in_ok-sorted_ends-in-Some-2.field-0.items in
    let named : c.in-Some-2.named.items ≡ named_in_all batches = rw c.in-Some-2.is at c.in_ok-named.ensures.named in
    let listed : (u v : ℕ) → is_listed ends u v ≡ is_listed (named_in_all batches) u v =
    λ u v. c.in_ok-sorted_ends-in-Some-2.ensures.listed u v ∙ ap (λ (ps : List Ends). is_listed ps u v) (c.deref-in-Some-2.ensures.value ∙ named) in
    edges_since_are t.state c.args.version batches found.since ends listed

pub returns-in_ok-sorted_ends-in-Some-2-clause-vertices : goal.returns-in_ok-sorted_ends-in-Some-2-clause-vertices
returns-in_ok-sorted_ends-in-Some-2-clause-vertices c =
    let t : Timeline = c.args.self.now in
    let found = are_found c.self.inside c.self.invariant t c.self.view_is c.deref.result.now c.deref-2.result.now c.deref.ensures.value c.deref-2.ensures.value
    c.in-Some-start_of_last.start c.args.version c.in-Some.batches c.args.most c.in-Some-start_of_last.ensures.1 c.in-Some.ensures
    true (sym (ap is_some c.in-Some-2.is) ∙ c.in_ok-named.ensures.listed) in
    vertices_since_stay t.state c.args.version _ found.since c.args.most (sym found.may)

pub returns-in_ok-sorted_ends-in-Some-2-clause-named : goal.returns-in_ok-sorted_ends-in-Some-2-clause-named
returns-in_ok-sorted_ends-in-Some-2-clause-named c =
    let t : Timeline = c.args.self.now in
    let again : List Done = c.deref-2.result.now in
    let batches : List (List Entry) = commits_of (take (length again - c.in-Some-start_of_last.start) (drop c.in-Some-start_of_last.start again)) in
    let found = are_found c.self.inside c.self.invariant t c.self.view_is c.deref.result.now c.deref-2.result.now c.deref.ensures.value c.deref-2.ensures.value
    c.in-Some-start_of_last.start c.args.version c.in-Some.batches c.args.most c.in-Some-start_of_last.ensures.1 c.in-Some.ensures
    true (sym (ap is_some c.in-Some-2.is) ∙ c.in_ok-named.ensures.listed) in
    let ends : List Ends = c.in_ok-sorted_ends-in-Some-2.field-0.items in
    let named : c.in-Some-2.named.items ≡ named_in_all batches = rw c.in-Some-2.is at c.in_ok-named.ensures.named in
    let listed : (u v : ℕ) → is_listed ends u v ≡ is_listed (named_in_all batches) u v =
    λ u v. c.in_ok-sorted_ends-in-Some-2.ensures.listed u v ∙ ap (λ (ps : List Ends). is_listed ps u v) (c.deref-in-Some-2.ensures.value ∙ named) in
    (c.in_ok-sorted_ends-in-Some-2.ensures.ascending, λ u v. listed u v ∙ ap (λ (bs : List (List Entry)). is_listed (named_in_all bs) u v) (sym found.since.all))

pub returns-in_ok-sorted_ends-in-Some-2-clause-listed : goal.returns-in_ok-sorted_ends-in-Some-2-clause-listed
returns-in_ok-sorted_ends-in-Some-2-clause-listed c =
    let t : Timeline = c.args.self.now in
    let found = are_found c.self.inside c.self.invariant t c.self.view_is c.deref.result.now c.deref-2.result.now c.deref.ensures.value c.deref-2.ensures.value
    c.in-Some-start_of_last.start c.args.version c.in-Some.batches c.args.most c.in-Some-start_of_last.ensures.1 c.in-Some.ensures
    true (sym (ap is_some c.in-Some-2.is) ∙ c.in_ok-named.ensures.listed) in
    found.listed

pub returns-in-None-clause-listed : goal.returns-in-None-clause-listed
returns-in-None-clause-listed c =
    let t : Timeline = c.args.self.now in
    let found = are_found c.self.inside c.self.invariant t c.self.view_is c.deref.result.now c.deref-2.result.now c.deref.ensures.value c.deref-2.ensures.value
    c.in-Some-start_of_last.start c.args.version c.in-Some.batches c.args.most c.in-Some-start_of_last.ensures.1 c.in-Some.ensures
    false (sym (ap is_some c.in-None.is) ∙ c.in_ok-named.ensures.listed) in
    found.listed
