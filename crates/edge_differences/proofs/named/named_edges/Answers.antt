-- Proofs of `named_edges`, src/named.rt.
use Rattle.std.proofs.Common.{◌≡◌, ◌≤◌, List, length, ap, ◌∙◌}
use Rattle.std.proofs.lemmas.List.{take_all}
use Rattle.std.proofs.lemmas.Result.{IfOk-weaker}
use Rattle.tree_batch.specs.Edge.{Ends}
use Rattle.edge_differences.specs.Listed.{is_listed}
use Rattle.edge_differences.specs.Named.{named_in_all}
use Rattle.edge_differences.proofs.Naming.{all_more}
use Rattle.edge_differences.proofs.Unnamed.{all_changed}
use Rattle.edge_differences.proofs.named.named_edges.Goals as goal

pub batches-preserved : goal.batches-preserved
batches-preserved c =
    all_more c.args.batches.now c.batches.batch-index c.batch-item.result c.batches.ends.items c.push_named.new.ends.items c.batches-test.true c.batch-item.is c.batches.invariant
    c.in_ok-push_named.ensures

pub returns-clause-others : goal.returns-clause-others
returns-clause-others c =
    let bs = c.args.batches.now in
    let all : length bs ≤ c.batches.batch-index = c.batches-test.false in
    let ends : c.deref.result.now ≡ named_in_all bs = c.deref.ensures.value ∙ c.batches.invariant ∙ ap named_in_all (take_all c.batches.batch-index bs all) in
    IfOk-weaker c.sorted_ends.result _ _
    (λ sorted is g ok fit. all_changed g bs sorted.items ok fit (λ u v on. is u v ∙ ap (λ (ps : List Ends). is_listed ps u v) ends ∙ on))
    c.sorted_ends.ensures.listed
