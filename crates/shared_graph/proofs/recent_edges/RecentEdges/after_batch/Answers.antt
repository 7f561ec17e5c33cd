-- Proofs of `after_batch`, src/recent_edges.rt.
use Rattle.std.proofs.Common.{◌≡◌, ◌-◌, ◌++◌, false, List, drop, length, take, ap, ◌∙◌, arith}
use Rattle.std.proofs.lemmas.Bool.{le-ltb}
use Rattle.tree_batch.specs.declared.batch.Entry.{Entry as Change}
use Rattle.edge_differences.specs.Named.{named_in}
use Rattle.version_list.specs.Since.{grows}
use Rattle.shared_graph.specs.declared.recent_edges.NamedEdge.{NamedEdge}
use Rattle.shared_graph.specs.declared.recent_edges.RecentEdges.{RecentEdges}
use Rattle.shared_graph.specs.inside.Recent.{edges_of_version}
use Rattle.shared_graph.proofs.Recent.{recent_more, rest_kept}
use Rattle.shared_graph.proofs.recent_edges.RecentEdges.after_batch.Goals as goal

pub returns : goal.returns
returns c =
    let batch : List Change = c.args.batch.now in
    let old : RecentEdges = c.args.self.now in
    let new : RecentEdges = record { since = c.since_without-since.result; named = c.push_edges.new.named } in
    let start = c.saturating_sub-dropped.result in
    let again : List NamedEdge = c.deref.result.now in
    let steady : grows batch ≡ false = le-ltb 0 _ (omega (arith, c.if-vertices_after-gt0.false, c.vertices_after.ensures)) in
    let kept : c.extend_from_slice.new.self.items ≡ drop start old.named.items =
    rest_kept old.named.items again c.extend_from_slice.new.self.items start c.deref.ensures.value
    (c.in_ok-extend_from_slice.ensures.items ∙ ap (λ (es : List NamedEdge). es ++ take (length again - start) (drop start again)) c.in_ok-named.ensures.items) in
    let named : new.named.items ≡ drop start old.named.items ++ edges_of_version c.args.version (named_in batch) =
    c.in_ok-push_edges.ensures ∙ ap (λ (es : List NamedEdge). es ++ edges_of_version c.args.version (named_in batch)) kept in
    λ batches next are. recent_more batches batch old new c.args.version (drop start old.named.items) next are c.since_without-since.ensures.later c.since_without-since.ensures.same steady named
