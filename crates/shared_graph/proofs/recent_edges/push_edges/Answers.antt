-- Proofs of `push_edges`, src/recent_edges.rt.
use Rattle.std.proofs.Common.{◌≡◌, ◌<◌, ◌++◌, List, Option, option_to_list, Vec, Global, length, get_or, sym, ap, ◌∙◌, arith}
use Rattle.std.proofs.lemmas.List.{append-nil}
use Rattle.tree_batch.specs.declared.batch.Entry.{Entry as Change}
use Rattle.tree_batch.specs.Edge.{Ends, named_by}
use Rattle.shared_graph.specs.declared.recent_edges.NamedEdge.{NamedEdge}
use Rattle.shared_graph.specs.inside.Recent.{edges_of_version}
use Rattle.shared_graph.proofs.Recent.{edges_more}
use Rattle.shared_graph.proofs.recent_edges.push_edges.Goals as goal
use Rattle.shared_graph.proofs.recent_edges.push_edges.Goals.{in-Some+in_ok-push, in_default}

pub entries-preserved : goal.entries-preserved
entries-preserved c =
    let xs : List Change = c.args.batch.now in
    let i = c.entries.index in
    let x : Change = c.entry.result in
    let before : List NamedEdge = c.entries.named.items in
    let inside : i < length xs = omega (arith, c.entries-test.true, c.len-index-end.ensures) in
    let named : c.ends.result ≡ named_by (get_or xs i x) = c.ends.ensures ∙ ap named_by (c.entry.ensures x) in
    edges_more c.args.version xs i x c.ends.result c.args.named.now.items before c.match-ends.named.items inside named c.entries.invariant (elim c.match-ends.branch [
      | in-Some+in_ok-push w ↦
          ap (λ (v : Vec NamedEdge Global). v.items) w.named-is ∙ w.in_ok-push.ensures.items
          ∙ ap (λ (o : Option Ends). before ++ edges_of_version c.args.version (option_to_list o)) (sym w.in-Some.is)
      | in_default w ↦
          ap (λ (v : Vec NamedEdge Global). v.items) w.named-is ∙ sym (append-nil before)
          ∙ ap (λ (o : Option Ends). before ++ edges_of_version c.args.version (option_to_list o)) (sym w.in_default.is)
    ])
