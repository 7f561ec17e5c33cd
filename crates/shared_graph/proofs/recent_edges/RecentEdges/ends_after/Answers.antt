-- Proofs of `ends_after`, src/recent_edges.rt.
use Rattle.std.proofs.Common.{◌≡◌, ◌<◌, ◌≤◌, nat_lt, cond, true, false, List, [], ◌∷◌, ◌++◌, Vec, Global, length, take, refl, sym, ap, ◌∙◌, arith}
use Rattle.std.proofs.lemmas.Bool.{le-ltb, lt-ltb}
use Rattle.std.proofs.lemmas.List.{append-nil, take_all}
use Rattle.std.proofs.lemmas.Result.{IfOk-weaker}
use Rattle.tree_batch.specs.Edge.{Ends}
use Rattle.edge_differences.specs.Listed.{is_listed}
use Rattle.shared_graph.specs.declared.recent_edges.NamedEdge.{NamedEdge}
use Rattle.shared_graph.specs.inside.Recent.{named_after}
use Rattle.shared_graph.proofs.Recent.{after_more}
use Rattle.shared_graph.proofs.recent_edges.RecentEdges.ends_after.Goals as goal
use Rattle.shared_graph.proofs.recent_edges.RecentEdges.ends_after.Goals.{then-edge-version+in_ok-push, else-edge-version}

pub edges-preserved : goal.edges-preserved
edges-preserved c =
    let es : List NamedEdge = c.args.self.now.named.items in
    let i = c.edges.index in
    let k = c.args.version in
    let e : NamedEdge = c.index-edge.result.now in
    let p : Ends = (e.source, e.destination) in
    let inside : i < length es = omega (arith, c.edges-test.true, c.len-index-end.ensures, c.args.self.now.named.ok.0) in
    let more = after_more k i es e inside c.index-edge.ensures in
    elim c.if-edge-version.branch [
      | then-edge-version+in_ok-push w ↦
          let is : nat_lt k e.version ≡ true = lt-ltb k e.version w.if-edge-version.true in
          let last : cond (nat_lt k e.version) (p ∷ []) [] ≡ p ∷ [] = rw (is) refl in
          ap (λ (v : Vec Ends Global). v.items) w.ends-is ∙ w.in_ok-push.ensures.items
          ∙ ap (λ (ps : List Ends). ps ++ p ∷ []) c.edges.invariant
          ∙ sym (more ∙ ap (λ (ps : List Ends). named_after k (take i es) ++ ps) last)
      | else-edge-version w ↦
          let is : nat_lt k e.version ≡ false = le-ltb k e.version (omega (arith, w.if-edge-version.false)) in
          let last : cond (nat_lt k e.version) (p ∷ []) [] ≡ [] = rw (is) refl in
          ap (λ (v : Vec Ends Global). v.items) w.ends-is ∙ c.edges.invariant
          ∙ sym (more ∙ ap (λ (ps : List Ends). named_after k (take i es) ++ ps) last ∙ append-nil (named_after k (take i es)))
    ]

pub returns-clause-listed : goal.returns-clause-listed
returns-clause-listed c =
    let es : List NamedEdge = c.args.self.now.named.items in
    let k = c.args.version in
    let all : length es ≤ c.edges.index = omega (arith, c.edges-test.false, c.len-index-end.ensures, c.args.self.now.named.ok.0) in
    let ends : c.deref.result.now ≡ named_after k es = c.deref.ensures.value ∙ c.edges.invariant ∙ ap (named_after k) (take_all c.edges.index es all) in
    IfOk-weaker c.sorted_ends.result _ _ (λ sorted is u v. is u v ∙ ap (λ (ps : List Ends). is_listed ps u v) ends) c.sorted_ends.ensures.listed
