-- Proofs of `changed_vertices`, src/modified.rt.
use Rattle.std.proofs.Common.{◌≡◌, ◌∷◌, ◌++◌, [], ℕ, ◌<◌, ◌≤◌, ◌+◌, List, length, drop, get_or, sym, ap, ◌∙◌, subst, arith}
use Rattle.std.proofs.lemmas.List.{drop_all, drop_more}
use Rattle.kernels.specs.Value.{entry}
use Rattle.vectors.specs.declared.changes.EntryChange.{EntryChange}
use Rattle.vertex_sets.specs.VertexSet.{IsAscendingBelow}
use Rattle.vertex_sets.proofs.Ascending.{ascending_end, ascending_weaker}
use Rattle.edge_apply.proofs.Differences.{HasFound, found_all, found_more}
use Rattle.edge_apply.proofs.modified.changed_vertices.Goals as goal
use Rattle.edge_apply.proofs.modified.changed_vertices.Goals.{then-vertex-next-via-then-vertex-next, then-vertex-next-via-else-vertex-next+then-vertices-vertex}

pub changes-preserved : goal.changes-preserved
changes-preserved c =
    let n = c.args.vertices in
    let xs = c.args.changes.now in
    let i = c.changes.change-index in
    let d : EntryChange = c.change-item.result in
    let one = get_or xs i d in
    let v = c.vertex-vertex.result in
    let own : v ≡ one.vertex = c.vertex-vertex.ensures ∙ ap (λ (e : EntryChange). e.vertex) c.change-item.is in
    let next = c.changes.next in
    let members = c.changes.members.items in
    let inside : i < length xs = c.changes-test.true in
    let from : next ≤ v = omega (arith, c.if-vertex-next.false) in
    let below : v < n = omega (arith, c.if-vertices-vertex.false) in
    let items = c.in_ok-push.ensures.items in
    record {
      inside = omega (arith, below);
      ascending = subst (λ (ks : List ℕ). IsAscendingBelow (v + 1) ks) (sym items) (ascending_end v (v + 1) members (ascending_weaker next v members from c.changes.invariant.ascending) (omega arith));
      found = λ before after vector e.
          let old = entry before vector in
          let new = entry after vector in
          let left = subst (λ (ks : List EntryChange). HasFound n old new members next ks) (drop_more xs i d inside) (c.changes.invariant.found before after vector e) in
          let more = found_more n old new members next one (drop (i + 1) xs) left in
          subst (λ (ks : List ℕ). HasFound n old new ks (v + 1) (drop (i + 1) xs)) (sym items)
          (subst (λ (u : ℕ). HasFound n old new (members ++ u ∷ []) (u + 1) (drop (i + 1) xs)) (sym own) more.2);
    }

pub changes-preserved-then-vertex-next : goal.changes-preserved-then-vertex-next
changes-preserved-then-vertex-next c =
    let n = c.args.vertices in
    let xs = c.args.changes.now in
    let i = c.changes.change-index in
    let d : EntryChange = c.change-item.result in
    let one = get_or xs i d in
    let own : c.vertex-vertex.result ≡ one.vertex = c.vertex-vertex.ensures ∙ ap (λ (e : EntryChange). e.vertex) c.change-item.is in
    let next = c.changes.next in
    let members = c.changes.members.items in
    let inside : i < length xs = c.changes-test.true in
    record {
      inside = c.changes.invariant.inside;
      ascending = c.changes.invariant.ascending;
      found = λ before after vector e.
          let old = entry before vector in
          let new = entry after vector in
          let left = subst (λ (ks : List EntryChange). HasFound n old new members next ks) (drop_more xs i d inside) (c.changes.invariant.found before after vector e) in
          let more = found_more n old new members next one (drop (i + 1) xs) left in
          let from = more.0 in
          let below = more.1 in
          absurd (elim c.then-vertex-next.branch [
            | then-vertex-next-via-then-vertex-next w ↦ (let t = w.if-vertex-next.true in omega (arith, t, from, own))
            | then-vertex-next-via-else-vertex-next+then-vertices-vertex w ↦ (let t = w.if-vertices-vertex.true in omega (arith, t, below, own))
          ]);
    }

pub returns-clause-members : goal.returns-clause-members
returns-clause-members c before after vector e =
    let n = c.args.vertices in
    let xs = c.args.changes.now in
    let i = c.changes.change-index in
    let old = entry before vector in
    let new = entry after vector in
    let all : length xs ≤ i = c.changes-test.false in
    found_all n old new c.changes.members.items c.changes.next
    (subst (λ (ks : List EntryChange). HasFound n old new c.changes.members.items c.changes.next ks) (drop_all i xs all) (c.changes.invariant.found before after vector e))
