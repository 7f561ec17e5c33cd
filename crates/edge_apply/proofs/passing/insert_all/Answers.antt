-- Proofs of `insert_all`, src/passing.rt.
use Rattle.std.proofs.Common.{◌<◌, length, get_or, ap, ◌∙◌, arith}
use Rattle.kernels.specs.EdgeApply.{is_member}
use Rattle.vertex_sets.specs.VertexSet.{VertexSubset}
use Rattle.edge_apply.proofs.Inserted.{member_added, member_inserted, member_left_out}
use Rattle.edge_apply.proofs.passing.insert_all.Goals as goal
use Rattle.edge_apply.proofs.passing.insert_all.Goals.{then-vertex-vertices+in_ok-insert, else-vertex-vertices}

pub vertices-preserved : goal.vertices-preserved
vertices-preserved c =
    let us = c.args.vertices.now in
    let i = c.vertices.vertex-index in
    let u = get_or us i 0 in
    let was = c.args.set.now in
    let before = c.vertices.set in
    let invariant = c.vertices.invariant in
    let inside : i < length us = c.vertices-test.true in
    let room = c.vertices-in-vertices.ensures in
    elim c.if-vertex-vertices.branch [
      | then-vertex-vertices+in_ok-insert w ↦
          (let added = w.in_ok-insert.ensures.added in
          record {
            vertices = ap (λ (s : VertexSubset). s.vertices) w.set-is ∙ added.vertices ∙ invariant.vertices;
            form = ap (λ (s : VertexSubset). s.form) w.set-is ∙ added.form ∙ invariant.form;
            members = λ v l. member_inserted v us i was.members before.members c.if-vertex-vertices.set.members inside (invariant.members v l)
                (ap (λ (s : VertexSubset). is_member v s.members) w.set-is ∙ member_added u v before w.insert.new.self added);
          })
      | else-vertex-vertices w ↦
          (let past = w.if-vertex-vertices.false in
          record {
            vertices = ap (λ (s : VertexSubset). s.vertices) w.set-is ∙ invariant.vertices;
            form = ap (λ (s : VertexSubset). s.form) w.set-is ∙ invariant.form;
            members = λ v l. member_left_out v us i was.members c.if-vertex-vertices.set.members inside
                (let count = invariant.vertices in omega (arith, past, count, room, l))
                (ap (λ (s : VertexSubset). is_member v s.members) w.set-is ∙ invariant.members v l);
          })
    ]
