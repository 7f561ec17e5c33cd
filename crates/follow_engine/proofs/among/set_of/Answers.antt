-- Proofs of `set_of`, src/among.rt.
use Rattle.std.proofs.Common.{◌<◌, ◌≤◌, ℕ, List, [], length, get_or, ap, ◌∙◌, arith}
use Rattle.std.proofs.lemmas.List.{take_all}
use Rattle.kernels.specs.EdgeApply.{is_member}
use Rattle.vertex_sets.specs.VertexSet.{VertexSubset}
use Rattle.edge_apply.proofs.Inserted.{member_added, member_inserted, member_left_out}
use Rattle.follow_engine.proofs.among.set_of.Goals as goal
use Rattle.follow_engine.proofs.among.set_of.Goals.{then-member-vertices+in_ok-insert, else-member-vertices}

pub members-init : goal.members-init
members-init c = record {
  vertices = ap (λ (s : VertexSubset). s.vertices) c.in_ok-set.ensures.members;
  members = λ v l. ap (λ (s : VertexSubset). is_member v s.members) c.in_ok-set.ensures.members;
}

pub members-preserved : goal.members-preserved
members-preserved c =
    let us = c.args.members.now in
    let i = c.members.member-index in
    let before = c.members.set in
    let invariant = c.members.invariant in
    let none : List ℕ = [] in
    let inside : i < length us = c.members-test.true in
    elim c.if-member-vertices.branch [
      | then-member-vertices+in_ok-insert w ↦
          (let added = w.in_ok-insert.ensures.added in
          record {
            vertices = ap (λ (s : VertexSubset). s.vertices) w.set-is ∙ added.vertices ∙ invariant.vertices;
            members = λ v l. member_inserted v us i none before.members c.if-member-vertices.set.members inside (invariant.members v l)
                (ap (λ (s : VertexSubset). is_member v s.members) w.set-is ∙ member_added (get_or us i 0) v before w.insert.new.self added);
          })
      | else-member-vertices w ↦
          (let past = w.if-member-vertices.false in
          record {
            vertices = ap (λ (s : VertexSubset). s.vertices) w.set-is ∙ invariant.vertices;
            members = λ v l. member_left_out v us i none c.if-member-vertices.set.members inside (omega (arith, past, l))
                (ap (λ (s : VertexSubset). is_member v s.members) w.set-is ∙ invariant.members v l);
          })
    ]

pub returns : goal.returns
returns c v l =
    let us = c.args.members.now in
    let all : length us ≤ c.members.member-index = c.members-test.false in
    c.members.invariant.members v l ∙ ap (is_member v) (take_all c.members.member-index us all)
