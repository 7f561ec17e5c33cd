-- Proofs of `mark_destinations`, src/reached.rt.
use Rattle.std.proofs.Common.{ℕ, ◌==◌, ◌&&◌, ◌||◌, ◌∙◌}
use Rattle.vertex_marks.specs.Marks.{is_marked}
use Rattle.follow_engine.specs.Reached.{may_pass}
use Rattle.follow_engine.proofs.Marked.{edge_more, tested_all}
use Rattle.follow_engine.proofs.reached.mark_destinations.Goals as goal

pub edges-preserved : goal.edges-preserved
edges-preserved c = record {
  room = c.mark_if.ensures.room ∙ c.edges.invariant.room;
  marks = λ v l.
      edge_more c.args.now c.args.was c.args.edges.now c.edges.edge-index _ v (is_marked c.args.marks.now v) (is_marked c.edges.marks v) (is_marked c.mark_if.new.marks v) c.either_may_pass.result
      c.edges-test.true (c.edges.invariant.marks v l) c.either_may_pass.ensures (c.mark_if.ensures.marks v l);
}

pub returns-clause-marks : goal.returns-clause-marks
returns-clause-marks c v l =
    tested_all (λ (p : ℕ × ℕ). (may_pass c.args.now p.0 || may_pass c.args.was p.0) && (p.1 == v)) c.args.edges.now c.edges.edge-index (is_marked c.args.marks.now v) (is_marked c.edges.marks v)
    c.edges-test.false (c.edges.invariant.marks v l)
