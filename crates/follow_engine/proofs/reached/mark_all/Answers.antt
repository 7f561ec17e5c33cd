-- Proofs of `mark_all`, src/reached.rt.
use Rattle.std.proofs.Common.{◌==◌, ◌∙◌}
use Rattle.vertex_marks.specs.Marks.{is_marked}
use Rattle.follow_engine.proofs.Marked.{tested_all, tested_more}
use Rattle.follow_engine.proofs.reached.mark_all.Goals as goal

pub named-preserved : goal.named-preserved
named-preserved c = record {
  room = c.mark_if.ensures.room ∙ c.named.invariant.room;
  marks = λ v l.
      tested_more (λ m. m == v) c.args.named.now c.named.vertex-index 0 (is_marked c.args.marks.now v) (is_marked c.named.marks v) (is_marked c.mark_if.new.marks v)
      c.named-test.true (c.named.invariant.marks v l) (c.mark_if.ensures.marks v l);
}

pub returns-clause-marks : goal.returns-clause-marks
returns-clause-marks c v l =
    tested_all (λ m. m == v) c.args.named.now c.named.vertex-index (is_marked c.args.marks.now v) (is_marked c.named.marks v) c.named-test.false (c.named.invariant.marks v l)
