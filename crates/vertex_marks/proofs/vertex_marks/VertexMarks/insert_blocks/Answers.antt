-- Proofs of `insert_blocks`, src/marking.rt.
use Rattle.std.proofs.Common.{arith}
use Rattle.vertex_marks.proofs.Setting.{all_marked, all_summed}
use Rattle.vertex_marks.proofs.vertex_marks.VertexMarks.insert_blocks.Goals as goal

pub invariant_of-self : goal.invariant_of-self
invariant_of-self c =
    let self = c.args.self.now in
    let summary = c.set_all.new.words.items in
    let words = c.set_all-2.new.words.items in
    let sums = c.set_all.ensures in
    let marks = c.set_all-2.ensures in
    record {
      few = omega (arith, marks.len, self.few);
      short = omega (arith, sums.len, self.short);
      covered = omega (arith, marks.len, sums.len, self.covered);
      summed = all_summed words summary c.len-sums.result (omega (arith, marks.len, self.covered)) sums.first;
    }

pub returns-clause-marks : goal.returns-clause-marks
returns-clause-marks c v =
    all_marked c.args.self.now.words.items c.set_all-2.new.words.items c.args.blocks v c.set_all-2.ensures.first c.set_all-2.ensures.others
