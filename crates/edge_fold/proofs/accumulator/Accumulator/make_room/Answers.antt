-- Proofs of `make_room`, src/joins.rt.
use Rattle.std.proofs.Common.{◌+◌, ◌/◌, ◌*◌, ◌≤◌, ◌∙◌, arith, rules, vec_len}
use Rattle.vertex_marks.specs.Marks.{room}
use Rattle.edge_fold.proofs.accumulator.Accumulator.make_room.Goals as goal

pub invariant_of-self-2 : goal.invariant_of-self-2
invariant_of-self-2 c =
    let now = c.args.self.now in
    let words = vec_len c.lengthen.new.numbers / 64 in
    let same : room now.marks ≤ vec_len now.values = now.same in
    let longer : vec_len now.values ≤ vec_len c.lengthen.new.numbers = c.lengthen.ensures.longer in
    let enough : (c.args.vertices + 63) / 64 * 64 ≤ vec_len c.lengthen.new.numbers = search rules in
    let most = c.make_room.ensures.most words (omega (arith, same, longer)) (omega (arith, enough)) in
    record { same = omega (arith, most); inside = omega (arith, longer, now.inside); whole = λ v low. c.make_room.ensures.marks v ∙ now.whole v low }
