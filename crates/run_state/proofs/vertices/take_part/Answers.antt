-- Proofs of `take_part`, src/vertices.rt.
use Rattle.std.proofs.Common.{◌≡◌, ◌∷◌, ◌<◌, length, drop, sym, ◌∙◌, arith}
use Rattle.std.proofs.lemmas.List.{length-set}
use Rattle.run_state.proofs.Parts.{next_dropped, next_inside, put_taken}
use Rattle.run_state.proofs.vertices.take_part.Goals as goal

pub positions-preserved : goal.positions-preserved
positions-preserved c =
    let all = c.args.vertices.now in
    let i = c.positions.position in
    let v = c.in-Some.vertex in
    let room = c.positions.invariant.room in
    let within : i < length c.positions.part = omega arith in
    let left : drop i all ≡ v ∷ c.next.new.self = sym c.positions.invariant.rest ∙ c.in-Some.ensures.steps in
    let inside = next_inside all i v c.next.new.self left in
    record {
      room = length-set c.positions.part i v ∙ room;
      few = omega arith;
      taken = put_taken c.positions.part all i v c.next.new.self within c.positions.invariant.taken left;
      rest = next_dropped all i v c.next.new.self left;
    }
