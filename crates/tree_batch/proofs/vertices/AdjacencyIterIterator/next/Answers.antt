-- Proofs of `next`, src/vertices.rt.
use Rattle.std.proofs.Common.{◌≡◌, ap, sym, ◌∙◌, subst, arith}
use Rattle.vertex_blocks.specs.Blocks.{vertices_at, lists_of}
use Rattle.tree_batch.specs.inside.VertexBlocks.{AreGraphBlocks, AreBlocksLeft}
use Rattle.tree_batch.proofs.Walking.{first_small, rest_left, block_begun, vertices_ended, vertices_begun}
use Rattle.tree_batch.proofs.vertices.AdjacencyIterIterator.next.Goals as goal
use Rattle.tree_batch.proofs.vertices.AdjacencyIterIterator.next.Goals.{in-Some+in_default-next, in_default}

-- where the block that was begun has a vertex left
pub overflow_add-result : goal.overflow_add-result
overflow_add-result c =
    let i = c.rounds.self-inside in
    let left = subst (λ o. AreBlocksLeft i.number (vertices_at o) i.rest) c.in-Some.is c.rounds.invariant.left in
    omega (arith, first_small i.number c.in-Some.vertices i.rest c.in-Some-next.vertex c.in-Some-next.neighbours _ left c.in-Some-next.ensures.steps)

pub invariant_of-self : goal.invariant_of-self
invariant_of-self c =
    let i = c.rounds.self-inside in
    let left = subst (λ o. AreBlocksLeft i.number (vertices_at o) i.rest) c.in-Some.is c.rounds.invariant.left in
    rest_left i.number c.in-Some.vertices i.rest c.in-Some-next.vertex c.in-Some-next.neighbours _ left c.in-Some-next.ensures.steps

-- where a block begins
pub rounds-preserved : goal.rounds-preserved
rounds-preserved c =
    let i = c.rounds.self-inside in
    let all = c.args.self.now in
    let later = c.match-self.self-inside.rest in
    let n = c.in_ok-number in
    let ok : AreGraphBlocks later = elim c.match-self.branch [
      | in-Some+in_default-next w ↦ rw w.self-inside-is c.rounds.invariant.left.later
      | in_default w ↦ rw w.self-inside-is c.rounds.invariant.left.later
    ] in
    let ended : lists_of later ≡ all = elim c.match-self.branch [
      | in-Some+in_default-next w ↦
          rw w.self-inside-is (vertices_ended i.number i.vertices i.rest all (ap vertices_at w.in-Some.is ∙ w.in_default-next.ensures.steps.0) c.rounds.invariant.coming)
      | in_default w ↦ rw w.self-inside-is (vertices_ended i.number i.vertices i.rest all (ap vertices_at w.in_default.is) c.rounds.invariant.coming)
    ] in
    let begun = block_begun later c.next-in-rounds.new.self n.number n.block.now ok n.ensures.steps in
    record {
      coming = vertices_begun later c.next-in-rounds.new.self n.number n.block.now c.iter.result all n.ensures.steps c.iter.ensures.vertices ended;
      left = subst (λ b. AreBlocksLeft n.number b c.next-in-rounds.new.self) (sym c.iter.ensures.vertices) begun;
    }
