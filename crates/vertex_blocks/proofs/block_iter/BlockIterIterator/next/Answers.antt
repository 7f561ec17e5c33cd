-- Proofs of `next`, src/block_iter.rt.
use Rattle.std.proofs.Common.{◌≡◌, [], ◌<◌, length, sym, ◌∙◌, ap, arith}
use Rattle.std.proofs.lemmas.List.{nil_from_length}
use Rattle.pages.specs.Vertices.{neighbours_of}
use Rattle.vertex_blocks.proofs.Vertices.{from_end, from_none, from_some}
use Rattle.vertex_blocks.proofs.block_iter.BlockIterIterator.next.Goals as goal

pub returns-then-len-gt0-clause-steps : goal.returns-then-len-gt0-clause-steps
returns-then-len-gt0-clause-steps c =
    let l = c.loop-self in
    let es = l.self-inside.block.now in
    let v = l.self-inside.vertex in
    let some : 0 < length (neighbours_of v es) = omega (arith, c.if-len-gt0.true, c.len.ensures.count, ap length c.neighbours-set.ensures) in
    rw c.neighbours-set.ensures (sym l.invariant.coming ∙ from_some 0 64 v es l.invariant.block.map some)

pub returns-then-len-gt0-clause-goes : goal.returns-then-len-gt0-clause-goes
returns-then-len-gt0-clause-goes c = record { on = λ _. (tt, tt, rw (returns-then-len-gt0-clause-steps c) (omega arith)); keeps = tt; rests = λ _. tt }

pub loop-self-preserved : goal.loop-self-preserved
loop-self-preserved c =
    let l = c.loop-self in
    let es = l.self-inside.block.now in
    let v = l.self-inside.vertex in
    let none : neighbours_of v es ≡ [] = nil_from_length (neighbours_of v es) (omega (arith, c.if-len-gt0.false, c.len.ensures.count, ap length c.neighbours-set.ensures)) in
    record {
      coming = sym (from_none 0 64 v es l.invariant.block.map l.invariant.block.lists none) ∙ l.invariant.coming;
      block = l.invariant.block;
    }

pub returns-clause-steps : goal.returns-clause-steps
returns-clause-steps c =
    let l = c.loop-self in
    let end = from_end 0 64 l.self-inside.vertex l.self-inside.block.now l.invariant.block.map (omega (arith, c.loop-self-test.false)) in
    (sym l.invariant.coming ∙ end, end)
