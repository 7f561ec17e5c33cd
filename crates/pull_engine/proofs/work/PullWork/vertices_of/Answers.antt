-- Proofs of `vertices_of`, src/pieces.rt.
use Rattle.std.proofs.Common.{arith}
use Rattle.edge_apply.proofs.Listed.{piece_inside}
use Rattle.pull_engine.proofs.work.PullWork.vertices_of.Goals as goal

pub overflow_cast-result : goal.overflow_cast-result
overflow_cast-result c =
    let w = c.args.self.now in
    let inside = piece_inside w.apply.flat.now.vertices w.partition c.args.piece w.whole c.requires.some c.requires.inside in
    let order = inside.0 in
    let last = inside.1 in
    let start = c.piece-indices.ensures.start in
    let count = c.vertices.ensures.count in
    let few = c.vertices.type_inv in
    omega (arith, order, last, start, count, few)

pub overflow_cast-result-2 : goal.overflow_cast-result-2
overflow_cast-result-2 c =
    let w = c.args.self.now in
    let inside = piece_inside w.apply.flat.now.vertices w.partition c.args.piece w.whole c.requires.some c.requires.inside in
    let last = inside.1 in
    let end = c.piece-indices.ensures.end in
    let count = c.vertices.ensures.count in
    let few = c.vertices.type_inv in
    omega (arith, last, end, count, few)

pub returns-clause-order : goal.returns-clause-order
returns-clause-order c =
    let w = c.args.self.now in
    let inside = piece_inside w.apply.flat.now.vertices w.partition c.args.piece w.whole c.requires.some c.requires.inside in
    let order = inside.0 in
    let start = c.piece-indices.ensures.start in
    let end = c.piece-indices.ensures.end in
    omega (arith, order, start, end)

pub returns-clause-within : goal.returns-clause-within
returns-clause-within c =
    let w = c.args.self.now in
    let inside = piece_inside w.apply.flat.now.vertices w.partition c.args.piece w.whole c.requires.some c.requires.inside in
    let last = inside.1 in
    let end = c.piece-indices.ensures.end in
    omega (arith, last, end)
