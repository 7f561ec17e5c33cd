-- Proofs of `block_of`, src/source_degrees.rt.
use Rattle.std.proofs.Common.{◌≡◌, ◌*◌, ◌/◌, get_or, length, arith}
use Rattle.push_engine.proofs.SourceTotals.{in_a_row}
use Rattle.push_engine.proofs.source_degrees.block_of.Goals as goal

pub returns : goal.returns
returns c =
    let us = c.args.run.now in
    let count : length us ≡ 64 = omega (arith, c.if-run-ne64.false) in
    in_a_row (64 * (get_or us 0 0 / 64)) 64 us count (λ k inside. c.vertices.invariant k (omega (arith, inside, count, c.vertices-test.false)))
