-- Proofs of `range_word`, src/block_ranges.rt.
use Rattle.std.proofs.Common.{◌≡◌, ◌-◌, ◌*◌, ◌^◌, ◌≤◌, min, arith}
use Rattle.std.proofs.lemmas.Nat.{pow_pos}
use Rattle.std.proofs.Math.Nat.{pow-le-pow_right}
use Rattle.pull_engine.proofs.WordBits.{range_bits}
use Rattle.pull_engine.proofs.block_ranges.range_word.Goals as goal

pub overflow_sub-result : goal.overflow_sub-result
overflow_sub-result c =
    let start = c.min-start.result in
    let end = c.min-end.result in
    let order : start ≤ end = omega (arith, c.min-start.ensures, c.min-end.ensures, c.saturating_sub.ensures, c.saturating_sub-2.ensures, c.requires.order) in
    let more : 2 ^ start ≤ 2 ^ end = pow-le-pow_right (omega arith) order in
    omega (arith, more, c.ones_below.ensures, c.ones_below-2.ensures)

pub returns : goal.returns
returns c v at =
    let k = c.args.block in
    let start = c.min-start.result in
    let end = c.min-end.result in
    let starts : start ≡ min (c.args.low - 64 * k) 64 = omega (arith, c.min-start.ensures, c.saturating_sub.ensures) in
    let ends : end ≡ min (c.args.high - 64 * k) 64 = omega (arith, c.min-end.ensures, c.saturating_sub-2.ensures) in
    let is : c.ones_below.result - c.ones_below-2.result ≡ 2 ^ end - 2 ^ start = omega (arith, c.ones_below.ensures, c.ones_below-2.ensures, pow_pos start, pow_pos end) in
    range_bits (64 * k) c.args.low c.args.high start end (c.ones_below.result - c.ones_below-2.result) v starts ends is (omega (arith, at)) (omega (arith, at))
