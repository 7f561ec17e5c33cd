-- Proofs of `present_in`, src/blocks.rt.
use Rattle.std.proofs.Common.{◌≡◌, sym, ◌∙◌, arith}
use Rattle.std.specs.Int.{bit_at}
use Rattle.std.proofs.lemmas.Nat.Bits.{bit_at_or}
use Rattle.pull_engine.proofs.blocks.present_in.Goals as goal

pub returns : goal.returns
returns c u lt none =
    let page = c.present.result in
    let own = c.packed-own.result.1 in
    let both = bit_at_or page own u in
    let first : bit_at page u ≡ 0 = omega (arith, both, none) in
    let second : bit_at own u ≡ 0 = omega (arith, both, none) in
    sym (c.packed-own.ensures u lt second) ∙ c.present.ensures u lt first
