-- Proofs of `push_bits`, src/members.rt.
use Rattle.std.proofs.Common.{◌≡◌, ◌+◌, ◌^◌, ◌<◌, ◌++◌, ◌∷◌, [], ap, ◌∙◌, rules, bit_and, ◌-◌}
use Rattle.vertex_sets.specs.inside.Words.{bit_members}
use Rattle.vertex_marks.proofs.Naming.{lowest_listed, fewer_left, bits_listed}
use Rattle.vertex_marks.proofs.members.push_bits.Goals as goal
use lib.Count.{count_trailing_zeros}

pub bits-smaller : goal.bits-smaller
bits-smaller c =
    let fits : c.bits.left < 2 ^ 64 = search rules in
    fewer_left c.args.low c.bits.left c.bits-test.true fits

pub bits-preserved : goal.bits-preserved
bits-preserved c =
    let left = c.bits.left in
    let fits : left < 2 ^ 64 = search rules in
    let pushed : c.push.new.self.items ≡ c.bits.found.items ++ (c.args.low + count_trailing_zeros 64 left) ∷ [] = search rules in
    ap (λ xs. xs ++ bit_members 64 c.args.low (bit_and left (left - 1))) pushed
    ∙ lowest_listed c.bits.found.items c.args.low left c.bits-test.true fits ∙ c.bits.invariant

pub returns : goal.returns
returns c = bits_listed c.bits.found.items _ c.args.low c.bits.left c.bits-test.false c.bits.invariant
