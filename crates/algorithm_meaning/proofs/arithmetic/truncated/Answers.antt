-- Proofs of `truncated`, src/arithmetic.rt.
use Rattle.std.proofs.Common.{w64, ◌∙◌}
use Rattle.std.proofs.lemmas.Int.{to_z-of_z}
use Rattle.algorithm_meaning.proofs.Wrapping.{wrapping_div-wrapped}
use Rattle.algorithm_meaning.proofs.arithmetic.truncated.Goals as goal

pub returns : goal.returns
returns c =
    let left = to_z-of_z w64 c.args.left c.ranges.left in
    let right = to_z-of_z w64 c.args.right c.ranges.right in
    to_z-of_z w64 c.wrapping_div.result (record { sfits = c.wrapping_div.type_inv }) ∙ c.wrapping_div.ensures ∙ rw (left, right) (wrapping_div-wrapped c.args.left c.args.right c.ranges.left)
