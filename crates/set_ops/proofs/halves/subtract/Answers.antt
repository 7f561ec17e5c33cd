-- Proofs of `subtract`, src/halves.rt.
use Rattle.std.proofs.Common.{◌≡◌, length, ◌∙◌, ap, arith}
use Rattle.std.specs.Map.{keys_of}
use Rattle.ascending_lists.specs.Ascending.{least}
use Rattle.ascending_lists.specs.MapOperations.{without_keys}
use Rattle.ascending_lists.proofs.Differences.{difference_ascends}
use Rattle.ascending_lists.proofs.MapDifferences.{keys_without}
use Rattle.tail_codec.specs.declared.operation.MapOperation.TheVariants.{Difference}
use Rattle.set_ops.proofs.Laws.{combined_length}
use Rattle.set_ops.proofs.halves.subtract.Goals as goal

pub overflow_sub-common : goal.overflow_sub-common
overflow_sub-common c =
    let xs = c.args.first.now in
    let ys = c.args.second.now.entries in
    let is : c.lent-list.result ≡ without_keys xs (keys_of ys) = c.lent-list.ensures ∙ c.in_ok-list.ensures in
    omega (arith, c.len.ensures, c.len-2.ensures, ap length is, combined_length Difference xs ys)

pub from_ascending-requires : goal.from_ascending-requires
from_ascending-requires c =
    let xs = c.args.first.now in
    let ys = c.args.second.now.entries in
    let is : c.lent-list.result ≡ without_keys xs (keys_of ys) = c.lent-list.ensures ∙ c.in_ok-list.ensures in
    rw (is, keys_without xs (keys_of ys)) (difference_ascends (least c.args.base) (keys_of xs) (keys_of ys) c.requires)

pub returns : goal.returns
returns c =
    let xs = c.args.first.now in
    let ys = c.args.second.now.entries in
    let is : c.lent-list.result ≡ without_keys xs (keys_of ys) = c.lent-list.ensures ∙ c.in_ok-list.ensures in
    record {
      set = rw (is, c.chunk_size.ensures) at c.in_ok-part.ensures;
      count = omega (arith, c.len.ensures, c.len-2.ensures, ap length is, combined_length Difference xs ys);
    }
