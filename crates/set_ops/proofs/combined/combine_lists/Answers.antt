-- Proofs of `combine_lists`, src/combined.rt.
use Rattle.std.proofs.Common.{◌≡◌, length, refl, ◌∙◌, ap, arith}
use Rattle.std.specs.Map.{keys_of}
use Rattle.ascending_lists.specs.Operations.{most}
use Rattle.ascending_lists.specs.Ascending.{least}
use Rattle.ascending_lists.proofs.Ascending.{ascends_from}
use Rattle.tail_codec.specs.Operations.{combined_maps, on_keys}
use Rattle.tail_codec.proofs.Writing.{few_entries}
use Rattle.set_ops.proofs.Laws.{combined_ascends, combined_length}
use Rattle.set_ops.proofs.combined.combine_lists.Goals as goal

pub merge_entries-requires-clause-first : goal.merge_entries-requires-clause-first
merge_entries-requires-clause-first c = ascends_from 0 (least c.args.task.base) (keys_of c.args.first.now) (omega arith) c.requires.first_over

pub merge_entries-requires-clause-second : goal.merge_entries-requires-clause-second
merge_entries-requires-clause-second c = ascends_from 0 (least c.args.task.base) (keys_of c.args.second.now) (omega arith) c.requires.second_over

pub most-most-requires : goal.most-most-requires
most-most-requires c = omega (
  arith,
  c.len.ensures,
  c.len-2.ensures,
  few_entries (least c.args.task.base) c.args.first.now c.requires.first_over,
  few_entries (least c.args.task.base) c.args.second.now c.requires.second_over,
)

pub overflow_sub-common : goal.overflow_sub-common
overflow_sub-common c =
    let op = c.args.task.operation in
    let is : c.lent-list.result ≡ combined_maps op c.args.first.now c.args.second.now = c.lent-list.ensures ∙ c.in_ok-list.ensures in
    let long : c.len-3.result ≡ length (combined_maps op c.args.first.now c.args.second.now) = c.len-3.ensures ∙ ap length is in
    rw (long, c.most-most.ensures, c.on_keys.ensures, c.len.ensures, c.len-2.ensures) (combined_length op c.args.first.now c.args.second.now)

pub from_ascending-requires : goal.from_ascending-requires
from_ascending-requires c =
    let op = c.args.task.operation in
    let is : c.lent-list.result ≡ combined_maps op c.args.first.now c.args.second.now = c.lent-list.ensures ∙ c.in_ok-list.ensures in
    rw is (combined_ascends op (least c.args.task.base) c.args.first.now c.args.second.now c.requires.first_over c.requires.second_over)

pub returns : goal.returns
returns c =
    let op = c.args.task.operation in
    let xs = c.args.first.now in
    let ys = c.args.second.now in
    let is : c.lent-list.result ≡ combined_maps op xs ys = c.lent-list.ensures ∙ c.in_ok-list.ensures in
    let long : c.len-3.result ≡ length (combined_maps op xs ys) = c.len-3.ensures ∙ ap length is in
    let room : c.most-most.result ≡ most (on_keys op) (length xs) (length ys) = c.most-most.ensures ∙ rw (c.on_keys.ensures, c.len.ensures, c.len-2.ensures) refl in
    record {
      set = rw is at c.in_ok-part.ensures;
      count = omega (arith, long, room, combined_length op xs ys);
    }
