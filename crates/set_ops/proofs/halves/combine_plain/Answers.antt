-- Proofs of `combine_plain`, src/halves.rt.
use Rattle.std.proofs.Common.{◌≡◌, ◌∙◌}
use Rattle.tail_codec.specs.declared.operation.MapOperation.TheVariants.{Union, UnionKeepingFirst}
use Rattle.set_ops.specs.inside.Answers.{IsCombined}
use Rattle.set_ops.proofs.Combining.{first_from_second, second_from_first, ok_is}
use Rattle.set_ops.proofs.halves.combine_plain.Goals as goal

pub returns-in-Union : goal.returns-in-Union
returns-in-Union c =
    let a = c.args.first.now in
    let b = c.args.second.now in
    let read : c.lent-list.result ≡ a.entries = c.lent-list.ensures ∙ c.in_ok-list.ensures in
    rw (c.in-Union.is, c.requires.sizes) (
    ok_is
    (λ m. IsCombined UnionKeepingFirst b.chunk_size b.entries a.entries m.part m.common)
    (λ m. IsCombined Union b.chunk_size a.entries b.entries m.part m.common)
    (λ m is. second_from_first c.args.task.base b.chunk_size b.entries a.entries m.part m.common c.requires.second_over c.requires.first_over is)
    c.combine_with_list.result (rw (read, c.doing-task.ensures) at c.combine_with_list.ensures))

pub returns-in-UnionKeepingFirst : goal.returns-in-UnionKeepingFirst
returns-in-UnionKeepingFirst c =
    let a = c.args.first.now in
    let b = c.args.second.now in
    let read : c.lent-list.result ≡ a.entries = c.lent-list.ensures ∙ c.in_ok-list.ensures in
    rw (c.in-UnionKeepingFirst.is, c.requires.sizes) (
    ok_is
    (λ m. IsCombined Union b.chunk_size b.entries a.entries m.part m.common)
    (λ m. IsCombined UnionKeepingFirst b.chunk_size a.entries b.entries m.part m.common)
    (λ m is. first_from_second c.args.task.base b.chunk_size a.entries b.entries m.part m.common c.requires.first_over c.requires.second_over is)
    c.combine_with_list-in-UnionKeepingFirst.result (rw (read, c.doing-task-in-UnionKeepingFirst.ensures) at c.combine_with_list-in-UnionKeepingFirst.ensures))
