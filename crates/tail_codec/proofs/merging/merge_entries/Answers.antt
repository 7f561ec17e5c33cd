-- Proofs of `merge_entries`, src/merging.rt.
use Rattle.std.proofs.Common.{arith}
use Rattle.ascending_lists.proofs.MapKeys.{entries_rise}
use Rattle.ascending_lists.proofs.MapUnions.{exchanged}
use Rattle.tail_codec.proofs.merging.merge_entries.Goals as goal

pub returns-in-UnionKeepingFirst : goal.returns-in-UnionKeepingFirst
returns-in-UnionKeepingFirst c =
    let xs = c.args.first.now in
    let ys = c.args.second.now in
    let same = exchanged xs ys (entries_rise 0 xs (omega arith) c.requires.first) (entries_rise 0 ys (omega arith) c.requires.second) in
    rw (c.in-UnionKeepingFirst.is, same) c.merge_keeping_second-in-UnionKeepingFirst.ensures
