use Rattle.version_list.specs.Machine.{opened}
use Rattle.races.proofs.Commits.{IsAnswering}
use Rattle.races.proofs.racing.commit_each.Given as goal

-- the batches before those that are left are answered
abbrev pub invariant-loop-batch : goal.invariant-loop-batch
invariant-loop-batch g l =
    (goal.iterator-loop-batch g).can_next l.batch-iterator × (goal.iterator-loop-batch g).is_finite l.batch-iterator
    × IsAnswering (opened g.J.Naming.vertices g.J.Naming.room) l.initial.writer l.fn.batches.items l.batch-iterator.rest.items l.replies.items l.writer
