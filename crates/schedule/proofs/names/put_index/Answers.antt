-- Proofs of `put_index`, src/names.rt.
use Rattle.schedule.proofs.Indices.{found_last}
use Rattle.schedule.proofs.names.put_index.Goals as goal

pub returns-in_ok-push : goal.returns-in_ok-push
returns-in_ok-push c = λ other rest. rw c.in_ok-push.ensures.ok (found_last c.args.indices.now c.args.name.now c.args.index other rest)
