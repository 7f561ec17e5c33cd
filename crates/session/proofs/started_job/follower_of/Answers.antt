-- Proofs of `follower_of`, src/started_job.rt.
use Rattle.session.proofs.started_job.follower_of.Goals as goal

pub returns-in-None : goal.returns-in-None
returns-in-None c = λ plan graph of. c.of_nothing.ensures.follower plan.functions graph
