-- Proofs of `run_all_early`, src/racing.rt.
use denote.Param.Send.{sendable}
use Rattle.std.proofs.lemmas.Result.{IfOk-weaker}
use Rattle.races.proofs.Crossing.{early_run_send, entrant_send}
use Rattle.races.proofs.Pairs.{all_early}
use Rattle.races.proofs.racing.run_all_early.Goals as goal

-- programs with their readers go to other threads, and what their runs gave comes back
pub map_vec-requires-send-J : goal.map_vec-requires-send-J
map_vec-requires-send-J g c κs within = search (sendable, entrant_send) depth 30

pub map_vec-requires-send-X : goal.map_vec-requires-send-X
map_vec-requires-send-X g c κs within = search (sendable, early_run_send) depth 30

pub returns : goal.returns
returns g c =
    all_early g.J.Naming.vertices c.args.turns c.args.workers c.args.entrants c.map_vec.result c.map_vec.ensures.len
    (IfOk-weaker c.map_vec.result _ _
    (λ v each i d below. let at = (each i d below).1 in record { job = at.job; is_job = at.job_is; same = at.call.met.0; early = at.call.met.1 })
    c.map_vec.ensures.each)
