-- Proofs of `race_on`, src/racing.rt.
use denote.Builtin.{u64, usize}
use denote.Exit.{no}
use denote.Param.{param}
use denote.Param.Send.{IsSend, arg_send, param_send, sendable, shr_send}
use Rattle.std.proofs.Common.{◌∙◌, ap, length}
use Rattle.std.proofs.Crossing.{Vec-send, crosses, send as heap_send}
use Rattle.std.proofs.lemmas.Result.{IfOk-at_ok}
use Rattle.version_list.specs.Machine.{opened}
use Rattle.races.proofs.Crossing.{early_run_send, entrant_send, five_send}
use Rattle.races.proofs.Seats.{answered_all, length_passes, raced}
use Rattle.races.proofs.racing.race_on.Goals as goal

pub entrants-requires : goal.entrants-requires
entrants-requires g c = ap length c.requires.readers ∙ length_passes (length c.args.programs.plans.now)

size_send : IsSend usize
size_send = search sendable

number_send : IsSend u64
number_send = search sendable

-- the programs go to another thread with their readers, and their runs come back
pub join-ran-requires-send-F : goal.join-ran-requires-send-F
join-ran-requires-send-F g c κs within =
    param_send _ _ (arg_send _ no _ (five_send _ _ _ _ _ _ (shr_send _ _ _ c.type_bounds.sync-T) heap_send (Vec-send _ (entrant_send (param 0 g.row.J) g.J.Naming)) size_send number_send))

pub join-ran-requires-send-A : goal.join-ran-requires-send-A
join-ran-requires-send-A g c κs within = search (sendable, crosses, early_run_send) depth 30

pub returns-clause-raced : goal.returns-clause-raced
returns-clause-raced g c =
    let ran = IfOk-at_ok _ c.in_ok-ran.was c.join-ran.ensures.first in
    let base = opened g.J.Naming.vertices g.J.Naming.room in
    let answered = answered_all base c.args.writer _ c.args.batches.items _ _ c.in_ok-replies.was c.join-ran.ensures.second in
    raced g.J.Naming.vertices g.J.Naming.room _ c.args.batches.items _ c.args.programs.turns c.args.writer _ c.in_ok-replies.replies c.in_ok-runs.runs _ _ c.requires.writer answered c.token.ensures
    (ran.0 ∙ c.in_ok-entrants.ensures) c.in_ok-runs.ensures.ran
