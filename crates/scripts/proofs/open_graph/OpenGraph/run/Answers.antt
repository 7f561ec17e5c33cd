-- Proofs of `run`, src/open_graph.rt.
use Rattle.std.proofs.Common.{[], subst, append-nil}
use Rattle.replies.specs.Sending.{Emits}
use Rattle.replies.proofs.SendingLaws.{emits_then, emits_failed}
use Rattle.scripts.proofs.open_graph.OpenGraph.run.Goals as goal

pub returns-in_err-send_run-clause-emits : goal.returns-in_err-send_run-clause-emits
returns-in_err-send_run-clause-emits g c = emits_failed _ _ _ _ _ c.from_residual.ensures.1 c.in_err-send_run.ensures.emits

pub returns-clause-emits : goal.returns-clause-emits
returns-clause-emits g c =
    subst (λ text. Emits c.args.replies.now c.flush.new.self text c.flush.result) (append-nil _) (emits_then _ _ _ _ [] _ c.in_ok-send_run.ensures.emits c.flush.ensures.emits)
