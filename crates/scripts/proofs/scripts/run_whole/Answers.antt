-- Proofs of `run_whole`, src/scripts.rt.
use Rattle.std.proofs.Common.{◌∙◌, sym, ap, rules}
use Rattle.scripts.proofs.Running.{nothing_done, runs_failed, runs_tied}
use Rattle.scripts.proofs.scripts.run_whole.Goals as goal

pub returns-in_err-block : goal.returns-in_err-block
returns-in_err-block g c = runs_failed _ _ _ _ _ _ _ c.from_residual.ensures.1 (nothing_done _ _ _)

pub returns-in_err-kept : goal.returns-in_err-kept
returns-in_err-kept g c = runs_failed _ _ _ _ _ _ _ c.from_residual-in_err-kept.ensures.1 (nothing_done _ _ _)

pub returns : goal.returns
returns g c =
    let name = sym (ap (λ o. o.writer) c.replies.view_is ∙ c.read_to_end-result.ensures.same_writer) in
    runs_tied g.W.Drain.bytes_written g.W.Drain.failures _ _ _ _ _ _ _ _ c.replies.inside.writer.now _ c.read_to_end-result.ensures.runs c.replies.view_is (search rules)
