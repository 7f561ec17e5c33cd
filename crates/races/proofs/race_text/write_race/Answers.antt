-- Proofs of `write_race`, src/race_text.rt.
use Rattle.std.proofs.Common.{rules}
use Rattle.scripts.specs.Script.{taken_by_writer}
use Rattle.races.specs.RaceText.{race_text}
use Rattle.races.proofs.Writing.{none_written, written_tied}
use Rattle.races.proofs.race_text.write_race.Goals as goal

pub returns-in_err-kept : goal.returns-in_err-kept
returns-in_err-kept g c = none_written _ _ _ c.from_residual.ensures.1

pub returns : goal.returns
returns g c =
    written_tied g.W.Drain.bytes_written g.W.Drain.failures _ _ (race_text c.args.race.now) (taken_by_writer (g.W.Drain.bytes_written c.args.writer.now) (g.W.Drain.failures c.args.writer.now)) _ _
    c.replies.inside.writer.now _ c.send_all-result.ensures.writes c.replies.view_is (search rules)
