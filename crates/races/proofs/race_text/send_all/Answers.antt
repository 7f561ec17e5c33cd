-- Proofs of `send_all`, src/race_text.rt.
use Rattle.std.proofs.Common.{[], ◌∙◌}
use Rattle.races.specs.RaceText.{race_text}
use Rattle.races.proofs.Writing.{failed_written, same_writer, sent_written}
use Rattle.races.proofs.race_text.send_all.Goals as goal

pub returns-in_err-send_race-clause-same_writer : goal.returns-in_err-send_race-clause-same_writer
returns-in_err-send_race-clause-same_writer g c = same_writer _ _ (race_text c.args.race.now) _ c.send_race.ensures

pub returns-in_err-send_race-clause-writes : goal.returns-in_err-send_race-clause-writes
returns-in_err-send_race-clause-writes g c = failed_written _ _ (race_text c.args.race.now) _ _ c.requires.kept c.from_residual.ensures.1 c.in_err-send_race.ensures

pub returns-clause-same_writer : goal.returns-clause-same_writer
returns-clause-same_writer g c = same_writer _ _ [] _ c.flush.ensures.emits ∙ same_writer _ _ (race_text c.args.race.now) _ c.send_race.ensures

pub returns-clause-writes : goal.returns-clause-writes
returns-clause-writes g c = sent_written _ _ _ (race_text c.args.race.now) _ c.requires.kept c.in_ok-send_race.ensures c.flush.ensures.emits c.flush.ensures.empty
