-- Proofs of `found_changes_may_be_followed`, src/laws.rt.
use Rattle.follow_engine.proofs.Recorded.{changes_recorded}
use Rattle.follow_engine.proofs.laws.found_changes_may_be_followed.Goals as goal

pub returns : goal.returns
returns c = changes_recorded
