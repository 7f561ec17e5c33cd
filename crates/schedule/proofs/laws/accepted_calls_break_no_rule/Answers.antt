-- Proofs of `accepted_calls_break_no_rule`, src/laws.rt.
use Rattle.schedule.proofs.BrokenRuleLaws.{accepted_exactly}
use Rattle.schedule.proofs.laws.accepted_calls_break_no_rule.Goals as goal

pub returns : goal.returns
returns c = accepted_exactly
