-- Proofs of `refused_calls_break_the_least_rule`, src/laws.rt.
use Rattle.schedule.proofs.BrokenRuleLaws.{refused_exactly}
use Rattle.schedule.proofs.laws.refused_calls_break_the_least_rule.Goals as goal

pub returns : goal.returns
returns c = refused_exactly
