-- Proofs of `begin`, src/changes.rt.
use Rattle.push_engine.proofs.changes.begin.Goals as goal

pub returns : goal.returns
returns c m steps are = c.begin.ensures c.args.context m steps
