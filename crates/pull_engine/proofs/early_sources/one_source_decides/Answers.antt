-- Proofs of `one_source_decides`, src/early_sources.rt.
use Rattle.std.specs.List.{filter}
use Rattle.pull_engine.proofs.Deciding.{ascends_filter, greatest, least, one_number}
use Rattle.pull_engine.proofs.early_sources.one_source_decides.Goals as goal

pub returns-clause-greatest : goal.returns-clause-greatest
returns-clause-greatest c from old sources up = greatest old 0 (filter from sources) (ascends_filter from 0 sources up)

pub returns-clause-least : goal.returns-clause-least
returns-clause-least c from old sources up = least old 0 (filter from sources) (ascends_filter from 0 sources up)

pub returns-clause-any : goal.returns-clause-any
returns-clause-any c r is number old sources = one_number r is number old sources
