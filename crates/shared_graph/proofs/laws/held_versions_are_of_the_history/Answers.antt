-- Proofs of `held_versions_are_of_the_history`, src/laws.rt.
use Rattle.std.proofs.Common.{◌∙◌}
use Rattle.shared_graph.proofs.Versions.{number_at, held_is}
use Rattle.shared_graph.proofs.laws.held_versions_are_of_the_history.Goals as goal

pub returns-clause-version : goal.returns-clause-version
returns-clause-version c = held_is

pub returns-clause-newest : goal.returns-clause-newest
returns-clause-newest c = λ n room log h legal holds. holds.version_is ∙ number_at n room log legal
