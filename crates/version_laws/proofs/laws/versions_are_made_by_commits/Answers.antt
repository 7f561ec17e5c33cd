-- Proofs of `versions_are_made_by_commits`, src/laws.rt.
use Rattle.version_laws.proofs.CommitLaws.{commit_makes, newest_of, version_of}
use Rattle.version_laws.proofs.laws.versions_are_made_by_commits.Goals as goal

pub returns-clause-graph : goal.returns-clause-graph
returns-clause-graph c = version_of

pub returns-clause-newest : goal.returns-clause-newest
returns-clause-newest c = newest_of

pub returns-clause-answer : goal.returns-clause-answer
returns-clause-answer c = commit_makes
