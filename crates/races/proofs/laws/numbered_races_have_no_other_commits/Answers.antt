-- Proofs of `numbered_races_have_no_other_commits`, src/laws.rt.
use Rattle.races.proofs.OwnCommits.{no_other_commits}
use Rattle.races.proofs.laws.numbered_races_have_no_other_commits.Goals as goal

pub returns : goal.returns
returns c = no_other_commits
