-- Proofs of `of_nothing`, src/follower.rt.
use Rattle.run_records.proofs.follower.Follower.of_nothing.Goals as goal

pub returns-clause-follower : goal.returns-clause-follower
returns-clause-follower over c f g = record {
  former = tt;
  recorder = tt;
}
