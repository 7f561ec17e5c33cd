-- Proofs of `reported_faults_are_the_least_broken_rules`, src/laws.rt.
use Rattle.type_laws.proofs.BrokenRules.{none_broken, reported_is_least, unbroken_is_kept}
use Rattle.type_laws.proofs.laws.reported_faults_are_the_least_broken_rules.Goals as goal

pub returns : goal.returns
returns c = record {
  least = reported_is_least;
  none = none_broken;
  kept = unbroken_is_kept;
}
