-- Proofs of `faults_are_the_broken_rules`, src/laws.rt.
use Rattle.type_laws.proofs.BrokenRules.{broken_rule_is_fault, fault_is_broken}
use Rattle.type_laws.proofs.laws.faults_are_the_broken_rules.Goals as goal

pub returns : goal.returns
returns c = record {
  broken = fault_is_broken;
  faults = broken_rule_is_fault;
}
