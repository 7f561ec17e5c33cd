-- Proofs of `faults_of_expressions_are_their_broken_rules`, src/laws.rt.
use Rattle.type_laws.proofs.ExpressionRules.{rules_and_parts}
use Rattle.type_laws.proofs.laws.faults_of_expressions_are_their_broken_rules.Goals as goal

pub returns : goal.returns
returns c = rules_and_parts
