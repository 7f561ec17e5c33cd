-- Proofs of `reported_faults_are_the_least`, src/laws.rt.
use Rattle.expression_types.proofs.LeastLaws.{told_is_least}
use Rattle.types.specs.Program.{program_of}
use Rattle.type_laws.proofs.laws.reported_faults_are_the_least.Goals as goal

pub returns : goal.returns
returns c = λ source length f is. told_is_least (program_of source length).faults f is
